-- The steps of a CNOT along a path act as the CNOT of its ends. Assumes nothing.
use Rattle.std.proofs.Common.{◌≡◌, ℕ, suc, ◌-◌, ◌<◌, false, ◌≢◌, List, [], ◌∷◌, ◌++◌, map, reverse, length, take, drop, sym, refl, ap, ◌∙◌, ap₂, subst, subst₂, append_assoc, arith, eq-eqb, ne_eqb}
use mathlib.Core.List.{reverse-cons}
use Rattle.std.specs.List.{flat_map, AllByRecursion}
use Rattle.std.proofs.lemmas.Grind.{flat_map-append}
use Rattle.orders.proofs.Pairs.{all_front}
use Rattle.circuit.specs.declared.action.Action.{Action}
use Rattle.circuit.specs.Actions.{is_h, is_read, exchanged}
use Rattle.route.specs.Paths.{last, FromTo, NoTwice}
use Rattle.cnot.specs.declared.link.Link.{Link}
use Rattle.cnot.specs.Links.{front, final, link, links_from, links}
use Rattle.cnot.specs.Steps.{Step, cnot_over, swap_over, routed}
use Rattle.register.specs.Models.{Fit, swapped, Model}
use Rattle.listings.proofs.Steps.{BothWays, all_routed}
use Rattle.promise.proofs.Exchanges.{at_size, act_size}

-- the steps over links, the swap over the first link outermost
module _ (l m : Link) (ls : List Link) where
  front_step : front (l ∷ m ∷ ls) ≡ l ∷ front (m ∷ ls)
  front_step = ap (λ n. take n (l ∷ m ∷ ls)) {x = length (l ∷ m ∷ ls) - 1} {y = suc (length (m ∷ ls) - 1)} (omega arith)

  final_step : final (l ∷ m ∷ ls) ≡ final (m ∷ ls)
  final_step = ap (λ n. drop n (l ∷ m ∷ ls)) {x = length (l ∷ m ∷ ls) - 1} {y = suc (length (m ∷ ls) - 1)} (omega arith)

  back_step : flat_map swap_over (reverse (l ∷ front (m ∷ ls))) ≡ flat_map swap_over (reverse (front (m ∷ ls))) ++ swap_over l
  back_step = ap (flat_map swap_over) (reverse-cons l (front (m ∷ ls))) ∙ flat_map-append swap_over (reverse (front (m ∷ ls))) (l ∷ [])

  routed_step : routed (l ∷ m ∷ ls) ≡ swap_over l ++ (routed (m ∷ ls) ++ swap_over l)
  routed_step =
      ap₂ (λ fs es. flat_map swap_over fs ++ (map cnot_over es ++ flat_map swap_over (reverse fs))) front_step final_step
      ∙ ap (λ zs. swap_over l ++ zs)
      (ap (λ ds. flat_map swap_over (front (m ∷ ls)) ++ (map cnot_over (final (m ∷ ls)) ++ ds)) back_step
      ∙ ap (λ zs. flat_map swap_over (front (m ∷ ls)) ++ zs) (sym (append_assoc (map cnot_over (final (m ∷ ls))) (flat_map swap_over (reverse (front (m ∷ ls)))) (swap_over l)))
      ∙ sym (append_assoc (flat_map swap_over (front (m ∷ ls))) (map cnot_over (final (m ∷ ls)) ++ flat_map swap_over (reverse (front (m ∷ ls)))) (swap_over l)))

-- the steps of a CNOT along the path a, b, cs
abbrev pub along : (ℕ → ℕ → ℕ) → ℕ → ℕ → List ℕ → List Step
along time a b [] = cnot_over (link time a b) ∷ []
along time a b (c ∷ cs) = swap_over (link time a b) ++ (along time b c cs ++ swap_over (link time a b))

pub routed_along : (time : ℕ → ℕ → ℕ) (a b : ℕ) (cs : List ℕ) → routed (links_from time a (b ∷ cs)) ≡ along time a b cs
routed_along time a b [] = refl
routed_along time a b (c ∷ cs) =
    routed_step (link time a b) (link time b c) (links_from time c cs) ∙ ap (λ zs. swap_over (link time a b) ++ (zs ++ swap_over (link time a b))) (routed_along time b c cs)

exchanged_second : (a b : ℕ) → a ≢ b → exchanged a b b ≡ a
exchanged_second a b n = rw (ne_eqb b a (λ e. n (sym e)), eq-eqb b b refl)

exchanged_other : (a b c : ℕ) → a ≢ c → b ≢ c → exchanged a b c ≡ c
exchanged_other a b c n m = rw (ne_eqb c a (λ e. n (sym e)), ne_eqb c b (λ e. m (sym e)))

all_last : (P : ℕ → Type 0) (c : ℕ) (cs : List ℕ) → P c → AllByRecursion P cs → P (last c cs)
all_last P c [] p a = p
all_last P c (d ∷ cs) p a = all_last P d cs a.0 a.1

-- the state after the steps
abbrev pub runs : (M : Model) → List Step → M.State → M.State
runs M [] s = s
runs M (p ∷ ps) s = runs M ps (M.act p.action s)

-- a register of n wires takes the step
abbrev pub StepFits : Model → ℕ → Step → Type 0
StepFits M n p = Fit n M.takes p.action

pub runs_append : (M : Model) (ps qs : List Step) (s : M.State) → runs M (ps ++ qs) s ≡ runs M qs (runs M ps s)
runs_append M [] qs s = refl
runs_append M (p ∷ ps) qs s = runs_append M ps qs (M.act p.action s)

module _ (M : Model) (n : ℕ) (time : ℕ → ℕ → ℕ) where
  -- the ends of the path are wires
  along_ends : (a b : ℕ) (cs : List ℕ) → AllByRecursion (StepFits M n) (along time a b cs) → (a < n) × (last b cs < n)
  along_ends a b [] f = (f.0.on_wires.within.0, f.0.on_wires.within.1.0)
  along_ends a b (c ∷ cs) f = (f.0.on_wires.within.0, (along_ends b c cs (all_front (StepFits M n) (along time b c cs) (swap_over (link time a b)) f.1.1.1)).1)

  along_fit : (a b : ℕ) (cs : List ℕ) → NoTwice (a ∷ b ∷ cs) → AllByRecursion (StepFits M n) (along time a b cs) → Fit n M.takes (Action.Cnot a (last b cs))
  along_fit a b cs u f =
      let e = along_ends a b cs f in
      record { taken = refl; on_wires = record { within = (e.0, (e.1, tt)); distinct = all_last (λ c. a ≢ c) b cs u.0.0 u.0.1 } }

  swapped_size : (a b : ℕ) (s : M.State) → M.size s ≡ n → Fit n M.takes (Action.Cnot a b) → M.size (swapped M.act a b s) ≡ n
  swapped_size a b s e f =
      let w = f.on_wires in
      let back : Fit n M.takes (Action.Cnot b a) = record { taken = refl; on_wires = record { within = (w.within.1.0, (w.within.0, tt)); distinct = λ d. w.distinct (sym d) } } in
      let t = M.act (Action.Cnot a b) s in
      let u = M.act (Action.Cnot b a) t in
      let g = act_size M n s (Action.Cnot a b) e f in
      let h = act_size M n t (Action.Cnot b a) g back in
      act_size M n u (Action.Cnot a b) h f

  along_acts : (a b : ℕ) (cs : List ℕ) → NoTwice (a ∷ b ∷ cs) → AllByRecursion (StepFits M n) (along time a b cs) → (s : M.State) → M.size s ≡ n
      → runs M (along time a b cs) s ≡ M.act (Action.Cnot a (last b cs)) s
  along_acts a b [] u f s e = refl
  along_acts a b (c ∷ cs) u f s e =
      let inner = all_front (StepFits M n) (along time b c cs) (swap_over (link time a b)) f.1.1.1 in
      let w = f.0.on_wires in
      runs_append M (along time b c cs) (swap_over (link time a b)) (swapped M.act a b s)
      ∙ ap (swapped M.act a b) (along_acts b c cs u.1 inner (swapped M.act a b s) (swapped_size a b s e f.0))
      ∙ M.carried a b (Action.Cnot b (last c cs)) s u.0.0 (subst (λ m. a < m) (sym e) w.within.0) (subst (λ m. b < m) (sym e) w.within.1.0) (at_size M n s (Action.Cnot b (last c cs)) e (along_fit b c cs u.1 inner))
      ∙ ap₂ (λ v z. M.act (Action.Cnot v z) s) (exchanged_second a b u.0.0) (exchanged_other a b (last c cs) (all_last (λ d. a ≢ d) c cs u.0.1.0 u.0.1.1) (all_last (λ d. b ≢ d) c cs u.1.0.0 u.1.0.1))

  fits_along : (a b : ℕ) (cs : List ℕ) → AllByRecursion (StepFits M n) (routed (links_from time a (b ∷ cs))) → AllByRecursion (StepFits M n) (along time a b cs)
  fits_along a b cs f = subst (AllByRecursion (StepFits M n)) (routed_along time a b cs) f

  -- a routed CNOT acts as the CNOT of the path's ends
  pub routed_acts : (a z : ℕ) (cs : List ℕ) → a ≢ z → FromTo a z cs → NoTwice cs → AllByRecursion (StepFits M n) (routed (links time cs)) → (s : M.State) → M.size s ≡ n
      → runs M (routed (links time cs)) s ≡ M.act (Action.Cnot a z) s
  routed_acts a z [] w h u f s e = absurd h
  routed_acts a z (c ∷ []) w h u f s e = absurd (w (sym h.0 ∙ h.1))
  routed_acts a z (c ∷ b ∷ cs) w h u f s e =
      ap (λ ps. runs M ps s) (routed_along time c b cs) ∙ along_acts c b cs u (fits_along c b cs f) s e ∙ ap₂ (λ x y. M.act (Action.Cnot x y) s) h.0 h.1

  -- a register that takes the steps takes the CNOT
  pub routed_fit : (a z : ℕ) (cs : List ℕ) → a ≢ z → FromTo a z cs → NoTwice cs → AllByRecursion (StepFits M n) (routed (links time cs)) → Fit n M.takes (Action.Cnot a z)
  routed_fit a z [] w h u f = absurd h
  routed_fit a z (c ∷ []) w h u f = absurd (w (sym h.0 ∙ h.1))
  routed_fit a z (c ∷ b ∷ cs) w h u f = subst₂ (λ x y. Fit n M.takes (Action.Cnot x y)) h.0 h.1 (along_fit c b cs u (fits_along c b cs f))

-- the step neither reads nor counts as H
abbrev pub Quiet : Step → Type 0
Quiet p = (is_h p.action ≡ false) × (is_read p.action ≡ false)

links_quiet : (ls : List Link) → AllByRecursion (BothWays Quiet) ls
links_quiet [] = tt
links_quiet (l ∷ ls) = (((refl, refl), (refl, refl)), links_quiet ls)

-- no step of a routed CNOT reads or counts as H
pub routed_quiet : (ls : List Link) → AllByRecursion Quiet (routed ls)
routed_quiet ls = all_routed Quiet ls (links_quiet ls)
