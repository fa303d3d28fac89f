-- A gate's operations act as the gate at its homes. Assumes nothing.
use Rattle.std.proofs.Common.{◌≡◌, ℕ, ◌+◌, true, cond, List, [], ◌∷◌, ◌++◌, map, sym, refl, ap, ◌∙◌, zero-add}
use Rattle.std.specs.List.{flat_map, AllByRecursion}
use Rattle.std.proofs.ByRecursion.{All-weaker}
use Rattle.orders.proofs.Pairs.{all_front, all_back}
use Rattle.circuit.specs.declared.action.Action.{Action}
use Rattle.circuit.specs.declared.operation.Operation.{Operation}
use Rattle.circuit.specs.declared.operation.Reading.{Reading}
use Rattle.circuit.specs.Actions.{first_wire, is_h, is_read, carry}
use Rattle.circuit.specs.Operations.{one_if, h_count, read_count, reading}
use Rattle.route.specs.Routes.{Route}
use Rattle.cnot.specs.Links.{links}
use Rattle.cnot.specs.Steps.{Step, placed}
use Rattle.plan.specs.Plans.{Plan, action_at, start_at, choice_at, home, time_between}
use Rattle.plan.specs.Durations.{path_of}
use Rattle.plan.specs.Blocks.{steps_of, steps, block, direct_step}
use Rattle.register.specs.Models.{is_taken, Fit, Model, Fits, after}
use Rattle.register.specs.Numbers.{renumbered, tells}
use Rattle.register.proofs.Numbers.{numbers_model}
use Rattle.listings.proofs.Passes.{Led}
use Rattle.promise.proofs.Exchanges.{act_size}
use Rattle.promise.proofs.Routes.{runs, StepFits, routed_acts, routed_fit, Quiet, routed_quiet}

pub after_append : (M : Model) (xs ys : List Operation) (s : M.State) → after M (xs ++ ys) s ≡ after M ys (after M xs s)
after_append M [] ys s = refl
after_append M (x ∷ xs) ys s = after_append M xs ys (M.act x.action s)

after_placed : (M : Model) (g t : ℕ) (ps : List Step) (s : M.State) → after M (placed g t ps) s ≡ runs M ps s
after_placed M g t [] s = refl
after_placed M g t (p ∷ ps) s = after_placed M g (t + p.length) ps (M.act p.action s)

fits_placed : (M : Model) (n g t : ℕ) (ps : List Step) → AllByRecursion (Fits M n) (placed g t ps) → AllByRecursion (StepFits M n) ps
fits_placed M n g t [] a = tt
fits_placed M n g t (p ∷ ps) a = (a.0, fits_placed M n g (t + p.length) ps a.1)

h_quiet : (g t : ℕ) (ps : List Step) (ys : List Operation) → AllByRecursion Quiet ps → h_count (placed g t ps ++ ys) ≡ h_count ys
h_quiet g t [] ys a = refl
h_quiet g t (p ∷ ps) ys a = ap (λ b. one_if b + h_count (placed g (t + p.length) ps ++ ys)) a.0.0 ∙ zero-add _ ∙ h_quiet g (t + p.length) ps ys a.1

reads_quiet : (g t : ℕ) (ps : List Step) (ys : List Operation) → AllByRecursion Quiet ps → read_count (placed g t ps ++ ys) ≡ read_count ys
reads_quiet g t [] ys a = refl
reads_quiet g t (p ∷ ps) ys a = ap (λ b. one_if b + read_count (placed g (t + p.length) ps ++ ys)) a.0.1 ∙ zero-add _ ∙ reads_quiet g (t + p.length) ps ys a.1

tells_quiet : (mark n g t : ℕ) (ps : List Step) (ys : List Operation) (row : ℕ → ℕ) → AllByRecursion Quiet ps → tells mark (placed g t ps ++ ys) row ≡ tells mark ys (runs (numbers_model mark n) ps row)
tells_quiet mark n g t [] ys row a = refl
tells_quiet mark n g t (p ∷ ps) ys row a =
    let r = tells mark (placed g (t + p.length) ps ++ ys) (renumbered mark p.action row) in
    ap (λ b. cond b (reading g (row (first_wire p.action)) ∷ r) r) a.0.1 ∙ tells_quiet mark n g (t + p.length) ps ys (renumbered mark p.action row) a.1

module _ (p : Plan) (R : Route) where
  -- the gate g is led along a lawful path
  abbrev pub GateLed : ℕ → Type 0
  GateLed g = Led p R (choice_at p g) (action_at p g)

  h_steps : (c : ℕ) (x : Action) (g t : ℕ) (ys : List Operation) → h_count (placed g t (steps_of p R c x) ++ ys) ≡ one_if (is_h (carry (home p) x)) + h_count ys
  h_steps c (Action.One k l) g t ys = refl
  h_steps c (Action.Cnot l m) g t ys = h_quiet g t (steps_of p R c (Action.Cnot l m)) ys (routed_quiet (links (time_between p) (path_of p R c l m))) ∙ sym (zero-add (h_count ys))

  reads_steps : (c : ℕ) (x : Action) (g t : ℕ) (ys : List Operation) → read_count (placed g t (steps_of p R c x) ++ ys) ≡ one_if (is_read (carry (home p) x)) + read_count ys
  reads_steps c (Action.One k l) g t ys = refl
  reads_steps c (Action.Cnot l m) g t ys = reads_quiet g t (steps_of p R c (Action.Cnot l m)) ys (routed_quiet (links (time_between p) (path_of p R c l m))) ∙ sym (zero-add (read_count ys))

  -- the blocks have as many H as the gates
  pub blocks_h : (gs : List ℕ) → h_count (flat_map (block p R) gs) ≡ h_count (map (direct_step p) gs)
  blocks_h [] = refl
  blocks_h (g ∷ gs) = h_steps (choice_at p g) (action_at p g) g (start_at p g) (flat_map (block p R) gs) ∙ ap (λ n. one_if (is_h (carry (home p) (action_at p g))) + n) (blocks_h gs)

  -- the blocks have as many reads as the gates
  pub blocks_reads : (gs : List ℕ) → read_count (flat_map (block p R) gs) ≡ read_count (map (direct_step p) gs)
  blocks_reads [] = refl
  blocks_reads (g ∷ gs) = reads_steps (choice_at p g) (action_at p g) g (start_at p g) (flat_map (block p R) gs) ∙ ap (λ n. one_if (is_read (carry (home p) (action_at p g))) + n) (blocks_reads gs)

  module _ (M : Model) (n : ℕ) where
    steps_act : (c : ℕ) (x : Action) → Led p R c x → AllByRecursion (StepFits M n) (steps_of p R c x) → (s : M.State) → M.size s ≡ n → runs M (steps_of p R c x) s ≡ M.act (carry (home p) x) s
    steps_act c (Action.One k l) w f s e = refl
    steps_act c (Action.Cnot l m) w f s e = routed_acts M n (time_between p) (home p l) (home p m) (path_of p R c l m) w.0 w.1.from_to w.1.no_twice f s e

    steps_fit : (c : ℕ) (x : Action) → Led p R c x → AllByRecursion (StepFits M n) (steps_of p R c x) → Fit n M.takes (carry (home p) x)
    steps_fit c (Action.One k l) w f = f.0
    steps_fit c (Action.Cnot l m) w f = routed_fit M n (time_between p) (home p l) (home p m) (path_of p R c l m) w.0 w.1.from_to w.1.no_twice f

    block_steps : (g : ℕ) (gs : List ℕ) → AllByRecursion (Fits M n) (flat_map (block p R) (g ∷ gs)) → AllByRecursion (StepFits M n) (steps p R g)
    block_steps g gs f = fits_placed M n g (start_at p g) (steps p R g) (all_front (Fits M n) (block p R g) (flat_map (block p R) gs) f)

    block_rest : (g : ℕ) (gs : List ℕ) → AllByRecursion (Fits M n) (flat_map (block p R) (g ∷ gs)) → AllByRecursion (Fits M n) (flat_map (block p R) gs)
    block_rest g gs f = all_back (Fits M n) (block p R g) (flat_map (block p R) gs) f

    -- a register that takes the blocks takes the gates
    pub blocks_fit : (gs : List ℕ) → AllByRecursion GateLed gs → AllByRecursion (Fits M n) (flat_map (block p R) gs) → AllByRecursion (Fits M n) (map (direct_step p) gs)
    blocks_fit [] r f = tt
    blocks_fit (g ∷ gs) r f = (steps_fit (choice_at p g) (action_at p g) r.0 (block_steps g gs f), blocks_fit gs r.1 (block_rest g gs f))

    -- the blocks end in the state of the gates at their homes
    pub blocks_after : (gs : List ℕ) → AllByRecursion GateLed gs → AllByRecursion (Fits M n) (flat_map (block p R) gs) → (s : M.State) → M.size s ≡ n → after M (flat_map (block p R) gs) s ≡ after M (map (direct_step p) gs) s
    blocks_after [] r f s e = refl
    blocks_after (g ∷ gs) r f s e =
        let x = carry (home p) (action_at p g) in
        after_append M (block p R g) (flat_map (block p R) gs) s
        ∙ ap (after M (flat_map (block p R) gs)) (after_placed M g (start_at p g) (steps p R g) s ∙ steps_act (choice_at p g) (action_at p g) r.0 (block_steps g gs f) s e)
        ∙ blocks_after gs r.1 (block_rest g gs f) (M.act x s) (act_size M n s x e (steps_fit (choice_at p g) (action_at p g) r.0 (block_steps g gs f)))

  always_taken : (x : Action) → is_taken (λ k. true) x ≡ true
  always_taken (Action.One k a) = refl
  always_taken (Action.Cnot a b) = refl

  -- what fits a register fits the numbers
  pub fits_numbers : (M : Model) (mark n : ℕ) (os : List Operation) → AllByRecursion (Fits M n) os → AllByRecursion (Fits (numbers_model mark n) n) os
  fits_numbers M mark n os f = All-weaker (Fits M n) (Fits (numbers_model mark n) n) (λ o h. record { taken = always_taken o.action; on_wires = h.on_wires }) os f

  module _ (mark n : ℕ) where
    abbrev told_then : Action → ℕ → List Operation → (ℕ → ℕ) → List Reading
    told_then x g ys row = let r = tells mark ys (renumbered mark x row) in cond (is_read x) (reading g (row (first_wire x)) ∷ r) r

    tells_steps : (c : ℕ) (x : Action) (g t : ℕ) (ys : List Operation) → Led p R c x → AllByRecursion (StepFits (numbers_model mark n) n) (steps_of p R c x) → (row : ℕ → ℕ)
        → tells mark (placed g t (steps_of p R c x) ++ ys) row ≡ told_then (carry (home p) x) g ys row
    tells_steps c (Action.One k l) g t ys w f row = refl
    tells_steps c (Action.Cnot l m) g t ys w f row =
        tells_quiet mark n g t (steps_of p R c (Action.Cnot l m)) ys row (routed_quiet (links (time_between p) (path_of p R c l m))) ∙ ap (tells mark ys) (steps_act (numbers_model mark n) n c (Action.Cnot l m) w f row refl)

    -- the blocks tell what the gates at their homes tell
    pub blocks_tell : (gs : List ℕ) → AllByRecursion GateLed gs → AllByRecursion (Fits (numbers_model mark n) n) (flat_map (block p R) gs) → (row : ℕ → ℕ) → tells mark (flat_map (block p R) gs) row ≡ tells mark (map (direct_step p) gs) row
    blocks_tell [] r f row = refl
    blocks_tell (g ∷ gs) r f row =
        let x = carry (home p) (action_at p g) in
        tells_steps (choice_at p g) (action_at p g) g (start_at p g) (flat_map (block p R) gs) r.0 (block_steps (numbers_model mark n) n g gs f) row
        ∙ ap (λ u. cond (is_read x) (reading g (row (first_wire x)) ∷ u) u) (blocks_tell gs r.1 (block_rest (numbers_model mark n) n g gs f) (renumbered mark x row))
