-- What holds of the steps of a routed CNOT. Assumes nothing.
use Rattle.std.proofs.Common.{ℕ, ◌-◌, ◌<◌, ◌≢◌, List, [], ◌∷◌, ◌++◌, map, reverse, length, sym, ◌∙◌, subst, inl, inr, arith}
use mathlib.Core.List.{reverse-cons}
use Rattle.std.specs.List.{flat_map, AllByRecursion}
use Rattle.std.proofs.ByRecursion.{All-append, All-weaker}
use Rattle.std.proofs.lemmas.List.{take-append-drop}
use Rattle.orders.proofs.Pairs.{all_front, all_back}
use Rattle.orders.proofs.Tables.{all_joined}
use Rattle.grid.specs.Grids.{Grid, NextTo, Beside, Neighbours}
use Rattle.route.specs.Paths.{Chain, FromTo, Stepped}
use Rattle.cnot.specs.declared.link.Link.{Link}
use Rattle.cnot.specs.Links.{front, final, links_from, links}
use Rattle.cnot.specs.Steps.{Step, cnot, cnot_over, swap_over, routed}
use Rattle.cnot.proofs.Links.{length-links}
use Rattle.cnot.proofs.Routed.{length-routed}
use Rattle.plan.specs.Listings.{JoinsNeighbours}

-- what holds of the CNOT over a link both ways
abbrev pub BothWays : (Step → Type 0) → Link → Type 0
BothWays P l = P (cnot l.time l.from l.to) × P (cnot l.time l.to l.from)

module _ (P : Step → Type 0) where
  all_reverse : (ls : List Link) → AllByRecursion (BothWays P) ls → AllByRecursion (BothWays P) (reverse ls)
  all_reverse [] a = tt
  all_reverse (l ∷ ls) a = subst (AllByRecursion (BothWays P)) (sym (reverse-cons l ls)) (All-append (BothWays P) (reverse ls) (l ∷ []) (all_reverse ls a.1) (a.0, tt))

  all_swaps : (ls : List Link) → AllByRecursion (BothWays P) ls → AllByRecursion P (flat_map swap_over ls)
  all_swaps ls a = all_joined P swap_over ls (All-weaker (BothWays P) (λ l. AllByRecursion P (swap_over l)) (λ l b. (b.0, (b.1, (b.0, tt)))) ls a)

  all_cnots : (ls : List Link) → AllByRecursion (BothWays P) ls → AllByRecursion P (map cnot_over ls)
  all_cnots [] a = tt
  all_cnots (l ∷ ls) a = (a.0.0, all_cnots ls a.1)

  -- what holds of the CNOTs over all links both ways holds of the whole routed CNOT
  pub all_routed : (ls : List Link) → AllByRecursion (BothWays P) ls → AllByRecursion P (routed ls)
  all_routed ls a =
      let whole = subst (AllByRecursion (BothWays P)) (sym (take-append-drop (length ls - 1) ls)) a in
      let before = all_front (BothWays P) (front ls) (final ls) whole in
      let behind = all_back (BothWays P) (front ls) (final ls) whole in
      All-append P (flat_map swap_over (front ls)) (map cnot_over (final ls) ++ flat_map swap_over (reverse (front ls))) (all_swaps (front ls) before)
      (All-append P (map cnot_over (final ls)) (flat_map swap_over (reverse (front ls))) (all_cnots (final ls) behind) (all_swaps (reverse (front ls)) (all_reverse (front ls) before)))

-- neighbours, both ways round
next_to_sym : (m n : ℕ) → NextTo m n → NextTo n m
next_to_sym m n (inl e) = inr e
next_to_sym m n (inr e) = inl e

beside_sym : (p q : ℕ × ℕ) → Beside p q → Beside q p
beside_sym p q (inl h) = inl (sym h.0, next_to_sym p.0 q.0 h.1)
beside_sym p q (inr h) = inr (sym h.0, next_to_sym p.1 q.1 h.1)

pub neighbours_sym : (g : Grid) (c d : ℕ) → Neighbours g c d → Neighbours g d c
neighbours_sym g c d h = (h.1, h.0, beside_sym _ _ h.2)

-- the step joins neighbours
abbrev pub Joined : Grid → Step → Type 0
Joined g s = JoinsNeighbours g s.action

module _ (g : Grid) (time : ℕ → ℕ → ℕ) where
  links_joined_from : (a : ℕ) (cs : List ℕ) → Chain (Neighbours g) a cs → AllByRecursion (BothWays (Joined g)) (links_from time a cs)
  links_joined_from a [] h = tt
  links_joined_from a (b ∷ cs) h = ((h.0, neighbours_sym g a b h.0), links_joined_from b cs h.1)

  links_joined : (cs : List ℕ) → Stepped g cs → AllByRecursion (BothWays (Joined g)) (links time cs)
  links_joined [] h = tt
  links_joined (a ∷ cs) h = links_joined_from a cs h

  -- along a path by steps between neighbours each step joins neighbours
  pub routed_joined : (cs : List ℕ) → Stepped g cs → AllByRecursion (Joined g) (routed (links time cs))
  routed_joined cs h = all_routed (Joined g) (links time cs) (links_joined cs h)

path_long : (a z : ℕ) (cs : List ℕ) → a ≢ z → FromTo a z cs → 1 < length cs
path_long a z [] n h = absurd h
path_long a z (c ∷ []) n h = absurd (n (sym h.0 ∙ h.1))
path_long a z (c ∷ b ∷ cs) n h = omega arith

-- there is a step along a path between two different cells
pub some_step : (time : ℕ → ℕ → ℕ) (a z : ℕ) (cs : List ℕ) → a ≢ z → FromTo a z cs → 0 < length (routed (links time cs))
some_step time a z cs n h =
    let l = path_long a z cs n h in
    let m = length-links time cs in
    let r = length-routed (links time cs) (omega arith) in
    omega arith
