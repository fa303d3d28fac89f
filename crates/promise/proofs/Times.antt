-- When the operations of gates run, and on which cells: those of gates that start in order, and are apart where they reserve a common cell, start in order wherever they meet. Assumes nothing.
use Rattle.std.proofs.Common.{◌≡◌, ℕ, ◌+◌, ◌<◌, ◌≤◌, Bool, true, ◌⊎◌, List, [], ◌∷◌, length, refl, inl, inr, eqb, eq-eqb, arith, rules}
use Rattle.std.specs.List.{flat_map, AllByRecursion}
use Rattle.std.proofs.ByRecursion.{All-append, All-weaker}
use Rattle.orders.specs.Lists.{Pairs, In, Common}
use Rattle.orders.proofs.Lists.{pairs_append}
use Rattle.orders.proofs.Pairs.{all_both}
use Rattle.circuit.specs.declared.action.Action.{Action}
use Rattle.circuit.specs.declared.operation.Operation.{Operation}
use Rattle.circuit.specs.Actions.{wires, carry}
use Rattle.circuit.specs.Operations.{cells_of}
use Rattle.grid.specs.Grids.{Grid, Neighbours}
use Rattle.route.specs.Paths.{Chain, Stepped}
use Rattle.route.specs.Routes.{Route}
use Rattle.cnot.specs.Links.{links_from, links}
use Rattle.cnot.specs.Steps.{Step, lasting, routed, placed}
use Rattle.cnot.proofs.Laying.{lasting-cons}
use Rattle.plan.specs.Plans.{Plan, action_at, start_at, choice_at, home, time_between}
use Rattle.plan.specs.Durations.{path_of, reserved_of, reserved}
use Rattle.plan.specs.Blocks.{steps_of, steps, block}
use Rattle.listings.proofs.Steps.{BothWays, all_routed, some_step}
use Rattle.listings.proofs.Passes.{Led}
use Rattle.promise.proofs.Exchanges.{Meet}

-- the step takes time
abbrev pub TakesTime : Step → Type 0
TakesTime p = 0 < p.length

links_timed_from : (g : Grid) (time : ℕ → ℕ → ℕ) (a : ℕ) (cs : List ℕ) → ((c d : ℕ) → Neighbours g c d → 0 < time c d) → Chain (Neighbours g) a cs → AllByRecursion (BothWays TakesTime) (links_from time a cs)
links_timed_from g time a [] takes h = tt
links_timed_from g time a (b ∷ cs) takes h = ((takes a b h.0, takes a b h.0), links_timed_from g time b cs takes h.1)

-- along a path by steps between neighbours each step takes time
pub routed_timed : (g : Grid) (time : ℕ → ℕ → ℕ) (cs : List ℕ) → ((c d : ℕ) → Neighbours g c d → 0 < time c d) → Stepped g cs → AllByRecursion TakesTime (routed (links time cs))
routed_timed g time [] takes h = all_routed TakesTime [] tt
routed_timed g time (a ∷ cs) takes h = all_routed TakesTime (links_from time a cs) (links_timed_from g time a cs takes h)

-- a step names only cells of r
abbrev KeptBy : (ℕ → Bool) → Step → Type 0
KeptBy r p = (c : ℕ) → In c (wires p.action) → r c ≡ true

two_kept : (r : ℕ → Bool) (a b c : ℕ) → r a ≡ true → r b ≡ true → In c (a ∷ b ∷ []) → r c ≡ true
two_kept r a b c h k i = search rules

links_kept_from : (r : ℕ → Bool) (time : ℕ → ℕ → ℕ) (a : ℕ) (cs : List ℕ) → r a ≡ true → AllByRecursion (λ c. r c ≡ true) cs → AllByRecursion (BothWays (KeptBy r)) (links_from time a cs)
links_kept_from r time a [] h k = tt
links_kept_from r time a (b ∷ cs) h k = ((λ c i. two_kept r a b c h k.0 i, λ c i. two_kept r b a c k.0 h i), links_kept_from r time b cs k.0 k.1)

routed_kept : (r : ℕ → Bool) (time : ℕ → ℕ → ℕ) (cs : List ℕ) → AllByRecursion (λ c. r c ≡ true) cs → AllByRecursion (KeptBy r) (routed (links time cs))
routed_kept r time [] k = all_routed (KeptBy r) [] tt
routed_kept r time (a ∷ cs) k = all_routed (KeptBy r) (links_from time a cs) (links_kept_from r time a cs k.0 k.1)

some_lasts : (ss : List Step) → 0 < length ss → AllByRecursion TakesTime ss → 0 < lasting ss
some_lasts [] h a = absurd (omega arith)
some_lasts (s ∷ ss) h a = let e = lasting-cons s ss in let k = a.0 in omega arith

-- the operations of a gate, from t on
placed_within : (g t : ℕ) (ps : List Step) → AllByRecursion TakesTime ps → AllByRecursion (λ o. (t ≤ o.start) × (o.start < t + lasting ps)) (placed g t ps)
placed_within g t [] a = tt
placed_within g t (p ∷ ps) a =
    let h = a.0 in
    let e = lasting-cons p ps in (
      (omega arith, omega arith),
      All-weaker (λ o. (t + p.length ≤ o.start) × (o.start < t + p.length + lasting ps)) (λ o. (t ≤ o.start) × (o.start < t + lasting (p ∷ ps))) (λ o k. let u = k.0 in let v = k.1 in (omega arith, omega arith)) (placed g (t + p.length) ps) (placed_within g (t + p.length) ps a.1),
    )

placed_order : (g t : ℕ) (ps : List Step) → AllByRecursion TakesTime ps → Pairs (λ o q. Meet o q → o.start < q.start) (placed g t ps)
placed_order g t [] a = tt
placed_order g t (p ∷ ps) a =
    let h = a.0 in (
      All-weaker (λ o. (t + p.length ≤ o.start) × (o.start < t + p.length + lasting ps)) (λ o. Common (wires p.action) (cells_of o) → t < o.start) (λ o k m. let u = k.0 in omega arith) (placed g (t + p.length) ps) (placed_within g (t + p.length) ps a.1),
      placed_order g (t + p.length) ps a.1,
    )

placed_kept : (r : ℕ → Bool) (g t : ℕ) (ps : List Step) → AllByRecursion (KeptBy r) ps → AllByRecursion (λ o. (c : ℕ) → In c (cells_of o) → r c ≡ true) (placed g t ps)
placed_kept r g t [] a = tt
placed_kept r g t (p ∷ ps) a = (a.0, placed_kept r g (t + p.length) ps a.1)

own : (a c : ℕ) → In c (a ∷ []) → eqb c a ≡ true
own a c (inl e) = eq-eqb c a e
own a c (inr e) = absurd e

module _ (p : Plan) (R : Route) where
  steps_kept : (c : ℕ) (x : Action) → Led p R c x → AllByRecursion (KeptBy (reserved_of p R c x)) (steps_of p R c x)
  steps_kept c (Action.One k l) w = (own (home p l), tt)
  steps_kept c (Action.Cnot l m) w = routed_kept (reserved_of p R c (Action.Cnot l m)) (time_between p) (path_of p R c l m) w.1.kept

  steps_last : (c : ℕ) (x : Action) → Led p R c x → AllByRecursion TakesTime (steps_of p R c x) → 0 < lasting (steps_of p R c x)
  steps_last c (Action.One k l) w a = some_lasts (steps_of p R c (Action.One k l)) (omega arith) a
  steps_last c (Action.Cnot l m) w a = some_lasts (steps_of p R c (Action.Cnot l m)) (some_step (time_between p) (home p l) (home p m) (path_of p R c l m) w.0 w.1.from_to) a

  -- when the operations of the gate g end
  abbrev pub ends : ℕ → ℕ
  ends g = start_at p g + lasting (steps p R g)

  -- an operation within the gate's time, on cells that it reserves
  pub record Inside (g : ℕ) (o : Operation) : Type 0 where
    pub from : start_at p g ≤ o.start
    pub upto : o.start < ends g
    pub among : (c : ℕ) → In c (cells_of o) → reserved p R g c ≡ true

  -- the gate is led along a lawful path, and each step takes time
  pub record Timely (g : ℕ) : Type 0 where
    pub lawful : Led p R (choice_at p g) (action_at p g)
    pub timed : AllByRecursion TakesTime (steps p R g)

  block_inside : (g : ℕ) → Timely g → AllByRecursion (Inside g) (block p R g)
  block_inside g t =
      all_both (λ o. (start_at p g ≤ o.start) × (o.start < ends g)) (λ o. (c : ℕ) → In c (cells_of o) → reserved p R g c ≡ true) (Inside g)
      (λ o u v. record { from = u.0; upto = u.1; among = v }) (block p R g)
      (placed_within g (start_at p g) (steps p R g) t.timed) (placed_kept (reserved p R g) g (start_at p g) (steps p R g) (steps_kept (choice_at p g) (action_at p g) t.lawful))

  pub lasts : (g : ℕ) → Timely g → 0 < lasting (steps p R g)
  lasts g t = steps_last (choice_at p g) (action_at p g) t.lawful t.timed

  -- where operations of both meet, those of i start first
  abbrev pub Follows : ℕ → ℕ → Type 0
  Follows i j = (o q : Operation) → Inside i o → Inside j q → Meet o q → o.start < q.start

  follows_all : (i : ℕ) (o : Operation) (js : List ℕ) → Inside i o → AllByRecursion Timely js → AllByRecursion (Follows i) js → AllByRecursion (λ q. Meet o q → o.start < q.start) (flat_map (block p R) js)
  follows_all i o [] h t a = tt
  follows_all i o (j ∷ js) h t a =
      All-append (λ q. Meet o q → o.start < q.start) (block p R j) (flat_map (block p R) js)
      (All-weaker (Inside j) (λ q. Meet o q → o.start < q.start) (λ q k m. a.0 o q h k m) (block p R j) (block_inside j t.0))
      (follows_all i o js h t.1 a.1)

  -- the blocks in such an order
  pub blocks_order : (gs : List ℕ) → AllByRecursion Timely gs → Pairs Follows gs → Pairs (λ o q. Meet o q → o.start < q.start) (flat_map (block p R) gs)
  blocks_order [] t a = tt
  blocks_order (g ∷ gs) t a =
      pairs_append (λ o q. Meet o q → o.start < q.start) (block p R g) (flat_map (block p R) gs)
      (placed_order g (start_at p g) (steps p R g) t.0.timed)
      (blocks_order gs t.1 a.1)
      (All-weaker (Inside g) (λ o. AllByRecursion (λ q. Meet o q → o.start < q.start) (flat_map (block p R) gs)) (λ o h. follows_all g o gs h t.1 a.0) (block p R g) (block_inside g t.0))

  -- the gates reserve no common cell at one time
  abbrev pub Apart : ℕ → ℕ → Type 0
  Apart i j = (c : ℕ) → reserved p R i c ≡ true → reserved p R j c ≡ true → (ends i ≤ start_at p j) ⊎ (ends j ≤ start_at p i)

  pub apart_sym : (i j : ℕ) → Apart i j → Apart j i
  apart_sym i j a c u v = elim (a c v u) [ inl h ↦ inr h | inr h ↦ inl h ]

  pub follows : (i j : ℕ) → Timely i → Timely j → (start_at p i ≤ start_at p j) × Apart i j → Follows i j
  follows i j ti tj h o q a b m =
      let from = a.upto in
      let to = b.from in
      let long = lasts j tj in
      let le = h.0 in
      elim (h.1 m.0 (a.among m.0 m.1) (b.among m.0 m.2)) [ inl k ↦ omega arith | inr k ↦ omega arith ]

-- a home that a direct operation names is that of a label of the gate
pub label_of : (p : Plan) (x : Action) (c : ℕ) → In c (wires (carry (home p) x)) → (l : ℕ) × In l (wires x) × (c ≡ home p l)
label_of p (Action.One k a) c (inl e) = (a, inl refl, e)
label_of p (Action.One k a) c (inr e) = absurd e
label_of p (Action.Cnot a b) c (inl e) = (a, inl refl, e)
label_of p (Action.Cnot a b) c (inr (inl e)) = (b, inr (inl refl), e)
label_of p (Action.Cnot a b) c (inr (inr e)) = absurd e
