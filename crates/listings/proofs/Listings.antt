-- The listing of a plan that breaks no constraint is well listed. Assumes nothing.
use Rattle.std.proofs.Common.{◌≡◌, ℕ, ◌+◌, ◌<◌, ◌≤◌, Bool, false, cond, eqb, ltb, List, [], ◌∷◌, length, None, sym, refl, subst, inl, arith}
use Rattle.std.specs.List.{range_with_len, AllByRecursion}
use Rattle.std.proofs.ByRecursion.{All-weaker}
use Rattle.std.proofs.lemmas.List.Sums.{sum_by-cons}
use Rattle.std.proofs.lemmas.Bool.Decides.{nat_tests}
use Rattle.orders.specs.Lists.{AnyByRecursion, In, Common}
use Rattle.orders.specs.Sorting.{InOrder}
use Rattle.orders.proofs.Pairs.{pairs_weaker}
use Rattle.orders.proofs.Perms.{all_perm, some_perm}
use Rattle.orders.proofs.Sorting.{sorted_one}
use Rattle.orders.proofs.Tables.{all_below, all_joined, some_below}
use Rattle.circuit.specs.declared.action.Action.{Action}
use Rattle.circuit.specs.declared.operation.Operation.{Operation}
use Rattle.circuit.specs.Operations.{operation_before, operation_end, cells_of, Allowed}
use Rattle.circuit.specs.Known.{operations_total}
use Rattle.route.specs.Routes.{Route, RouteLawful}
use Rattle.cnot.specs.Steps.{Step, lasting, placed}
use Rattle.plan.specs.Plans.{Plan, gate_count, action_at, labels_at, start_at, choice_at, home, time_between}
use Rattle.plan.specs.Durations.{path_of}
use Rattle.plan.specs.Constraints.{BreaksNone}
use Rattle.plan.specs.Verdicts.{first_broken}
use Rattle.plan.specs.Kept.{Kept}
use Rattle.plan.specs.Blocks.{steps_of, steps, block, blocks}
use Rattle.plan.specs.Listings.{listing, InWindows, JoinsNeighbours, WellListed}
use Rattle.plan.proofs.Verdicts.{broken-none}
use Rattle.listings.proofs.Steps.{Joined, routed_joined, some_step}
use Rattle.listings.proofs.Passes.{Led, led, end_is, in_window}

-- what holds of steps holds of the operations that they are placed as
placed_all : (P : Step → Type 0) (Q : Operation → Type 0) (g : ℕ) → ((t : ℕ) (s : Step) → P s → Q (record { start = t; length = s.length; action = s.action; gate = g })) → (t : ℕ) (ss : List Step) → AllByRecursion P ss → AllByRecursion Q (placed g t ss)
placed_all P Q g h t [] a = tt
placed_all P Q g h t (s ∷ ss) a = (h t s a.0, placed_all P Q g h (t + s.length) ss a.1)

-- each operation of a gate is the gate's, and ends by the gate's end
placed_ends : (g t : ℕ) (ss : List Step) → AllByRecursion (λ o. (o.gate ≡ g) × (operation_end o ≤ t + lasting ss)) (placed g t ss)
placed_ends g t [] = tt
placed_ends g t (s ∷ ss) =
    let e = sum_by-cons (λ x. x.length) s ss in (
      (refl, omega arith),
      All-weaker (λ o. (o.gate ≡ g) × (operation_end o ≤ t + s.length + lasting ss)) (λ o. (o.gate ≡ g) × (operation_end o ≤ t + lasting (s ∷ ss))) (λ o k. let f = k.1 in (k.0, omega arith)) (placed g (t + s.length) ss) (placed_ends g (t + s.length) ss),
    )

placed_some : (g t : ℕ) (ss : List Step) → 0 < length ss → AnyByRecursion (λ o. o.gate ≡ g) (placed g t ss)
placed_some g t [] h = absurd (omega arith)
placed_some g t (s ∷ ss) h = inl refl

first_number : (a b : ℕ) (t : Bool) → cond (eqb a b) t (ltb a b) ≡ false → b ≤ a
first_number a b t e = grind (arith, nat_tests)

-- where the second is not before the first its start is not earlier
start_before : (o q : Operation) → operation_before q o ≡ false → o.start ≤ q.start
start_before o q e = first_number q.start o.start _ e

-- a list in order is in an allowed order
pub in_order_allowed : (os : List Operation) → InOrder operation_before os → Allowed os
in_order_allowed os h = pairs_weaker (λ o q. operation_before q o ≡ false) (λ o q. Common (cells_of o) (cells_of q) → o.start ≤ q.start) (λ o q e c. start_before o q e) os h

module _ (p : Plan) (R : Route) (k : Kept p) (lawful : RouteLawful R) (nothing : BreaksNone p R) where
  steps_joined : (c : ℕ) (x : Action) → Led p R c x → AllByRecursion (Joined p.machine) (steps_of p R c x)
  steps_joined c (Action.One q l) w = (tt, tt)
  steps_joined c (Action.Cnot l m) w = routed_joined p.machine (time_between p) (path_of p R c l m) w.1.stepped

  steps_some : (c : ℕ) (x : Action) → Led p R c x → 0 < length (steps_of p R c x)
  steps_some c (Action.One q l) w = omega arith
  steps_some c (Action.Cnot l m) w = some_step (time_between p) (home p l) (home p m) (path_of p R c l m) w.0 w.1.from_to

  all_join : AllByRecursion (λ o. JoinsNeighbours p.machine o.action) (blocks p R)
  all_join =
      all_joined (λ o. JoinsNeighbours p.machine o.action) (block p R) (range_with_len 0 (gate_count p))
      (all_below (λ g. AllByRecursion (λ o. JoinsNeighbours p.machine o.action) (block p R g)) (gate_count p) (λ g h.
      placed_all (Joined p.machine) (λ o. JoinsNeighbours p.machine o.action) g (λ t s a. a) (start_at p g) (steps p R g) (steps_joined (choice_at p g) (action_at p g) (led p R k lawful nothing g h))))

  each_there : (g : ℕ) → g < gate_count p → AnyByRecursion (λ o. o.gate ≡ g) (blocks p R)
  each_there g h = some_below (λ o. o.gate ≡ g) (block p R) (gate_count p) g h (placed_some g (start_at p g) (steps p R g) (steps_some (choice_at p g) (action_at p g) (led p R k lawful nothing g h)))

  all_in_windows : AllByRecursion (InWindows p) (blocks p R)
  all_in_windows =
      all_joined (InWindows p) (block p R) (range_with_len 0 (gate_count p))
      (all_below (λ g. AllByRecursion (InWindows p) (block p R g)) (gate_count p) (λ g h.
      All-weaker (λ o. (o.gate ≡ g) × (operation_end o ≤ start_at p g + lasting (steps p R g))) (InWindows p) (λ o a. record {
        of_program = subst (λ n. n < gate_count p) (sym a.0) h;
        in_time = λ l i. let w = in_window p R k lawful nothing g l h (subst (λ n. In l (labels_at p n)) a.0 i) in let e = subst (λ n. operation_end o ≤ n) (sym (end_is p R g)) a.1 in omega arith;
      }) (block p R g) (placed_ends g (start_at p g) (steps p R g))))

  -- the same of a plan that is known to break no constraint
  pub well_listed_sound : WellListed p R (listing p R)
  well_listed_sound =
      let s = sorted_one operation_before operations_total (blocks p R) in
      record {
        in_order = s;
        allowed = in_order_allowed (listing p R) s.ordered;
        neighbours = all_perm (λ o. JoinsNeighbours p.machine o.action) s.complete all_join;
        every_gate = λ g h. some_perm (λ o. o.gate ≡ g) s.complete (each_there g h);
        windows = all_perm (InWindows p) s.complete all_in_windows;
      }

-- what a plan that passes lists is well listed
pub well_listed : (p : Plan) (R : Route) → Kept p → RouteLawful R → first_broken p R ≡ None → WellListed p R (listing p R)
well_listed p R k lawful e = well_listed_sound p R k lawful (broken-none p R e)
