-- The gates of a plan that breaks no constraint, ready for the theorem. Assumes nothing.
use Rattle.std.proofs.Common.{◌≡◌, ℕ, ◌<◌, ◌≤◌, ◌⊎◌, List, map, sym, ◌∙◌, subst, subst₂, arith}
use Rattle.std.specs.List.{range_with_len, flat_map, AllByRecursion}
use Rattle.std.proofs.lemmas.Bool.Decides.{nat_tests}
use Rattle.orders.specs.Lists.{Pairs, In, Common}
use Rattle.orders.specs.Perms.{Perm}
use Rattle.orders.specs.Exchanges.{Exchanges}
use Rattle.orders.proofs.Perms.{all_perm, perm_trans, perm_sym}
use Rattle.orders.proofs.Pairs.{pairs_both, pairs_perm, pairs_given, common_sym}
use Rattle.orders.proofs.Tables.{all_below, pairs_below, joined_perm}
use Rattle.orders.proofs.Traces.{one_trace_by, exchanges_map}
use Rattle.circuit.specs.declared.action.Single.{Single}
use Rattle.circuit.specs.declared.action.Action.{Action}
use Rattle.circuit.specs.declared.operation.Operation.{Operation}
use Rattle.circuit.specs.Operations.{cells_of, Allowed}
use Rattle.grid.specs.Grids.{Grid, cells}
use Rattle.calibration.specs.declared.values.Calibration.{Calibration}
use Rattle.calibration.specs.Calibrations.{InRange, values_at}
use Rattle.calibration.proofs.Links.{link-takes}
use Rattle.route.specs.Routes.{Route, RouteLawful}
use Rattle.plan.specs.Plans.{Plan, gate_count, action_at, labels_at, start_at, choice_at, home, values_of, time_between}
use Rattle.plan.specs.Durations.{single_time, path_of}
use Rattle.plan.specs.Constraints.{BreaksNone}
use Rattle.plan.specs.Kept.{Kept}
use Rattle.plan.specs.Blocks.{steps_of, block, blocks, direct_step, direct}
use Rattle.plan.proofs.Homes.{home_below}
use Rattle.listings.proofs.Passes.{Led, homed, one_home, led, end_is, ordered, apart_in_time}
use Rattle.promise.proofs.Exchanges.{Meet, Free}
use Rattle.promise.proofs.Blocks.{GateLed}
use Rattle.promise.proofs.Times.{TakesTime, routed_timed, Timely, lasts, Follows, blocks_order, Apart, apart_sym, follows, label_of}

-- a calibrated cell's actions take time
record CellTakes (v : Calibration) : Type 0 where
  single : 0 < v.single
  read : 0 < v.read

cell_takes : (g : Grid) (vs : List Calibration) (c : ℕ) → InRange g vs → c < cells g → CellTakes (values_at vs c)
cell_takes g vs c ranged h = let e = ranged c h in record { single = grind (arith, nat_tests); read = grind (arith, nat_tests) }

module _ (p : Plan) (R : Route) (k : Kept p) (lawful : RouteLawful R) (nothing : BreaksNone p R) where
  single_takes : (q : Single) (c : ℕ) → c < cells p.machine → 0 < single_time q (values_of p c)
  single_takes Single.H c h = (cell_takes p.machine p.calibration c k.in_range h).single
  single_takes (Single.Plain x) c h = (cell_takes p.machine p.calibration c k.in_range h).single
  single_takes Single.Read c h = (cell_takes p.machine p.calibration c k.in_range h).read

  steps_timed : (c : ℕ) (x : Action) → Led p R c x → AllByRecursion TakesTime (steps_of p R c x)
  steps_timed c (Action.One q l) w = (single_takes q (home p l) (home_below p.machine p.homes l k.grid_fit), tt)
  steps_timed c (Action.Cnot l m) w = routed_timed p.machine (time_between p) (path_of p R c l m) (λ a b h. link-takes p.machine p.calibration k.in_range k.grid_fit a b h) w.1.stepped

  timely : (g : ℕ) → g < gate_count p → Timely p R g
  timely g h = let w = led p R k lawful nothing g h in record { lawful = w; timed = steps_timed (choice_at p g) (action_at p g) w }

  pub all_timely : AllByRecursion (Timely p R) (range_with_len 0 (gate_count p))
  all_timely = all_below (Timely p R) (gate_count p) timely

  -- every gate is led along a lawful path
  pub all_led : AllByRecursion (GateLed p R) (range_with_len 0 (gate_count p))
  all_led = all_below (GateLed p R) (gate_count p) (led p R k lawful nothing)

  -- gates whose direct operations meet share a label
  share : (i j : ℕ) → i < gate_count p → j < gate_count p → Meet (direct_step p i) (direct_step p j) → Common (labels_at p i) (labels_at p j)
  share i j u v c =
      let a = label_of p (action_at p i) c.0 c.1 in
      let b = label_of p (action_at p j) c.0 c.2 in
      let e : a.0 ≡ b.0 = one_home p R k lawful nothing a.0 b.0 (homed p R k lawful nothing i a.0 u a.1) (homed p R k lawful nothing j b.0 v b.1) (sym a.2 ∙ b.2) in
      (a.0, a.1, subst (λ l. In l (labels_at p j)) (sym e) b.1)

  -- in program order, gates that meet start one after another
  in_start_order : Pairs (λ i j. Meet (direct_step p i) (direct_step p j) → start_at p i < start_at p j) (range_with_len 0 (gate_count p))
  in_start_order =
      pairs_below (λ i j. Meet (direct_step p i) (direct_step p j) → start_at p i < start_at p j) (gate_count p) (λ i j l m c.
      let o = ordered p R k lawful nothing i j l m (share i j (omega arith) m c) in
      let e = end_is p R i in
      let t = lasts p R i (timely i (omega arith)) in
      omega arith)

  no_overlap : Pairs (Apart p R) (range_with_len 0 (gate_count p))
  no_overlap =
      pairs_below (Apart p R) (gate_count p) (λ i j l m c u v.
      subst₂ (λ e f. (e ≤ start_at p j) ⊎ (f ≤ start_at p i)) (end_is p R i) (end_is p R j) (apart_in_time p R k lawful nothing i j l m c u v))

  -- a list of the gates in order of start
  module _ (js : List ℕ) (perm : Perm (range_with_len 0 (gate_count p)) js) (rising : Pairs (λ i j. start_at p i ≤ start_at p j) js) where
    -- the direct run is that of the gates in order of start
    pub direct_trace : Exchanges Free (direct p) (map (direct_step p) js)
    direct_trace =
        exchanges_map Free (direct_step p) (λ i j h. h)
        (one_trace_by (λ i j. Meet (direct_step p i) (direct_step p j)) (start_at p) (λ i j. common_sym (cells_of (direct_step p i)) (cells_of (direct_step p j))) perm in_start_order
        (pairs_given (Timely p R) (λ i j. start_at p i ≤ start_at p j) (λ i j. Meet (direct_step p i) (direct_step p j) → start_at p i ≤ start_at p j) (λ i j u v h m. h) js (all_perm (Timely p R) perm all_timely) rising))

    -- an allowed order is that of the blocks in order of start
    pub listing_trace : (os : List Operation) → Perm (blocks p R) os → Allowed os → Exchanges Free (flat_map (block p R) js) os
    listing_trace os q a =
        one_trace_by Meet (λ x. x.start) (λ x y. common_sym (cells_of x) (cells_of y)) (perm_trans (perm_sym (joined_perm (block p R) perm)) q)
        (blocks_order p R js ready
        (pairs_given (Timely p R) (λ i j. (start_at p i ≤ start_at p j) × Apart p R i j) (Follows p R) (follows p R) js ready
        (pairs_both (λ i j. start_at p i ≤ start_at p j) (Apart p R) (λ i j. (start_at p i ≤ start_at p j) × Apart p R i j) (λ i j h n. (h, n)) js rising (pairs_perm (Apart p R) (apart_sym p R) perm no_overlap))))
        a
      where
        ready : AllByRecursion (Timely p R) js
        ready = all_perm (Timely p R) perm all_timely
