-- What an action reserves under an offered choice are cells of the grid. Assumes nothing.
use Rattle.std.proofs.Common.{◌≡◌, ℕ, ◌<◌, Bool, true, false, cond, not, ◌&&◌, eqb, ltb, Some, None, sym, refl, subst}
use Rattle.std.proofs.lemmas.Bool.{and_parts, ltb-true, eqb-true, eqb-false, not-true, false≢true}
use Rattle.circuit.specs.declared.action.Action.{Action}
use Rattle.grid.specs.Grids.{Grid, GridFit, cells}
use Rattle.route.specs.Ends.{apart_cells}
use Rattle.route.specs.Routes.{Route, Runs, RouteLawful}
use Rattle.plan.specs.Plans.{Plan, home}
use Rattle.plan.specs.Durations.{reserved_over, reserved_of}
use Rattle.plan.specs.Constraints.{Offered}
use Rattle.plan.proofs.Homes.{home_below}

module _ (g : Grid) (R : Route) (a z choice : ℕ) (f : GridFit g) (lawful : RouteLawful R) (offered : choice < R.choices) where
  -- the test that two cells of the grid are apart
  abbrev are_apart : Bool
  are_apart = ltb a (cells g) && (ltb z (cells g) && not (eqb a z))

  -- two cells that are apart are led by lawful steps
  pub runs-apart : are_apart ≡ true → Runs g a z (R.path g a z choice) (R.reserved g a z choice)
  runs-apart e =
      let p = and_parts (ltb a (cells g)) (ltb z (cells g) && not (eqb a z)) e in
      let q = and_parts (ltb z (cells g)) (not (eqb a z)) p.1 in
      lawful.runs g a z choice f (eqb-false a z (not-true (eqb a z) q.1)) (ltb-true a (cells g) p.0) (ltb-true z (cells g) q.0) offered

  cells_over : (t : Bool) → are_apart ≡ t → (c : ℕ) → reserved_over R choice (cond t (Some (record { grid = g; from = a; to = z })) None) c ≡ true → c < cells g
  cells_over true e c h = (runs-apart e).only_cells c h
  cells_over false e c h = absurd (false≢true h)

  -- what is reserved between them is the grid's
  pub reserved-cells : (c : ℕ) → reserved_over R choice (apart_cells g a z) c ≡ true → c < cells g
  reserved-cells = cells_over are_apart refl

-- what an action reserves is the grid's
pub reserved_below : (p : Plan) (R : Route) (choice : ℕ) (x : Action) (c : ℕ) → GridFit p.machine → RouteLawful R → Offered R x choice → reserved_of p R choice x c ≡ true → c < cells p.machine
reserved_below p R choice (Action.One k l) c f lawful o h = subst (λ n. n < cells p.machine) (sym (eqb-true c (home p l) h)) (home_below p.machine p.homes l f)
reserved_below p R choice (Action.Cnot l m) c f lawful o h = reserved-cells p.machine R (home p l) (home p m) choice f lawful o c h
