-- What is known of a plan that is listed. Assumes nothing.
use Rattle.std.proofs.Common.{◌≡◌, ℕ, ◌<◌, ◌≤◌, ltb, List, length, take, drop, Ok, Err, Option, Result, sym, ap, ◌∙◌, subst, rules}
use Rattle.std.specs.Result.{IfOk}
use Rattle.std.proofs.Math.Seq.{take-append_seam}
use Rattle.refusal.specs.declared.Refusal.{Refusal}
use Rattle.refusal.specs.Refusals.{refuse_if, or_else, ok_unless}
use Rattle.refusal.proofs.Accepted.{neither, accepted}
use Rattle.circuit.specs.declared.operation.Operation.{Operation}
use Rattle.grid.specs.Grids.{GridFit}
use Rattle.calibration.specs.Calibrations.{InRange}
use Rattle.route.specs.Routes.{Route, RouteLawful}
use Rattle.plan.specs.Plans.{Plan, gate_count, start_at}
use Rattle.plan.specs.Verdicts.{first_broken, latest_end, judged}
use Rattle.plan.specs.Kept.{Kept}
use Rattle.plan.specs.Listings.{listing, WellListed}
use Rattle.plan.proofs.Verdicts.{broken-none}
use Rattle.listings.proofs.Starts.{starts_early}
use Rattle.listings.proofs.Listings.{well_listed}
use Rattle.lister.specs.Blocks.{listing_refusal, listed, places_listed}
use Rattle.lister.proofs.FirstBlocks.{ok_value}

-- what holds at all holds of a value
pub if_ok : {X E : Type 0} (r : Result X E) (P : Type 0) → P → IfOk r (λ _. P)
if_ok (Ok x) P h = h
if_ok (Err e) P h = tt

module _ (p : Plan) (R : Route) where
  -- judging passed, so nothing starts late
  pub judged_early : (e : ℕ) → GridFit p.machine → InRange p.machine p.calibration → Ok e ≡ judged p R → (g : ℕ) → g < gate_count p → start_at p g ≤ 1000000
  judged_early e fit ranged j =
      let a = accepted (or_else (refuse_if (ltb 256 (gate_count p)) Refusal.ProgramFull) (first_broken p R)) (latest_end p R) e j in
      let n = neither (refuse_if (ltb 256 (gate_count p)) Refusal.ProgramFull) (first_broken p R) a in
      starts_early p R fit ranged (broken-none p R n.1)

  -- what was written is well listed
  pub listed_well : (places : ℕ) (r : Result ℕ Refusal) (was new : List Operation) → RouteLawful R → r ≡ listed p R places → new ≡ places_listed p R r was → IfOk r (λ n. Kept p → WellListed p R (take n new))
  listed_well places (Ok n) was new lawful e w = λ k.
      let a = accepted (listing_refusal p R places) (length (listing p R)) n e in
      let b = neither (or_else (refuse_if (ltb 256 (gate_count p)) Refusal.ProgramFull) (first_broken p R)) (refuse_if (ltb places (length (listing p R))) Refusal.TooFewPlaces) a in
      let d = neither (refuse_if (ltb 256 (gate_count p)) Refusal.ProgramFull) (first_broken p R) b.0 in
      let m : n ≡ length (listing p R) = ok_value (listing_refusal p R places) (length (listing p R)) n e in
      let t : take n new ≡ listing p R = ap (λ i. take i new) m ∙ ap (take (length (listing p R))) w ∙ take-append_seam (listing p R) (drop (length (listing p R)) was) in
      subst (WellListed p R) (sym t) (well_listed p R k lawful d.1)
  listed_well places (Err x) was new lawful e w = tt
