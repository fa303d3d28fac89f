-- What the direct run of a job answers, in the words of the book. Assumes nothing.
use Rattle.std.proofs.Common.{◌≡◌, ℕ, true, List, [], Result, ap, ap₂, ◌∙◌}
use Rattle.refusal.specs.declared.Refusal.{Refusal}
use Rattle.refusal.specs.Refusals.{ok_unless}
use Rattle.circuit.specs.Operations.{read_count}
use Rattle.grid.specs.Grids.{grid_of}
use Rattle.calibration.specs.Tables.{table_grid}
use Rattle.plan.specs.declared.gate.Gate.{Gate}
use Rattle.plan.specs.Plans.{Plan}
use Rattle.plan.specs.Kept.{Kept}
use Rattle.plan.specs.Blocks.{direct}
use Rattle.placement.specs.declared.homes.Homes.{Homes}
use Rattle.register.specs.Runs.{Capacity}
use Rattle.book.specs.Calls.{run}
use Rattle.book.specs.Refusals.{refusal}
use Rattle.book.specs.Answers.{answer}
use Rattle.book.specs.Histories.{History}
use Rattle.book.proofs.Merely.{kept_merely}
use Rattle.spans.specs.declared.layout.Layout.{Layout}
use Rattle.spans.specs.Layouts.{layout_plan}
use Rattle.store.specs.declared.store.Store.{Store}
use Rattle.store.specs.Stores.{store_plan, store_book}
use Rattle.direct.specs.Directs.{placed_plan, direct_refusal}
use Rattle.direct.proofs.Runs.{direct_refused}

module _ (h : Homes) (p : Plan) (machine : grid_of h.machine ≡ p.machine) (homes : h.cells.now ≡ p.homes) where
  -- the plan of the homes is the job's, but for its calibration
  uncalibrated : placed_plan h p.gates ≡ record { machine = p.machine; calibration = []; homes = p.homes; gates = p.gates }
  uncalibrated = λ i. record { machine = machine i; calibration = []; homes = homes i; gates = p.gates }

  -- it runs as the job's plan
  pub same_direct : direct (placed_plan h p.gates) ≡ direct p
  same_direct = ap direct uncalibrated

  -- and is refused as the book says
  pub same_refusal : (r : Capacity) (closed : _) → Kept p → direct_refusal r (placed_plan h p.gates) ≡ refusal (record { plan = p; closed = closed }) (run r)
  same_refusal r closed k =
      direct_refused r h p.calibration p.gates closed k.few_gates
      ∙ (λ i. refusal (record { plan = record { machine = machine i; calibration = p.calibration; homes = homes i; gates = p.gates }; closed = closed }) (run r))

-- so what its direct run answers is what the book answers
pub run_answers : (s : Store) (l : Layout) (h : Homes) (gs : List Gate) (r : Capacity) (a : Result ℕ Refusal) → ∥ History (store_book true s) ∥₁ → layout_plan l gs ≡ store_plan s → grid_of h.machine ≡ table_grid l.table.now → h.cells.now ≡ l.homes.now
    → a ≡ ok_unless (direct_refusal r (placed_plan h gs)) (read_count (direct (placed_plan h gs))) → a ≡ answer (store_book true s) (run r)
run_answers s l h gs r a lived same machine homes e =
    let p = store_plan s in
    e
    ∙ ap (λ xs. ok_unless (direct_refusal r (placed_plan h xs)) (read_count (direct (placed_plan h xs)))) (ap (λ q. q.gates) same)
    ∙ ap₂ (λ o d. ok_unless o (read_count d))
    (same_refusal h p (machine ∙ ap (λ q. q.machine) same) (homes ∙ ap (λ q. q.homes) same) r true (kept_merely lived))
    (same_direct h p (machine ∙ ap (λ q. q.machine) same) (homes ∙ ap (λ q. q.homes) same))

-- and it runs the job's plan
pub runs_plan : (s : Store) (l : Layout) (h : Homes) (gs : List Gate) → layout_plan l gs ≡ store_plan s → grid_of h.machine ≡ table_grid l.table.now → h.cells.now ≡ l.homes.now → direct (placed_plan h gs) ≡ direct (store_plan s)
runs_plan s l h gs same machine homes =
    let p = store_plan s in
    ap (λ xs. direct (placed_plan h xs)) (ap (λ q. q.gates) same) ∙ same_direct h p (machine ∙ ap (λ q. q.machine) same) (homes ∙ ap (λ q. q.homes) same)
