-- The operations of the first gates. Assumes nothing.
use Rattle.std.proofs.Common.{◌≡◌, ℕ, ◌+◌, ◌<◌, ◌≤◌, List, [], ◌++◌, length, get_or, take, drop, Ok, Option, Result, is_ok, refl, ap, ap₂, ◌∙◌, arith, rules, length-append}
use Rattle.std.specs.Bool.{if◌then◌else◌}
use Rattle.std.proofs.Math.Seq.{take-append_seam}
use Rattle.refusal.specs.declared.Refusal.{Refusal}
use Rattle.refusal.specs.Refusals.{ok_unless}
use Rattle.circuit.specs.Operations.{operation_before}
use Rattle.circuit.specs.declared.operation.Operation.{Operation}
use Rattle.route.specs.Routes.{Route}
use Rattle.cnot.specs.Links.{links}
use Rattle.cnot.specs.Steps.{routed, written_first}
use Rattle.cnot.proofs.Laying.{length-placed}
use Rattle.cnot.proofs.Routed.{length_along, along_few}
use Rattle.plan.specs.declared.gate.Gate.{Gate}
use Rattle.plan.specs.Plans.{Plan, no_gate, start_or}
use Rattle.plan.specs.Blocks.{block, blocks}
use Rattle.plan.specs.Listings.{listing}
use Rattle.spans.specs.declared.layout.Layout.{Layout}
use Rattle.spans.specs.Layouts.{layout_plan}
use Rattle.listings.proofs.Fronts.{fronts, fronts_more, fronts_within, length-sorted}
use Rattle.lister.specs.Blocks.{gate_steps, gate_block}

-- a CNOT along at most 64 cells has at most 373 operations
pub routed_few : (time : ℕ → ℕ → ℕ) (cs : List ℕ) → length cs ≤ 64 → length (routed (links time cs)) ≤ 373
routed_few time cs h = let n = length_along time cs in let f = along_few (length cs) h in omega arith

module _ (l : Layout) (R : Route) (gs : List Gate) where
  -- the operations of the first n gates
  unfoldable pub first_blocks : ℕ → List Operation
  first_blocks n = fronts (block (layout_plan l gs) R) n

  abbrev pub block_at : ℕ → List Operation
  block_at i = gate_block l R i (get_or gs i no_gate)

  pub no_blocks : first_blocks 0 ≡ []
  unfolding first_blocks
  no_blocks = refl

  pub all_blocks : first_blocks (length gs) ≡ blocks (layout_plan l gs) R
  unfolding first_blocks
  all_blocks = refl

  -- those of one gate more
  pub blocks_more : (i : ℕ) → first_blocks (i + 1) ≡ first_blocks i ++ block_at i
  unfolding first_blocks
  blocks_more i = fronts_more (block (layout_plan l gs) R) i

  length-block : (i : ℕ) → length (block_at i) ≡ length (gate_steps l R (get_or gs i no_gate))
  length-block i = length-placed i (start_or (get_or gs i no_gate).timing) (gate_steps l R (get_or gs i no_gate))

  -- how many they are
  pub length-blocks_more : (i : ℕ) → length (first_blocks (i + 1)) ≡ length (first_blocks i) + length (gate_steps l R (get_or gs i no_gate))
  length-blocks_more i = let n = ap length (blocks_more i) in let a = length-append (first_blocks i) (block_at i) in let b = length-block i in omega arith

  -- those of a gate are among all
  pub block_within : (i : ℕ) → i < length gs → length (first_blocks i) + length (block_at i) ≤ length (blocks (layout_plan l gs) R)
  unfolding first_blocks
  block_within i h = fronts_within (block (layout_plan l gs) R) i (length gs) h

-- no operations yet, and at the end all
pub length-no_blocks : (l : Layout) (R : Route) (gs : List Gate) → length (first_blocks l R gs 0) ≡ 0
length-no_blocks l R gs = ap length (no_blocks l R gs)

pub length-all_blocks : (l : Layout) (R : Route) (gs : List Gate) (n : ℕ) → n ≡ length gs → length (first_blocks l R gs n) ≡ length (blocks (layout_plan l gs) R)
length-all_blocks l R gs n e = ap (λ k. length (first_blocks l R gs k)) e ∙ ap length (all_blocks l R gs)

pub ruleset counting = (length-no_blocks, length-all_blocks, length-blocks_more)

-- the listing has as many operations as the blocks
pub length_listing : (p : Plan) (R : Route) → length (listing p R) ≡ length (blocks p R)
length_listing p R = length-sorted operation_before (blocks p R)

-- what was not refused is the value
pub ok_value : {X : Type 0} (o : Option Refusal) (x y : X) → Ok y ≡ ok_unless o x → y ≡ x
ok_value o x y e = search rules

-- the first places hold what was written there
pub written_take : (os was out : List Operation) (r : Result ℕ Refusal) (n : ℕ) → r ≡ Ok n → out ≡ (if is_ok r then written_first was os else was) → n ≡ length os → take n out ≡ os
written_take os was out r n e w k =
    ap₂ take k (w ∙ ap (λ a. if is_ok a then written_first was os else was) e) ∙ take-append_seam os (drop (length os) was)
