-- The swaps there over the links along a path's cells but the last. Assumes nothing.
use Rattle.std.proofs.Common.{◌≡◌, ℕ, ◌+◌, ◌-◌, ◌*◌, ◌≤◌, List, length, take, subst, arith}
use Rattle.std.specs.List.{flat_map}
use Rattle.std.proofs.lemmas.List.{length-take-le}
use Rattle.std.specs.Iterator.Runs.{WholeRun}
use Rattle.std.specs.Slice.Iter.{windows_rest, windows_size}
use Rattle.std.specs.Slice.ArrayWindows.{array_windows_parts, array_windows_steps}
use Rattle.std.specs.declared.slice.ArrayWindows.{ArrayWindows}
use Rattle.calibration.specs.declared.table.CalibrationTable.{CalibrationTable}
use Rattle.cnot.specs.declared.write.Writer.{Writer}
use Rattle.cnot.specs.Links.{times_of, links_of, links}
use Rattle.cnot.specs.Steps.{swap_over, Laid}
use Rattle.cnot.proofs.Links.{length-links, total_few}
use Rattle.cnot.proofs.Windows.{links_of_pairs}
use Rattle.cnot.proofs.Swaps.{length_swaps, lasting_swaps}

module _ (t : CalibrationTable) (w v : Writer) where
  -- what the swaps over the pairs of neighbours along a way have laid
  pub laid_there : (s : ArrayWindows ℕ 2) (way : List ℕ) → WholeRun array_windows_steps s (λ p. Laid (flat_map swap_over (links_of (times_of t) p.items)) w v)
      → windows_rest (array_windows_parts s) ≡ way → windows_size (array_windows_parts s) ≡ 2 → Laid (flat_map swap_over (links (times_of t) way)) w v
  laid_there s way (p, from, whole, laid) rest two = subst (λ ls. Laid (flat_map swap_over ls) w v) (links_of_pairs (times_of t) p s way from whole rest two) laid

  pub after_there : (cs : List ℕ) → 2 ≤ length cs → Laid (flat_map swap_over (links (times_of t) (take (length cs - 1) cs))) w v
      → (v.at ≡ w.at + 3 * (length cs - 2)) × (v.time ≤ w.time + 3000 * (length cs - 2))
  after_there cs long laid =
      let way = take (length cs - 1) cs in
      let n : length way ≡ length cs - 1 = length-take-le (length cs - 1) cs (omega arith) in
      let m = length-links (times_of t) way in
      (omega (arith, laid.at, length_swaps (links (times_of t) way)), omega (arith, laid.time, lasting_swaps (links (times_of t) way), total_few t way))
