-- Pairs of amplitudes that are written back as they were. Assumes nothing.
use Rattle.std.proofs.Common.{◌≡◌, ℕ, false, true, List, slice_set, slice_index_or, sym, ap, ◌∙◌, subst, Bool}
use Rattle.std.proofs.lemmas.List.{set-get_or}
use Rattle.amplitude.specs.declared.pair.PairGate.{PairGate}
use Rattle.amplitude.specs.Pairs.{entry}
use Rattle.matrices.specs.declared.Amplitude.{Amplitude}
use Rattle.matrices.specs.Numbers.{nought}

-- where the control is 0
pub kept_pair : (xs : List Amplitude) (i j c : ℕ) (on : Bool) → on ≡ false
    → xs ≡ slice_set (slice_set xs i (entry (PairGate.Flip c) on false (slice_index_or xs i nought) (slice_index_or xs j nought))) j (entry (PairGate.Flip c) on true (slice_index_or xs j nought) (slice_index_or xs i nought))
kept_pair xs i j c on e =
    subst (λ b. xs ≡ slice_set (slice_set xs i (entry (PairGate.Flip c) b false (slice_index_or xs i nought) (slice_index_or xs j nought))) j (entry (PairGate.Flip c) b true (slice_index_or xs j nought) (slice_index_or xs i nought))) (sym e)
    (sym (ap (λ ys. slice_set ys j (slice_index_or xs j nought)) (set-get_or xs i nought) ∙ set-get_or xs j nought))
