-- Counts of H and of reads, in the library's word. Assumes nothing.
use Rattle.std.proofs.Common.{◌≡◌, ◌+◌, List, [], ◌∷◌, length, filter, count_by, refl, ap, ◌∙◌}
use Rattle.std.proofs.lemmas.List.Sums.{length-filter, sum_by-cons}
use Rattle.circuit.specs.declared.operation.Operation.{Operation}
use Rattle.circuit.specs.Actions.{is_h, is_read}
use Rattle.circuit.specs.Operations.{one_if, h_count, read_count}

h_by : (os : List Operation) → count_by (λ o. is_h o.action) os ≡ h_count os
h_by [] = refl
h_by (o ∷ os) = sum_by-cons (λ x. one_if (is_h x.action)) o os ∙ ap (λ n. one_if (is_h o.action) + n) (h_by os)

reads_by : (os : List Operation) → count_by (λ o. is_read o.action) os ≡ read_count os
reads_by [] = refl
reads_by (o ∷ os) = sum_by-cons (λ x. one_if (is_read x.action)) o os ∙ ap (λ n. one_if (is_read o.action) + n) (reads_by os)

-- as many as are H
pub length-h : (os : List Operation) → length (filter (λ o. is_h o.action) os) ≡ h_count os
length-h os = length-filter (λ o. is_h o.action) os ∙ h_by os

-- as many as are reads
pub length-reads : (os : List Operation) → length (filter (λ o. is_read o.action) os) ≡ read_count os
length-reads os = length-filter (λ o. is_read o.action) os ∙ reads_by os
