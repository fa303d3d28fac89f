-- Acting on an amplitude register is multiplying. Assumes nothing.
use Rattle.std.proofs.Common.{refl}
use Rattle.circuit.specs.declared.action.Plain.{Plain}
use Rattle.register.specs.declared.rows.PlainRow.{PlainRow}
use Rattle.matrices.specs.Indices.{indices}
use Rattle.matrices.proofs.Matrices.{acted_multiplied}
use Rattle.amplitude.specs.Models.{ActsByMatrices}

pub acts_by_matrices : (rows : Plain → PlainRow) → ActsByMatrices rows
acts_by_matrices rows = record { multiplies = λ x s f. acted_multiplied indices rows x f.on_wires.distinct s.vector; keeps_wires = λ x s. refl }
