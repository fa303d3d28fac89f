-- Agenda entries are in a total order. Assumes nothing.
use Rattle.std.proofs.Common.{ap}
use Rattle.std.specs.Prelude.{ℕ, List, slice_index}
use Rattle.orders.specs.Ranks.{TotalOrder}
use Rattle.orders.proofs.Keys.{key_total}
use Rattle.plan.specs.declared.gate.AgendaEntry.{AgendaEntry}
use Rattle.plan.specs.Entries.{entry_key, entry_before}

abbrev entry_at : List ℕ → AgendaEntry
entry_at ks = record { start = slice_index ks 0; gate = slice_index ks 1 }

pub entries_total : TotalOrder entry_before
entries_total = key_total entry_key (λ x y e. ap entry_at e)
