-- The entries of the first gates, and how many they are. Assumes nothing.
use Rattle.std.proofs.Common.{◌≡◌, ℕ, ◌+◌, ◌<◌, cond, List, [], ◌∷◌, ◌++◌, length, get_or, sum_by, Some, None, Option, sym, refl, ap, ◌∙◌, arith}
use Rattle.std.specs.Prelude.{is_some}
use Rattle.std.specs.List.{count_by}
use Rattle.std.proofs.lemmas.List.{append-nil, take_all}
use Rattle.plan.specs.declared.gate.Timing.{Timing}
use Rattle.plan.specs.declared.gate.Gate.{Gate}
use Rattle.plan.specs.declared.gate.AgendaEntry.{AgendaEntry}
use Rattle.orders.specs.Sorting.{Sorted}
use Rattle.orders.proofs.Sorting.{sorted_one}
use Rattle.plan.specs.Entries.{entry_before}
use Rattle.plan.specs.EntriesLemmas.{entries_total}
use Rattle.plan.specs.Plans.{no_gate}
use Rattle.plan.specs.Listings.{entry_of}
use Rattle.listings.proofs.Fronts.{fronts, fronts_more, fronts_within, length-fronts, length-sorted}
use Rattle.agenda.specs.Agendas.{gate_entries, gate_agenda}

-- the gate's entry, where it has a timing
abbrev pub entries_at : List Gate → ℕ → List AgendaEntry
entries_at gs g = entry_of g (get_or gs g no_gate).timing

-- the entries of the first n gates
unfoldable pub first_entries : List Gate → ℕ → List AgendaEntry
first_entries gs n = fronts (entries_at gs) n

one_entry : (g : ℕ) (t : Option Timing) → length (entry_of g t) ≡ cond (is_some t) 1 0
one_entry g None = refl
one_entry g (Some t) = refl

-- the agenda has as many entries
pub length-agenda : (gs : List Gate) → length (gate_agenda gs) ≡ length (gate_entries gs)
length-agenda gs = length-sorted entry_before (gate_entries gs)

-- there are as many timed gates as entries
pub timed_entries : (gs : List Gate) → count_by (λ g. is_some g.timing) gs ≡ length (gate_entries gs)
timed_entries gs =
    sym (length-fronts (entries_at gs) (λ (g : Gate). cond (is_some g.timing) 1 0) gs no_gate (λ i h. one_entry i (get_or gs i no_gate).timing) (length gs) (omega arith)
    ∙ ap (sum_by (λ (g : Gate). cond (is_some g.timing) 1 0)) (take_all (length gs) gs (omega arith)))

-- the agenda is the one list of the entries in order
pub agenda_one : (gs : List Gate) → Sorted entry_before (gate_entries gs) (gate_agenda gs)
agenda_one gs = sorted_one entry_before entries_total (gate_entries gs)

pub ruleset lengths = (length-agenda, timed_entries)

pub no_entries : (gs : List Gate) → first_entries gs 0 ≡ []
unfolding first_entries
no_entries gs = refl

pub all_entries : (gs : List Gate) → first_entries gs (length gs) ≡ gate_entries gs
unfolding first_entries
all_entries gs = refl

-- one gate more, with a timing
pub timed_more : (gs : List Gate) (i : ℕ) (t : Timing) (x : AgendaEntry) → (get_or gs i no_gate).timing ≡ Some t → entry_of i (Some t) ≡ x ∷ [] → first_entries gs (i + 1) ≡ first_entries gs i ++ (x ∷ [])
unfolding first_entries
timed_more gs i t x e f = fronts_more (entries_at gs) i ∙ ap (λ o. fronts (entries_at gs) i ++ entry_of i o) e ∙ ap (λ es. fronts (entries_at gs) i ++ es) f

-- and without
pub untimed_more : (gs : List Gate) (i : ℕ) → (get_or gs i no_gate).timing ≡ None → first_entries gs (i + 1) ≡ first_entries gs i
unfolding first_entries
untimed_more gs i e = fronts_more (entries_at gs) i ∙ ap (λ o. fronts (entries_at gs) i ++ entry_of i o) e ∙ append-nil (fronts (entries_at gs) i)

-- the entry of a timed gate is one of all
pub entry_within : (gs : List Gate) (i : ℕ) (t : Timing) → i < length gs → (get_or gs i no_gate).timing ≡ Some t → length (first_entries gs i) < length (gate_entries gs)
unfolding first_entries
entry_within gs i t h e = let w = fronts_within (entries_at gs) i (length gs) h in let one = ap (λ o. length (entry_of i o)) e in omega arith
