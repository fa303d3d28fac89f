-- The constraints on the spans of a plan are those on the plan. Assumes nothing.
use Rattle.std.proofs.Common.{◌≡◌, ℕ, ◌<◌, ◌≤◌, not, ◌&&◌, ltb, List, length, None, ap, ◌∙◌, ap₂, arith}
use Rattle.std.specs.Option.{option_map}
use Rattle.std.proofs.lemmas.Bool.{and_parts, not-false}
use Rattle.search.specs.Searches.{some_below, highest, scan_pairs}
use Rattle.search.proofs.Searches.{scan_like, named_like, nothing_found, some_below_narrow, highest_like}
use Rattle.refusal.specs.declared.Refusal.{Refusal}
use Rattle.refusal.specs.Refusals.{or_else}
use Rattle.circuit.specs.Actions.{share, wire_at}
use Rattle.grid.specs.Grids.{GridFit, cells}
use Rattle.grid.specs.Members.{has}
use Rattle.grid.proofs.Fits.{few-cells}
use Rattle.route.specs.Routes.{Route, RouteLawful}
use Rattle.plan.specs.Plans.{Plan, gate_count, action_at, start_at, choice_at}
use Rattle.plan.specs.Durations.{end_at, reserved}
use Rattle.plan.specs.Constraints.{Offered}
use Rattle.plan.specs.Verdicts.{is_offered, too_early, overlap, too_late, fails, naming, found, latest_end, late_at, home_or}
use Rattle.plan.proofs.Tests.{offered_from}
use Rattle.plan.proofs.Reserved.{reserved_below}
use Rattle.spans.specs.declared.span.Span.{Span}
use Rattle.schedule.specs.Schedules.{span_at, meeting, early_at, early, overlap_at, overlapping, span_late, late, latest, schedule_broken}
use Rattle.judge.specs.Judging.{SpansOf, unoffered, last_three}

module _ (p : Plan) (R : Route) (ss : List Span) (long : length ss ≡ gate_count p) (sp : SpansOf p R (gate_count p) ss) where
  abbrev n : ℕ
  n = gate_count p

  early_test : (i j : ℕ) → i < n → j < n → (ltb i j && early_at ss i j) ≡ fails p R too_early i j
  early_test i j h k =
      ap₂ (λ s e. ltb i j && (ltb s e && share (span_at ss i).action (span_at ss j).action)) (sp j k).start (sp i h).end
      ∙ ap₂ (λ x y. ltb i j && (ltb (start_at p j) (end_at p R i) && share x y)) (sp i h).action (sp j k).action

  early-same : early ss ≡ found p R too_early
  early-same =
      ap (λ m. option_map (naming p R too_early) (scan_pairs (λ i j. ltb i j && early_at ss i j) m m)) long
      ∙ ap (option_map (naming p R too_early)) (scan_like (λ i j. ltb i j && early_at ss i j) (fails p R too_early) n n early_test)

  late_test : (i q : ℕ) → i < n → q < 2 → span_late p ss i q ≡ fails p R too_late i q
  late_test i q h k = ap₂ (λ e x. late_at p e (wire_at q x)) (sp i h).end (sp i h).action

  late-same : late p ss ≡ found p R too_late
  late-same =
      ap (λ m. option_map (λ q. Refusal.PastWindow q.0 (home_or p (wire_at q.1 (span_at ss q.0).action))) (scan_pairs (span_late p ss) m 2)) long
      ∙ named_like (λ q. Refusal.PastWindow q.0 (home_or p (wire_at q.1 (span_at ss q.0).action))) (naming p R too_late) (span_late p ss) n 2
      (λ q h. ap (λ x. Refusal.PastWindow q.0 (home_or p (wire_at q.1 x))) (sp q.0 h).action)
      ∙ ap (option_map (naming p R too_late)) (scan_like (span_late p ss) (fails p R too_late) n 2 late_test)

  pub latest-same : latest ss ≡ latest_end p R
  latest-same = ap (highest (λ i. (span_at ss i).end)) long ∙ highest_like (λ i. (span_at ss i).end) (end_at p R) n (λ i h. (sp i h).end)

  module _ (fit : GridFit p.machine) (lawful : RouteLawful R) (offered : unoffered R.choices p.gates ≡ None) where
    all_offered : (i : ℕ) → i < n → Offered R (action_at p i) (choice_at p i)
    all_offered i h =
        offered_from R (action_at p i) (choice_at p i)
        (not-false (is_offered R.choices (action_at p i) (choice_at p i)) (nothing_found (λ q. Refusal.ChoiceNotOffered q.0) (λ g j. not (is_offered R.choices (action_at p g) (choice_at p g))) n 1 offered i 0 h (omega arith)))

    meeting-same : (bound i j : ℕ) → cells p.machine ≤ bound → i < n → j < n
        → some_below (λ c. has (span_at ss i).cells c && has (span_at ss j).cells c) bound ≡ some_below (λ c. reserved p R i c && reserved p R j c) (cells p.machine)
    meeting-same bound i j b h k =
        ap₂ (λ f g. some_below (λ c. f c && g c) bound) (sp i h).cells (sp j k).cells
        ∙ some_below_narrow (λ c. reserved p R i c && reserved p R j c) (cells p.machine) bound b
        (λ c e. reserved_below p R (choice_at p i) (action_at p i) c fit lawful (all_offered i h) (and_parts (reserved p R i c) (reserved p R j c) e).0)

    overlap_test : (i j : ℕ) → i < n → j < n → (ltb i j && overlap_at ss i j) ≡ fails p R overlap i j
    overlap_test i j h k =
        ap₂ (λ s e. ltb i j && (ltb s e && (ltb (span_at ss j).start (span_at ss i).end && meeting (span_at ss i).cells (span_at ss j).cells))) (sp i h).start (sp j k).end
        ∙ ap₂ (λ s e. ltb i j && (ltb (start_at p i) (end_at p R j) && (ltb s e && meeting (span_at ss i).cells (span_at ss j).cells))) (sp j k).start (sp i h).end
        ∙ ap (λ t. ltb i j && (ltb (start_at p i) (end_at p R j) && (ltb (start_at p j) (end_at p R i) && t))) (meeting-same 64 i j (few-cells p.machine fit) h k)

    overlap-same : overlapping ss ≡ found p R overlap
    overlap-same =
        ap (λ m. option_map (naming p R overlap) (scan_pairs (λ i j. ltb i j && overlap_at ss i j) m m)) long
        ∙ ap (option_map (naming p R overlap)) (scan_like (λ i j. ltb i j && overlap_at ss i j) (fails p R overlap) n n overlap_test)

    pub broken-same : schedule_broken p ss ≡ last_three p R
    broken-same = ap₂ or_else early-same (ap₂ or_else overlap-same late-same)
