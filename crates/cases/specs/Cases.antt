-- Worked examples, one table. Assumes nothing.
use Rattle.std.specs.Prelude.{◌≡◌, [], ◌∷◌, pos, Some, None, Ok, Err}
use Rattle.refusal.specs.declared.Refusal.{Refusal}
use Rattle.circuit.specs.declared.action.Plain.{Plain}
use Rattle.circuit.specs.declared.action.Single.{Single}
use Rattle.circuit.specs.declared.action.Action.{Action}
use Rattle.grid.specs.Grids.{grid}
use Rattle.calibration.specs.Calibrations.{link_time}
use Rattle.rules.specs.Bends.{one_bend, rectangle}
use Rattle.cnot.specs.Links.{links, time_over}
use Rattle.plan.specs.Listings.{listing, agenda as agenda_of}
use Rattle.matrices.specs.Numbers.{amplitude, nought, unit, omega_power}
use Rattle.book.specs.Books.{Book}
use Rattle.book.specs.Calls.{add, calibrate, try, judge, list}
use Rattle.book.specs.Answers.{answer, opening_answer}
use Rattle.book.specs.Histories.{fed, History, HandedOut}
use Rattle.lines.specs.Lines.{lines_of}
use Rattle.dialogue.specs.Dialogues.{Dialogue}
use Rattle.cases.specs.Registers.{one, plain, h_among, amplitudes_after, phase_after, told_after, one_more_h}
use Rattle.cases.specs.Scripts.{BookAnswered, distant_input, distant_output}
use Rattle.cases.specs.Jobs.{values, distant_book, distant_listing, no_gates, two_gates, third_label, corners, one_read}

pub record CasesHold : Type 0 where
  -- on a square the one-bend rule goes from corner to corner both ways round, the rectangle rule along the row
  pub row_first : one_bend.path (grid 2 2) 0 3 0 ≡ 0 ∷ 1 ∷ 3 ∷ []
  pub column_first : one_bend.path (grid 2 2) 0 3 1 ≡ 0 ∷ 2 ∷ 3 ∷ []
  pub along_row : rectangle.path (grid 2 2) 0 3 0 ≡ 0 ∷ 1 ∷ 3 ∷ []
  pub second_choice : answer (corners 1) (judge one_bend) ≡ Ok 7
  pub no_third_choice : answer (corners 2) (judge one_bend) ≡ Err (Refusal.ChoiceNotOffered 0)
  pub no_second_choice : answer (corners 1) (judge rectangle) ≡ Err (Refusal.ChoiceNotOffered 0)
  -- a CNOT over two links that take 2 and 3 lasts 6 * 2 + 3
  pub lasts : time_over (links (link_time (grid 3 1) distant_book.plan.calibration) (one_bend.path (grid 3 1) 0 2 0)) ≡ 15
  -- the job of that CNOT: its judging, its agenda, its seven operations, and six places for them
  pub opened : opening_answer 3 1 2 ≡ Ok 3
  pub judged : answer distant_book (judge one_bend) ≡ Ok 20
  pub entered : agenda_of distant_book.plan ≡ record { start = 5; gate = 0 } ∷ []
  pub listed : listing distant_book.plan one_bend ≡ distant_listing
  pub counted : answer distant_book (list one_bend 7) ≡ Ok 7
  pub six_places : answer distant_book (list one_bend 6) ≡ Err Refusal.TooFewPlaces
  -- a window of 20 at its target is met, one of 19 is not, and one of 19 at the cell between breaks nothing
  pub window_met : answer (fed distant_book (calibrate 2 (values 1 1 20 0 0))) (judge one_bend) ≡ Ok 20
  pub window_passed : answer (fed distant_book (calibrate 2 (values 1 1 19 0 0))) (judge one_bend) ≡ Err (Refusal.PastWindow 0 2)
  pub window_between : answer (fed distant_book (calibrate 1 (values 1 1 19 3 0))) (judge one_bend) ≡ Ok 20
  -- a program with no gate ends at 0 and lists nothing
  pub nothing_judged : answer no_gates (judge one_bend) ≡ Ok 0
  pub nothing_listed : answer no_gates (list one_bend 0) ≡ Ok 0
  -- H at 0, then X on the same label at 1 or at 0
  pub in_turn : answer (two_gates 1) (judge one_bend) ≡ Ok 2
  pub too_early : answer (two_gates 0) (judge one_bend) ≡ Err (Refusal.TooEarly 0 1)
  pub tried_too_early : answer (two_gates 1) (try one_bend 1 0 0) ≡ Err (Refusal.TooEarly 0 1)
  -- H at the cell between while a CNOT passes, which ends at 7
  pub after_passing : answer (third_label 7) (judge one_bend) ≡ Ok 8
  pub while_passing : answer (third_label 6) (judge one_bend) ≡ Err (Refusal.Overlap 0 1)
  -- after a read no gate takes the label
  pub read_then_x : answer one_read (add 88 0 0) ≡ Err (Refusal.AlreadyRead 0)
  pub read_twice : answer one_read (add 82 0 0) ≡ Err (Refusal.AlreadyRead 0)
  -- H and then T on one blank wire of an amplitude register: 1 and ω, and one factor √2; H twice: 2 and 0, and two
  pub h_then_t : amplitudes_after (one Single.H ∷ plain Plain.T ∷ []) ≡ unit ∷ omega_power 1 ∷ []
  pub h_then_t_count : h_among (one Single.H ∷ plain Plain.T ∷ []) ≡ 1
  pub h_twice : amplitudes_after (one Single.H ∷ one Single.H ∷ []) ≡ amplitude (pos 2) (pos 0) (pos 0) (pos 0) ∷ nought ∷ []
  pub h_twice_count : h_among (one Single.H ∷ one Single.H ∷ []) ≡ 2
  -- the sixty-first H is refused, the sixtieth is not
  pub sixtieth_h : one_more_h 59 ≡ None
  pub sixty_first_h : one_more_h 60 ≡ Some Refusal.TooManyH
  -- X and then Y on one blank wire of a phase register: the bit 0 again, and the turn 6
  pub x_then_y : phase_after (plain Plain.X ∷ plain Plain.Y ∷ []) ≡ record { wires = 1; bits = 0; turn = 6 }
  -- a CNOT from wire 0 to wire 1 of a parity register of two, and X on wire 0 after it
  pub target_joined : told_after (Action.Cnot 0 1 ∷ []) ≡ 1 ∷ 3 ∷ []
  pub control_marked : told_after (Action.Cnot 0 1 ∷ plain Plain.X ∷ []) ≡ 4294967297 ∷ 3 ∷ []
  -- the text of that job of a CNOT, from the first line to the last: after its last line the job is as the calls make it, and what is printed is as written
  pub text_answered : Dialogue BookAnswered None 1 (lines_of distant_input) (Some distant_book) distant_output
  -- there is a history of that job, and a listing is handed out in it
  pub handed_out : (e : Book) × (h : History e) × HandedOut e h distant_book one_bend distant_listing
