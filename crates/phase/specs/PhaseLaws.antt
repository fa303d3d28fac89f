-- The laws of what actions do to the phase register's states, for any rows of the plain gates. Lemmas. Assumes nothing.
use Rattle.std.specs.Prelude.{◌≡◌, ℕ, ◌+◌, ◌%◌, Bool, false, cond, ◌≢◌, refl}
use Rattle.std.proofs.Common.{sym, ap, ap₂, ◌∙◌, inl, inr, arith}
use Rattle.orders.specs.Lists.{Common}
use Rattle.circuit.specs.declared.action.Plain.{Plain}
use Rattle.circuit.specs.declared.action.Single.{Single}
use Rattle.circuit.specs.declared.action.Action.{Action}
use Rattle.circuit.specs.Actions.{first_wire, wires, carry, exchanged}
use Rattle.register.specs.declared.rows.PlainRow.{PlainRow}
use Rattle.register.specs.Models.{swapped}
use Rattle.matrices.specs.Indices.{indices}
use Rattle.matrices.specs.Assignments.{flip_if}
use Rattle.matrices.proofs.Swaps.{swap3, bit_swap, move_swap, swap_swap, bit_moves, moves_comm}
use Rattle.bits.specs.Bits.{bit}
use Rattle.phase.specs.Phases.{PhaseState, phase_acted}

-- a change of turn
data Turning : Type 0 where
  still : Turning
  by : ℕ → Turning

abbrev turn_after : Turning → ℕ → ℕ
turn_after still t = t
turn_after (by n) t = (t + n) % 8

turn_comm : (p q : Turning) (t : ℕ) → turn_after p (turn_after q t) ≡ turn_after q (turn_after p t)
turn_comm still q t = refl
turn_comm (by m) still t = refl
turn_comm (by m) (by n) t = omega arith

module _ (rows : Plain → PlainRow) where
  -- an action as what it flips and turns, by the bit of its first wire
  abbrev last_wire : Action → ℕ
  last_wire (Action.One k a) = a
  last_wire (Action.Cnot a b) = b

  abbrev flips_first : Action → Bool
  flips_first (Action.One Single.H a) = false
  flips_first (Action.One (Single.Plain p) a) = (rows p).flips
  flips_first (Action.One Single.Read a) = false
  flips_first (Action.Cnot a b) = false

  abbrev flips_last : Action → Bool → Bool
  flips_last (Action.One k a) x = false
  flips_last (Action.Cnot a b) x = x

  abbrev turning : Action → Bool → Turning
  turning (Action.One Single.H a) x = still
  turning (Action.One (Single.Plain p) a) x = by (cond x (rows p).turn1 (rows p).turn0)
  turning (Action.One Single.Read a) x = still
  turning (Action.Cnot a b) x = still

  abbrev state : ℕ → ℕ → ℕ → PhaseState
  state n i t = record { wires = n; bits = i; turn = t }

  -- the action, at wires a and b, where its first wire has the bit x
  abbrev step : Action → ℕ → ℕ → Bool → PhaseState → PhaseState
  step g a b x s = state s.wires (flip_if indices (flips_first g) a (flip_if indices (flips_last g x) b s.bits)) (turn_after (turning g x) s.turn)

  steps : (g : Action) (s : PhaseState) → phase_acted rows g s ≡ step g (first_wire g) (last_wire g) (bit s.bits (first_wire g)) s
  steps (Action.One Single.H a) s = refl
  steps (Action.One (Single.Plain p) a) s = refl
  steps (Action.One Single.Read a) s = refl
  steps (Action.Cnot a b) s = refl

  -- steps at other wires commute
  step_comm : (g h : Action) (a b c d : ℕ) → a ≢ c → a ≢ d → b ≢ c → b ≢ d → (s : PhaseState)
      → step g a b (bit (step h c d (bit s.bits c) s).bits a) (step h c d (bit s.bits c) s) ≡ step h c d (bit (step g a b (bit s.bits a) s).bits c) (step g a b (bit s.bits a) s)
  step_comm g h a b c d ac ad bc bd s =
      ap (λ (v : Bool). step g a b v (step h c d z s)) (bit_moves indices (flips_first h) (flips_last h z) a c d i ac ad)
      ∙ ap₂ (state s.wires) (moves_comm indices (flips_first g) (flips_last g x) (flips_first h) (flips_last h z) a b c d i) (turn_comm (turning g x) (turning h z) s.turn)
      ∙ sym (ap (λ (v : Bool). step h c d v (step g a b x s)) (bit_moves indices (flips_first g) (flips_last g x) c a b i (λ e. ac (sym e)) (λ e. bc (sym e))))
    where
      i : ℕ
      i = s.bits

      x : Bool
      x = bit i a

      z : Bool
      z = bit i c

  acted_comm : (g h : Action) → first_wire g ≢ first_wire h → first_wire g ≢ last_wire h → last_wire g ≢ first_wire h → last_wire g ≢ last_wire h → (s : PhaseState)
      → phase_acted rows g (phase_acted rows h s) ≡ phase_acted rows h (phase_acted rows g s)
  acted_comm g h ac ad bc bd s =
      steps g (phase_acted rows h s) ∙ ap (λ t. step g (first_wire g) (last_wire g) (bit t.bits (first_wire g)) t) (steps h s)
      ∙ step_comm g h (first_wire g) (last_wire g) (first_wire h) (last_wire h) ac ad bc bd s
      ∙ sym (steps h (phase_acted rows g s) ∙ ap (λ t. step h (first_wire h) (last_wire h) (bit t.bits (first_wire h)) t) (steps g s))

  pub acted_apart : (g h : Action) (s : PhaseState) → (Common (wires g) (wires h) → ⊥) → phase_acted rows g (phase_acted rows h s) ≡ phase_acted rows h (phase_acted rows g s)
  acted_apart (Action.One k a) (Action.One l c) s i =
      let n : a ≢ c = λ e. i (a, inl refl, inl e) in
      acted_comm (Action.One k a) (Action.One l c) n n n n s
  acted_apart (Action.One k a) (Action.Cnot c d) s i =
      let n : a ≢ c = λ e. i (a, inl refl, inl e) in
      let m : a ≢ d = λ e. i (a, inl refl, inr (inl e)) in
      acted_comm (Action.One k a) (Action.Cnot c d) n m n m s
  acted_apart (Action.Cnot a b) (Action.One l c) s i =
      let n : a ≢ c = λ e. i (a, inl refl, inl e) in
      let m : b ≢ c = λ e. i (b, inr (inl refl), inl e) in
      acted_comm (Action.Cnot a b) (Action.One l c) n n m m s
  acted_apart (Action.Cnot a b) (Action.Cnot c d) s i =
      acted_comm (Action.Cnot a b) (Action.Cnot c d) (λ e. i (a, inl refl, inl e)) (λ e. i (a, inl refl, inr (inl e))) (λ e. i (b, inr (inl refl), inl e)) (λ e. i (b, inr (inl refl), inr (inl e))) s

  abbrev swap : ℕ → ℕ → PhaseState → PhaseState
  swap a b s = state s.wires (swap3 indices a b s.bits) s.turn

  -- three CNOTs exchange the two wires in the assignment
  swap_is : (a b : ℕ) (s : PhaseState) → swapped (phase_acted rows) a b s ≡ swap a b s
  swap_is a b s = refl

  pub acted_twice : (a b : ℕ) (s : PhaseState) → a ≢ b → swapped (phase_acted rows) a b (swapped (phase_acted rows) a b s) ≡ s
  acted_twice a b s ne = ap (λ (i : ℕ). state s.wires i s.turn) (swap_swap indices a b ne s.bits)

  step_swap : (g : Action) (a b : ℕ) → a ≢ b → (c d : ℕ) (s : PhaseState)
      → swap a b (step g c d (bit (swap a b s).bits c) (swap a b s)) ≡ step g (exchanged a b c) (exchanged a b d) (bit s.bits (exchanged a b c)) s
  step_swap g a b ne c d s =
      ap (λ (v : Bool). swap a b (step g c d v (swap a b s))) (bit_swap indices a b ne c s.bits)
      ∙ ap (λ (i : ℕ). state s.wires i (turn_after (turning g x) s.turn))
      (move_swap indices (flips_first g) a b ne c (flip_if indices (flips_last g x) d (swap3 indices a b s.bits))
      ∙ ap (flip_if indices (flips_first g) (exchanged a b c)) (move_swap indices (flips_last g x) a b ne d (swap3 indices a b s.bits) ∙ ap (flip_if indices (flips_last g x) (exchanged a b d)) (swap_swap indices a b ne s.bits)))
    where
      x : Bool
      x = bit s.bits (exchanged a b c)

  carried_step : (f : ℕ → ℕ) (g : Action) (s : PhaseState) → step g (f (first_wire g)) (f (last_wire g)) (bit s.bits (f (first_wire g))) s ≡ phase_acted rows (carry f g) s
  carried_step f (Action.One Single.H a) s = refl
  carried_step f (Action.One (Single.Plain p) a) s = refl
  carried_step f (Action.One Single.Read a) s = refl
  carried_step f (Action.Cnot a b) s = refl

  pub acted_carried : (a b : ℕ) (g : Action) (s : PhaseState) → a ≢ b
      → swapped (phase_acted rows) a b (phase_acted rows g (swapped (phase_acted rows) a b s)) ≡ phase_acted rows (carry (exchanged a b) g) s
  acted_carried a b g s ne =
      ap (swap a b) (steps g (swap a b s)) ∙ step_swap g a b ne (first_wire g) (last_wire g) s ∙ carried_step (exchanged a b) g s

  pub acted_keeps : (g : Action) (s : PhaseState) → (phase_acted rows g s).wires ≡ s.wires
  acted_keeps (Action.One Single.H a) s = refl
  acted_keeps (Action.One (Single.Plain p) a) s = refl
  acted_keeps (Action.One Single.Read a) s = refl
  acted_keeps (Action.Cnot a b) s = refl
