-- Actions on vectors obey the laws of register models. Assumes nothing.
use Rattle.std.proofs.Common.{◌≡◌, ℕ, Bool, ◌≢◌, refl, sym, ap, ap₂, ◌∙◌, inl, inr}
use Rattle.std.proofs.Math.Path.{fun_ext}
use Rattle.orders.specs.Lists.{Common}
use Rattle.circuit.specs.declared.action.Plain.{Plain}
use Rattle.circuit.specs.declared.action.Action.{Action}
use Rattle.circuit.specs.Actions.{wires, carry, exchanged}
use Rattle.register.specs.declared.rows.PlainRow.{PlainRow}
use Rattle.register.specs.Models.{swapped}
use Rattle.matrices.specs.declared.Amplitude.{Amplitude}
use Rattle.matrices.specs.Numbers.{plus, turned}
use Rattle.matrices.specs.Assignments.{Assignments, flip_if}
use Rattle.matrices.specs.Matrices.{Vector}
use Rattle.matrices.specs.Gates.{Gate, Gate.flip, gate_of, Terms, Terms.one, Terms.two, terms, value, applied, acted}
use Rattle.matrices.proofs.Numbers.{plus_four, turned_plus, turned_comm}
use Rattle.matrices.proofs.Swaps.{swap3, bit_swap, move_swap, swap_swap, bit_moves, moves_comm}

value_commute : (t u : Terms) (V : Bool → Bool → Bool → Bool → Amplitude) → value t (λ f g. value u (λ h k. V f g h k)) ≡ value u (λ h k. value t (λ f g. V f g h k))
value_commute (one n f g) (one m h k) V = turned_comm n m (V f g h k)
value_commute (one n f g) (two m h k m' h' k') V = turned_plus n (turned m (V f g h k)) (turned m' (V f g h' k')) ∙ ap₂ plus (turned_comm n m (V f g h k)) (turned_comm n m' (V f g h' k'))
value_commute (two n f g n' f' g') (one m h k) V = sym (turned_plus m (turned n (V f g h k)) (turned n' (V f' g' h k)) ∙ ap₂ plus (turned_comm m n (V f g h k)) (turned_comm m n' (V f' g' h k)))
value_commute (two n f g n' f' g') (two m h k m' h' k') V =
    ap₂ plus (turned_plus n (turned m (V f g h k)) (turned m' (V f g h' k'))) (turned_plus n' (turned m (V f' g' h k)) (turned m' (V f' g' h' k')))
    ∙ plus_four (turned n (turned m (V f g h k))) (turned n (turned m' (V f g h' k'))) (turned n' (turned m (V f' g' h k))) (turned n' (turned m' (V f' g' h' k')))
    ∙ ap₂ plus
    (ap₂ plus (turned_comm n m (V f g h k)) (turned_comm n' m (V f' g' h k)) ∙ sym (turned_plus m (turned n (V f g h k)) (turned n' (V f' g' h k))))
    (ap₂ plus (turned_comm n m' (V f g h' k')) (turned_comm n' m' (V f' g' h' k')) ∙ sym (turned_plus m' (turned n (V f g h' k')) (turned n' (V f' g' h' k'))))

module _ (W : Assignments) where
  pub applied_commute : (g h : Gate) (a b c d : ℕ) → a ≢ c → a ≢ d → b ≢ c → b ≢ d → (s : Vector W) → applied W g a b (applied W h c d s) ≡ applied W h c d (applied W g a b s)
  applied_commute g h a b c d ac ad bc bd s = fun_ext (λ i. at i)
    where
      tg : W.At → Terms
      tg i = terms g (W.bit a i) (W.bit b i)

      th : W.At → Terms
      th i = terms h (W.bit c i) (W.bit d i)

      at : (i : W.At) → applied W g a b (applied W h c d s) i ≡ applied W h c d (applied W g a b s) i
      at i =
          ap (value (tg i)) (fun_ext (λ f. fun_ext (λ f'.
          ap₂ (λ (z w : Bool). value (terms h z w) (λ k k'. s (flip_if W k c (flip_if W k' d (flip_if W f a (flip_if W f' b i))))))
          (bit_moves W f f' c a b i (λ e. ac (sym e)) (λ e. bc (sym e))) (bit_moves W f f' d a b i (λ e. ad (sym e)) (λ e. bd (sym e)))
          ∙ ap (value (th i)) (fun_ext (λ k. fun_ext (λ k'. ap s (moves_comm W k k' f f' c d a b i)))))))
          ∙ value_commute (tg i) (th i) (λ f f' k k'. s (flip_if W f a (flip_if W f' b (flip_if W k c (flip_if W k' d i)))))
          ∙ ap (value (th i)) (fun_ext (λ k. fun_ext (λ k'.
          ap₂ (λ (x y : Bool). value (terms g x y) (λ f f'. s (flip_if W f a (flip_if W f' b (flip_if W k c (flip_if W k' d i))))))
          (sym (bit_moves W k k' a c d i ac ad)) (sym (bit_moves W k k' b c d i bc bd)))))

  pub applied_swap : (g : Gate) (a b : ℕ) → a ≢ b → (c d : ℕ) (s : Vector W) → (λ i. applied W g c d (λ j. s (swap3 W a b j)) (swap3 W a b i)) ≡ applied W g (exchanged a b c) (exchanged a b d) s
  applied_swap g a b ne c d s = fun_ext (λ i.
      ap₂ (λ (x y : Bool). value (terms g x y) (λ f h. s (swap3 W a b (flip_if W f c (flip_if W h d (swap3 W a b i)))))) (bit_swap W a b ne c i) (bit_swap W a b ne d i)
      ∙ ap (value (terms g (W.bit (exchanged a b c) i) (W.bit (exchanged a b d) i))) (fun_ext (λ f. fun_ext (λ h. ap s
      (move_swap W f a b ne c (flip_if W h d (swap3 W a b i)) ∙ ap (flip_if W f (exchanged a b c)) (move_swap W h a b ne d (swap3 W a b i) ∙ ap (flip_if W h (exchanged a b d)) (swap_swap W a b ne i)))))))

  module _ (rows : Plain → PlainRow) where
    -- actions that name no common wire commute
    pub acted_apart : (x y : Action) (v : Vector W) → (Common (wires x) (wires y) → ⊥) → acted W rows x (acted W rows y v) ≡ acted W rows y (acted W rows x v)
    acted_apart (Action.One k a) (Action.One l c) v i =
        let ac = λ (e : a ≡ c). i (a, inl refl, inl e) in
        applied_commute (gate_of rows k) (gate_of rows l) a a c c ac ac ac ac v
    acted_apart (Action.One k a) (Action.Cnot c d) v i =
        let ac = λ (e : a ≡ c). i (a, inl refl, inl e) in
        let ad = λ (e : a ≡ d). i (a, inl refl, inr (inl e)) in
        applied_commute (gate_of rows k) flip a a c d ac ad ac ad v
    acted_apart (Action.Cnot a b) (Action.One l c) v i =
        let ac = λ (e : a ≡ c). i (a, inl refl, inl e) in
        let bc = λ (e : b ≡ c). i (b, inr (inl refl), inl e) in
        applied_commute flip (gate_of rows l) a b c c ac ac bc bc v
    acted_apart (Action.Cnot a b) (Action.Cnot c d) v i =
        let ac = λ (e : a ≡ c). i (a, inl refl, inl e) in
        let ad = λ (e : a ≡ d). i (a, inl refl, inr (inl e)) in
        let bc = λ (e : b ≡ c). i (b, inr (inl refl), inl e) in
        let bd = λ (e : b ≡ d). i (b, inr (inl refl), inr (inl e)) in
        applied_commute flip flip a b c d ac ad bc bd v

    -- a swap done twice is nothing
    pub acted_twice : (a b : ℕ) (v : Vector W) → a ≢ b → swapped (acted W rows) a b (swapped (acted W rows) a b v) ≡ v
    acted_twice a b v ne = fun_ext (λ i. ap v (swap_swap W a b ne i))

    -- an action between two swaps of a and b is the action with a and b exchanged
    pub acted_carried : (a b : ℕ) (x : Action) (v : Vector W) → a ≢ b → swapped (acted W rows) a b (acted W rows x (swapped (acted W rows) a b v)) ≡ acted W rows (carry (exchanged a b) x) v
    acted_carried a b (Action.One k c) v ne = applied_swap (gate_of rows k) a b ne c c v
    acted_carried a b (Action.Cnot c d) v ne = applied_swap flip a b ne c d v
