-- What exchanges of independent neighbours leave of a run. Assumes nothing.
use Rattle.std.proofs.Common.{◌≡◌, ℕ, ◌+◌, Bool, true, false, cond, List, ◌∷◌, sym, refl, ap, ◌∙◌, subst, inl, arith}
use Rattle.std.specs.List.{AllByRecursion}
use Rattle.orders.specs.Lists.{In, Common}
use Rattle.orders.specs.Perms.{Insert, here, there, Perm, none, more}
use Rattle.orders.specs.Exchanges.{Exchanges, same, keep, turn, next}
use Rattle.orders.proofs.Perms.{perm_refl, perm_trans}
use Rattle.orders.proofs.Traces.{all_exchanges}
use Rattle.circuit.specs.declared.action.Action.{Action}
use Rattle.circuit.specs.declared.operation.Operation.{Operation}
use Rattle.circuit.specs.Actions.{wires, first_wire, is_h, is_read}
use Rattle.circuit.specs.Operations.{cells_of, one_if, h_count, read_count, reading}
use Rattle.register.specs.Models.{Model, Fit, Fits, after}
use Rattle.register.specs.Numbers.{renumbered, tells}
use Rattle.register.proofs.Numbers.{apart as numbers_apart, stays}

-- the operations name a common cell
abbrev pub Meet : Operation → Operation → Type 0
Meet o p = Common (cells_of o) (cells_of p)

-- they name none
abbrev pub Free : Operation → Operation → Type 0
Free o p = Meet o p → ⊥

-- a law's premise at the wires of a state
pub at_size : (M : Model) (n : ℕ) (s : M.State) (x : Action) → M.size s ≡ n → Fit n M.takes x → Fit (M.size s) M.takes x
at_size M n s x e f = subst (λ m. Fit m M.takes x) (sym e) f

pub act_size : (M : Model) (n : ℕ) (s : M.State) (x : Action) → M.size s ≡ n → Fit n M.takes x → M.size (M.act x s) ≡ n
act_size M n s x e f = M.keeps x s (at_size M n s x e f) ∙ e

-- two independent operations in the other order
pub operations_apart : (M : Model) (n : ℕ) (s : M.State) (o p : Operation) → M.size s ≡ n → Fits M n o → Fits M n p → Free o p → M.act p.action (M.act o.action s) ≡ M.act o.action (M.act p.action s)
operations_apart M n s o p e f g i = sym (M.apart o.action p.action s (at_size M n s o.action e f) (at_size M n s p.action e g) i)

-- exchanges keep the state
pub after_exchanges : (M : Model) (n : ℕ) {xs ys : List Operation} → Exchanges Free xs ys → AllByRecursion (Fits M n) xs → (s : M.State) → M.size s ≡ n → after M xs s ≡ after M ys s
after_exchanges M n same f s e = refl
after_exchanges M n (keep {x = x} w) f s e = after_exchanges M n w f.1 (M.act x.action s) (act_size M n s x.action e f.0)
after_exchanges M n (turn {x = x} {y = y} {xs = xs} i) f s e = ap (after M xs) (operations_apart M n s x y e f.0 f.1.0 i)
after_exchanges M n (next w v) f s e = after_exchanges M n w f s e ∙ after_exchanges M n v (all_exchanges (Fits M n) w f) s e

-- and the count of H
pub h_exchanges : {xs ys : List Operation} → Exchanges Free xs ys → h_count xs ≡ h_count ys
h_exchanges same = refl
h_exchanges (keep {x = x} w) = ap (λ n. one_if (is_h x.action) + n) (h_exchanges w)
h_exchanges (turn i) = omega arith
h_exchanges (next w v) = h_exchanges w ∙ h_exchanges v

-- an action names its first wire
pub names_first : (x : Action) → In (first_wire x) (wires x)
names_first (Action.One k a) = inl refl
names_first (Action.Cnot a b) = inl refl

reads_insert : {o : Operation} {xs ys : List Operation} → Insert o xs ys → read_count ys ≡ one_if (is_read o.action) + read_count xs
reads_insert here = refl
reads_insert (there {y = y} i) = let h = reads_insert i in omega arith

-- as many reads in each order
pub reads_perm : {xs ys : List Operation} → Perm xs ys → read_count xs ≡ read_count ys
reads_perm none = refl
reads_perm (more p i) = let h = reads_perm p in let k = reads_insert i in omega arith

perm_tell : {X : Type 0} (b : Bool) (p : X) {xs ys : List X} → Perm xs ys → Perm (cond b (p ∷ xs) xs) (cond b (p ∷ ys) ys)
perm_tell true p r = more r here
perm_tell false p r = r

perm_tell_two : {X : Type 0} (b c : Bool) (p q : X) (xs : List X)
    → Perm (cond b (p ∷ cond c (q ∷ xs) xs) (cond c (q ∷ xs) xs)) (cond c (q ∷ cond b (p ∷ xs) xs) (cond b (p ∷ xs) xs))
perm_tell_two true true p q xs = more (more (perm_refl xs) here) (there here)
perm_tell_two true false p q xs = perm_refl (p ∷ xs)
perm_tell_two false true p q xs = perm_refl (q ∷ xs)
perm_tell_two false false p q xs = perm_refl xs

module _ (mark : ℕ) where
  -- a number that the operation does not name stays
  told_free : (o p : Operation) → Free o p → (row : ℕ → ℕ) → renumbered mark o.action row (first_wire p.action) ≡ row (first_wire p.action)
  told_free o p i row = stays mark o.action (first_wire p.action) row (λ h. i (first_wire p.action, h, names_first p.action))

  -- exchanges keep what each read tells
  pub tells_exchanges : {xs ys : List Operation} → Exchanges Free xs ys → (row : ℕ → ℕ) → Perm (tells mark xs row) (tells mark ys row)
  tells_exchanges {xs} same row = perm_refl (tells mark xs row)
  tells_exchanges (keep {x = x} w) row = perm_tell (is_read x.action) (reading x.gate (row (first_wire x.action))) (tells_exchanges w (renumbered mark x.action row))
  tells_exchanges (turn {x = x} {y = y} {xs = xs} i) row =
      let r = tells mark xs (renumbered mark y.action (renumbered mark x.action row)) in
      let d : tells mark xs (renumbered mark y.action (renumbered mark x.action row)) ≡ tells mark xs (renumbered mark x.action (renumbered mark y.action row)) = ap (tells mark xs) (sym (numbers_apart mark x.action y.action row i)) in
      let p : renumbered mark x.action row (first_wire y.action) ≡ row (first_wire y.action) = told_free x y i row in
      let q : renumbered mark y.action row (first_wire x.action) ≡ row (first_wire x.action) = told_free y x (λ c. i (c.0, c.2, c.1)) row in
      rw (p, q, ← d) (perm_tell_two (is_read x.action) (is_read y.action) (reading x.gate (row (first_wire x.action))) (reading y.gate (row (first_wire y.action))) r)
  tells_exchanges (next w v) row = perm_trans (tells_exchanges w row) (tells_exchanges v row)
