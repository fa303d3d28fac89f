-- One operation more of a run. Assumes nothing.
use Rattle.std.proofs.Common.{◌≡◌, ℕ, suc, ◌+◌, ◌<◌, ◌≤◌, Bool, true, false, cond, eqb, List, [], ◌∷◌, ◌++◌, length, get_or, set, take, drop, is_some, Some, None, Ok, Err, Option, Result, sym, refl, ap, ◌∙◌, ap₂, subst, append_assoc, append-nil, length-append, drop-cons, arith}
use Rattle.std.specs.Prelude.{bit_xor}
use Rattle.std.specs.List.{AllByRecursion}
use Rattle.std.proofs.ByRecursion.{All-get_or}
use Rattle.std.proofs.lemmas.List.{take_more}
use Rattle.std.proofs.Math.Seq.{set-append_seam, take-append_seam}
use Rattle.orders.proofs.Pairs.{all_in}
use Rattle.circuit.specs.declared.action.Action.{Action}
use Rattle.circuit.specs.declared.operation.Operation.{Operation}
use Rattle.circuit.specs.declared.operation.Reading.{Reading}
use Rattle.circuit.specs.Actions.{wires, first_wire, is_h, is_read}
use Rattle.circuit.specs.Operations.{one_if, h_count, read_count, reading}
use Rattle.refusal.specs.declared.Refusal.{Refusal}
use Rattle.refusal.specs.Refusals.{ok_unless}
use Rattle.register.specs.Rows.{flips}
use Rattle.register.specs.Models.{Model, Fits, Fit, after}
use Rattle.register.specs.Numbers.{marked, renumbered, tells, Renumbers}
use Rattle.register.specs.Runs.{capacity, applying_refusal, alone, Taken}
use Rattle.register.proofs.Loops.{h_more, h_front, reads_more, reads_front}
use Rattle.register.proofs.Refusals.{not_refused}
use Rattle.promise.proofs.Exchanges.{act_size, names_first}
use Rattle.promise.proofs.Blocks.{after_append}
use Rattle.rehearsal.specs.Rehearsals.{numbers_after, told_first, reading_told, noted}

-- the state after one operation more
pub after_more : (M : Model) (xs : List Operation) (i : ℕ) (d : Operation) (s : M.State) → i < length xs → after M (take (i + 1) xs) s ≡ M.act (get_or xs i d).action (after M (take i xs) s)
after_more M xs i d s h = ap (λ l. after M l s) (take_more xs i d h) ∙ after_append M (take i xs) (get_or xs i d ∷ []) s

-- an action that fits, and does not go past the greatest count of H, is not refused
pub one_taken : (M : Model) (most : ℕ) (s : M.State) (done : ℕ) (x : Action) → Fit (M.size s) M.takes x → done + one_if (is_h x) ≤ most → applying_refusal (capacity M most s done None) x ≡ None
one_taken M most s done x f few = not_refused (capacity M most s done None) (alone x) (record { fits = (f, tt); few = omega arith; room = λ n e. cc })

module _ (M : Model) (most : ℕ) (s : M.State) (done : ℕ) (places : Option ℕ) (xs : List Operation) (taken : Taken (capacity M most s done places) xs) (i : ℕ) (d : Operation) (h : i < length xs) where
  -- each operation of a list that is taken fits
  pub fits_at : (n : ℕ) → n ≡ M.size s → Fits M n (get_or xs i d)
  fits_at n e = subst (λ k. Fits M k (get_or xs i d)) (sym e) (All-get_or (λ o. Fit (M.size s) M.takes o.action) xs i d h taken.fits)

  -- each H is still allowed when its turn comes
  pub few_at : (now : ℕ) → now ≡ done + h_count (take i xs) → now + one_if (is_h (get_or xs i d).action) ≤ most
  few_at now c =
      let few = taken.few in
      let a = h_more xs i d h in
      let b = h_front xs (i + 1) in
      omega arith

  -- so it is not refused then
  pub applies_at : (t : M.State) (now : ℕ) → M.size t ≡ M.size s → now ≡ done + h_count (take i xs) → applying_refusal (capacity M most t now None) (get_or xs i d).action ≡ None
  applies_at t now e c = one_taken M most t now (get_or xs i d).action (fits_at (M.size t) e) (few_at now c)

  -- the number of wires stays
  pub size_next : (t : M.State) → M.size t ≡ M.size s → M.size (M.act (get_or xs i d).action t) ≡ M.size s
  size_next t e = act_size M (M.size s) t (get_or xs i d).action e (fits_at (M.size s) refl)

  pub h_next : (then : ℕ) → then ≡ done + h_count (take i xs) → then + one_if (is_h (get_or xs i d).action) ≡ done + h_count (take (i + 1) xs)
  h_next then c = let a = h_more xs i d h in omega arith

  first_below : first_wire (get_or xs i d).action < M.size s
  first_below = all_in (λ x. x < M.size s) (wires (get_or xs i d).action) (first_wire (get_or xs i d).action) (fits_at (M.size s) refl).on_wires.within (names_first (get_or xs i d).action)

numbers_append : (mark : ℕ) (xs ys : List Operation) (row : ℕ → ℕ) → numbers_after mark (xs ++ ys) row ≡ numbers_after mark ys (numbers_after mark xs row)
numbers_append mark [] ys row = refl
numbers_append mark (x ∷ xs) ys row = numbers_append mark xs ys (renumbered mark x.action row)

numbers_more : (mark : ℕ) (xs : List Operation) (i : ℕ) (d : Operation) (row : ℕ → ℕ) → i < length xs → numbers_after mark (take (i + 1) xs) row ≡ renumbered mark (get_or xs i d).action (numbers_after mark (take i xs) row)
numbers_more mark xs i d row h = ap (λ l. numbers_after mark l row) (take_more xs i d h) ∙ numbers_append mark (take i xs) (get_or xs i d ∷ []) row

tells_append : (mark : ℕ) (xs ys : List Operation) (row : ℕ → ℕ) → tells mark (xs ++ ys) row ≡ tells mark xs row ++ tells mark ys (numbers_after mark xs row)
tells_append mark [] ys row = refl
tells_append mark (x ∷ xs) ys row =
    ap (λ r. cond (is_read x.action) (v ∷ r) r) (tells_append mark xs ys (renumbered mark x.action row)) ∙ out (is_read x.action)
  where
    v : Reading
    v = reading x.gate (row (first_wire x.action))

    t : List Reading
    t = tells mark xs (renumbered mark x.action row)

    u : List Reading
    u = tells mark ys (numbers_after mark xs (renumbered mark x.action row))

    out : (b : Bool) → cond b (v ∷ (t ++ u)) (t ++ u) ≡ cond b (v ∷ t) t ++ u
    out true = refl
    out false = refl

-- as many readings as reads
pub length-tells : (mark : ℕ) (xs : List Operation) (row : ℕ → ℕ) → length (tells mark xs row) ≡ read_count xs
length-tells mark [] row = refl
length-tells mark (x ∷ xs) row = out (is_read x.action) (length-tells mark xs (renumbered mark x.action row))
  where
    t : List Reading
    t = tells mark xs (renumbered mark x.action row)

    out : (b : Bool) → length t ≡ read_count xs → length (cond b (reading x.gate (row (first_wire x.action)) ∷ t) t) ≡ one_if b + read_count xs
    out true h = omega arith
    out false h = omega arith

-- a reading more
write_next : (was told : List Reading) (k : ℕ) (r : Reading) → k ≡ length told → k < length was → set (told_first was told) k r ≡ told_first was (told ++ (r ∷ []))
write_next was told k r e h =
    let n = length-append told (r ∷ []) in
    ap₂ (λ l j. set (told ++ l) j r) (drop-cons was (length told) r (subst (λ j. j < length was) e h)) e
    ∙ set-append_seam told (get_or was (length told) r) (drop (suc (length told)) was) r
    ∙ ap (λ j. told ++ (r ∷ drop j was)) {x = suc (length told)} {y = length (told ++ (r ∷ []))} (omega arith)
    ∙ sym (append_assoc told (r ∷ []) (drop (length (told ++ (r ∷ []))) was))

note_next : (b : Bool) (was told : List Reading) (k : ℕ) (r : Reading) → k ≡ length told → (b ≡ true → k < length was) → noted (cond b (Some r) None) (told_first was told) k ≡ told_first was (told ++ cond b (r ∷ []) [])
note_next true was told k r e h = write_next was told k r e (h refl)
note_next false was told k r e h = ap (told_first was) (sym (append-nil told))

pub some_if : (b : Bool) (r : Reading) → is_some (cond b (Some r) None) ≡ b
some_if true r = refl
some_if false r = refl

marked_same : (b : Bool) (mark n a : ℕ) (f g : ℕ → ℕ) → a < n → ((w : ℕ) → w < n → f w ≡ g w) → (w : ℕ) → w < n → marked b mark a f w ≡ marked b mark a g w
marked_same true mark n a f g h e w l = ap₂ (λ x y. cond (eqb w a) (bit_xor mark x) y) (e a h) (e w l)
marked_same false mark n a f g h e w l = e w l

-- rows that agree on the wires still do after an action on them
renumbered_same : (mark n : ℕ) (x : Action) (f g : ℕ → ℕ) → AllByRecursion (λ c. c < n) (wires x) → ((w : ℕ) → w < n → f w ≡ g w) → (w : ℕ) → w < n → renumbered mark x f w ≡ renumbered mark x g w
renumbered_same mark n (Action.One k a) f g h e w l = marked_same (flips k) mark n a f g h.0 e w l
renumbered_same mark n (Action.Cnot a b) f g h e w l = ap₂ (λ x y. cond (eqb w b) x y) (ap₂ bit_xor (e a h.0) (e b h.1.0)) (e w l)

module _ (M : Model) {S : Type 0} (state : S → M.State) (mark : ℕ) (numbers : S → ℕ → ℕ) (was : List Reading) (most done : ℕ) (first : S) (xs : List Operation)
    (taken : Taken (capacity M most (state first) done (Some (length was))) xs) (i : ℕ) (d : Operation) (h : i < length xs) where
  abbrev row : ℕ → ℕ
  row = numbers_after mark (take i xs) (numbers first)

  -- the numbers after one operation more
  pub numbers_next : Renumbers M state mark numbers → (x y : S) → M.size (state x) ≡ M.size (state first) → state y ≡ M.act (get_or xs i d).action (state x)
      → ((w : ℕ) → w < M.size (state first) → numbers x w ≡ row w) → (w : ℕ) → w < M.size (state first) → numbers y w ≡ numbers_after mark (take (i + 1) xs) (numbers first) w
  numbers_next law x y z e inv w l =
      let a = (get_or xs i d).action in
      let n = M.size (state first) in
      let f = fits_at M most (state first) done (Some (length was)) xs taken i d h n refl in
      law x y a (subst (λ m. Fit m M.takes a) (sym z) f) e w (subst (λ m. w < m) (sym z) l)
      ∙ renumbered_same mark n a (numbers x) row f.on_wires.within inv w l
      ∙ ap (λ r. r w) (sym (numbers_more mark xs i d (numbers first) h))

  -- a read finds a place
  pub room_at : (k : ℕ) → k ≡ read_count (take i xs) → is_read (get_or xs i d).action ≡ true → k < length was
  room_at k e t =
      let r = taken.room (length was) refl in
      let m = reads_more xs i d h in
      let f = reads_front xs (i + 1) in
      let o : one_if (is_read (get_or xs i d).action) ≡ 1 = ap one_if t in
      omega arith

  -- the count after one operation more
  pub count_next : (k : ℕ) → k ≡ read_count (take i xs) → k + one_if (is_read (get_or xs i d).action) ≡ read_count (take (i + 1) xs)
  count_next k e = ap (λ m. m + one_if (is_read (get_or xs i d).action)) e ∙ sym (reads_more xs i d h)

  -- the places after one operation more
  pub places_next : (x : S) (then : List Reading) (k : ℕ) → k ≡ read_count (take i xs) → ((w : ℕ) → w < M.size (state first) → numbers x w ≡ row w)
      → then ≡ told_first was (tells mark (take i xs) (numbers first)) → noted (reading_told (numbers x) (get_or xs i d)) then k ≡ told_first was (tells mark (take (i + 1) xs) (numbers first))
  places_next x then k e inv p =
      let o = get_or xs i d in
      let told = tells mark (take i xs) (numbers first) in
      let v : numbers x (first_wire o.action) ≡ row (first_wire o.action) = inv (first_wire o.action) (first_below M most (state first) done (Some (length was)) xs taken i d h) in
      ap₂ (λ n l. noted (cond (is_read o.action) (Some (reading o.gate n)) None) l k) v p
      ∙ note_next (is_read o.action) was told k (reading o.gate (row (first_wire o.action))) (e ∙ sym (length-tells mark (take i xs) (numbers first))) (room_at k e)
      ∙ ap (told_first was) (sym (ap (λ l. tells mark l (numbers first)) (take_more xs i d h) ∙ tells_append mark (take i xs) (o ∷ []) (numbers first)))

-- what is not refused is no error
pub not_err : {X : Type 0} (o : Option Refusal) (x : X) (f : Refusal) (r : Result X Refusal) → r ≡ Err f → r ≡ ok_unless o x → o ≡ None → ⊥
not_err None x f r e h n = cc
not_err (Some p) x f r e h n = cc

-- the readings are the first places
pub told_front : (was told : List Reading) (n : ℕ) → length told ≡ n → take n (told_first was told) ≡ told
told_front was told n e = ap (λ k. take k (told ++ drop (length told) was)) (sym e) ∙ take-append_seam told (drop (length told) was)

-- what one operation's turn asks
pub ruleset turn = (one_taken, some_if)

-- one result has one value
pub ok_same : {X : Type 0} (r : Result X Refusal) (x y : X) → r ≡ Ok x → r ≡ Ok y → x ≡ y
ok_same r x y e f = cc
