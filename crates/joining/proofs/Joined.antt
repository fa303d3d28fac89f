-- One element more joins a queue. Assumes nothing.
use Rattle.std.proofs.Common.{◌≡◌, ℕ, ◌+◌, ◌-◌, ◌<◌, ◌≤◌, Bool, leb, List, [], ◌∷◌, ◌++◌, length, Ok, Err, Result, is_ok, sym, refl, ap, subst, ◌∙◌, arith, add-zero, length-append}
use Rattle.std.specs.Bool.{if◌then◌else◌}
use Rattle.std.proofs.lemmas.Bool.{lt-leb, le-ltb}
use Rattle.std.proofs.lemmas.Bool.Decides.{nat_tests}
use Rattle.std.proofs.lemmas.List.{take_all}
use Rattle.refusal.specs.declared.Refusal.{Refusal}
use Rattle.refusal.specs.Refusals.{refuse_if, ok_unless}
use Rattle.orders.specs.Sorting.{put_in, put_in_all}
use Rattle.orders.proofs.Lists.{drop-later}
use Rattle.orders.proofs.Sorting.{put_in_all-append}
use Rattle.queue.specs.declared.Queue.{Queue}
use Rattle.queue.specs.Held.{count, room, held, Lent}
use Rattle.joining.specs.Joined.{Joined, with_place, joining_refusal}

-- what a push answers where there are so many places and so many wait
abbrev pub pushed : ℕ → ℕ → Result (Unit {0}) Refusal
pushed places waits = ok_unless (refuse_if (leb places waits) Refusal.TooFewPlaces) tt

-- a queue with a place left refuses nothing
pub has_room : (places waits : ℕ) (r : Refusal) → waits < places → Err r ≡ pushed places waits → ⊥
has_room places waits r h e = grind (arith, nat_tests)

-- a refusal says that every place is taken
pub no_room : (places waits : ℕ) (r : Refusal) → Err r ≡ pushed places waits → (places ≤ waits) × (r ≡ Refusal.TooFewPlaces)
no_room places waits r e = (grind (arith, nat_tests), grind (arith, nat_tests))

module _ {X : Type 0} (before : X → X → Bool) where
  -- none has joined
  pub joined_none : (q : Queue X) → Joined before [] q q
  joined_none q = record { lent = record { lender = refl; long = refl; rest = refl }; counted = sym (add-zero (count q)); joined = refl }

  -- after those of xs one more
  pub joined_more : (xs : List X) (x : X) (q r s : Queue X) → Joined before xs q r → held before s ≡ put_in before x (held before r) → count s ≡ count r + 1 → Lent (count s) r s → Joined before (xs ++ (x ∷ [])) q s
  joined_more xs x q r s j h c l = record {
    lent = record {
      lender = l.lender ∙ j.lent.lender;
      long = l.long ∙ j.lent.long;
      rest = l.rest ∙ drop-later r.places.now q.places.now (count r) (count s) (omega arith) j.lent.rest;
    };
    counted = let n = length-append xs (x ∷ []) in let k = j.counted in omega arith;
    joined = h ∙ ap (put_in before x) j.joined ∙ sym (put_in_all-append before (held before q) xs (x ∷ []));
  }

  -- the same after a push that was not refused
  pub joined_push : (xs : List X) (x : X) (q r s : Queue X) (a : Result (Unit {0}) Refusal) (u : Unit {0}) → Joined before xs q r → a ≡ Ok u
      → held before s ≡ (if is_ok a then put_in before x (held before r) else held before r) → count s ≡ (if is_ok a then count r + 1 else count r) → Lent (count s) r s → Joined before (xs ++ (x ∷ [])) q s
  joined_push xs x q r s a u j e h c l =
      joined_more xs x q r s j (h ∙ ap (λ b. if is_ok b then put_in before x (held before r) else held before r) e) (c ∙ ap (λ b. if is_ok b then count r + 1 else count r) e) l

  -- a push that was refused
  pub joined_refused : (xs : List X) (x : X) (q r s : Queue X) (a : Result (Unit {0}) Refusal) (e : Refusal) → Joined before xs q r → a ≡ Err e
      → held before s ≡ (if is_ok a then put_in before x (held before r) else held before r) → count s ≡ (if is_ok a then count r + 1 else count r) → Lent (count s) r s → Joined before xs q s
  joined_refused xs x q r s a w j e h c l =
      let n : count s ≡ count r = c ∙ ap (λ b. if is_ok b then count r + 1 else count r) e in
      record {
        lent = record {
          lender = l.lender ∙ j.lent.lender;
          long = l.long ∙ j.lent.long;
          rest = l.rest ∙ drop-later r.places.now q.places.now (count r) (count s) (omega arith) j.lent.rest;
        };
        counted = n ∙ j.counted;
        joined = h ∙ ap (λ b. if is_ok b then put_in before x (held before r) else held before r) e ∙ j.joined;
      }

  -- more have joined after those of xs
  pub joined_then : (xs ys : List X) (q r s : Queue X) → Joined before xs q r → Joined before ys r s → Joined before (xs ++ ys) q s
  joined_then xs ys q r s j k = record {
    lent = record {
      lender = k.lent.lender ∙ j.lent.lender;
      long = k.lent.long ∙ j.lent.long;
      rest = let n = k.counted in k.lent.rest ∙ drop-later r.places.now q.places.now (count r) (count s) (omega arith) j.lent.rest;
    };
    counted = let n = length-append xs ys in let a = j.counted in let b = k.counted in omega arith;
    joined = k.joined ∙ ap (λ hs. put_in_all before hs ys) j.joined ∙ sym (put_in_all-append before (held before q) xs ys);
  }

  -- one element joins a queue with a place left
  pub one_joins : (x : X) (q s : Queue X) (a : Result (Unit {0}) Refusal) → count q < room q → a ≡ pushed (room q) (count q)
      → held before s ≡ (if is_ok a then put_in before x (held before q) else held before q) → count s ≡ (if is_ok a then count q + 1 else count q) → Lent (count s) q s → (a ≡ Ok tt) × Joined before (x ∷ []) q s
  one_joins x q s a h e k c l =
      let ok : a ≡ Ok tt = e ∙ ap (λ t. ok_unless (refuse_if t Refusal.TooFewPlaces) tt) (lt-leb (room q) (count q) h) in
      (ok, joined_push [] x q q s a tt (joined_none q) ok k c l)

  -- all elements join a queue with places for them
  pub all_join : (xs : List X) (q s : Queue X) (a : Result (Unit {0}) Refusal) → count q + length xs ≤ room q → a ≡ ok_unless (joining_refusal q xs) tt → Joined before (with_place q xs) q s → (a ≡ Ok tt) × Joined before xs q s
  all_join xs q s a h e j =
      let ok : a ≡ Ok tt = e ∙ ap (λ t. ok_unless (refuse_if t Refusal.TooFewPlaces) tt) (le-ltb (room q) (count q + length xs) h) in
      (ok, subst (λ ys. Joined before ys q s) (take_all (room q - count q) xs (omega arith)) j)
