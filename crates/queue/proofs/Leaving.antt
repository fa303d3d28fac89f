-- What leaves a queue. Assumes nothing.
use Rattle.std.proofs.Common.{◌≡◌, ℕ, ◌+◌, ◌-◌, ◌<◌, ◌≤◌, Bool, false, List, ◌∷◌, ◌++◌, length, get_or, take, drop, set, sym, ap, ◌∙◌, ap₂, add-one, arith}
use Rattle.std.specs.List.{remove, copy_within}
use Rattle.std.proofs.lemmas.List.{take_more_set, take-take, drop-take, get_or-take, length-take, length-drop}
use Rattle.std.proofs.lemmas.List.Edits.{take-paste}
use Rattle.std.proofs.lemmas.List.Sorted.{IsPermutation-remove}
use Rattle.std.proofs.ByRecursion.{All-from_get_or}
use Rattle.orders.specs.Perms.{Perm, here, more}
use Rattle.orders.specs.Ranks.{TotalOrder}
use Rattle.orders.specs.Sorting.{put_in, sorted}
use Rattle.orders.proofs.Perms.{perm_trans, perm_from_shuffled, all_perm}
use Rattle.orders.proofs.Sorting.{sorted_one, sorted_push}
use Rattle.queue.specs.Held.{Least}

-- one more at the place behind the first n
pub joined : {X : Type 0} (before : X → X → Bool) (xs : List X) (n : ℕ) (x : X) → n < length xs → sorted before (take (n + 1) (set xs n x)) ≡ put_in before x (sorted before (take n xs))
joined before xs n x h = ap (sorted before) (take_more_set xs n x h) ∙ sorted_push before (take n xs) x

-- an element that none comes before is the first in order
least_leaves : {X : Type 0} (before : X → X → Bool) (o : TotalOrder before) (xs : List X) (i : ℕ) (x : X) → x ≡ get_or xs i x → Least before xs i → sorted before xs ≡ x ∷ sorted before (remove xs i)
least_leaves before o xs i x e l =
    let rest = sorted_one before o (remove xs i) in
    let p : Perm xs (x ∷ sorted before (remove xs i)) = perm_trans (perm_from_shuffled xs (x ∷ remove xs i) (IsPermutation-remove xs i x l.within e)) (more rest.complete here) in
    let all = All-from_get_or (λ y. before y x ≡ false) xs x (λ k h. ap (before (get_or xs k x)) e ∙ l.first k x h) in
    sym ((sorted_one before o xs).only (x ∷ sorted before (remove xs i)) p ((all_perm (λ y. before y x ≡ false) p all).1, rest.ordered))

-- those behind place i move up
pub moved_up : {X : Type 0} (xs : List X) (n i : ℕ) → i < n → n ≤ length xs → take (n - 1) (copy_within xs (i + 1) n i) ≡ remove (take n xs) i
moved_up xs n i lt le =
    let m = n - (i + 1) in
    let ys = drop (i + 1) xs in
    let e : i + 1 + m ≡ n = omega arith in
    ap (λ k. take k (copy_within xs (i + 1) n i)) (omega arith)
    ∙ take-paste xs i ys m (omega arith) (omega (arith, length-drop (i + 1) xs))
    ∙ ap₂ ◌++◌ (sym (take-take i n xs (omega arith))) (sym (drop-take (i + 1) m xs) ∙ ap₂ (λ j k. drop j (take k xs)) (add-one i) e)

-- the least of the first n leaves, and those behind it move up
pub taken_out : {X : Type 0} (before : X → X → Bool) (o : TotalOrder before) (xs ys : List X) (n i : ℕ) (x : X) → n ≤ length xs → x ≡ get_or xs i x → Least before (take n xs) i → ys ≡ copy_within xs (i + 1) n i → sorted before (take n xs) ≡ get_or xs i x ∷ sorted before (take (n - 1) ys)
taken_out before o xs ys n i x le e l m =
    let lt : i < n = omega (arith, l.within, length-take n xs) in
    least_leaves before o (take n xs) i x (e ∙ sym (get_or-take n xs i x lt)) l
    ∙ ap₂ (λ y zs. y ∷ sorted before zs) e (sym (moved_up xs n i lt le) ∙ ap (take (n - 1)) (sym m))
