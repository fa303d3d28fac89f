-- Steps that a writer writes one after another. Assumes nothing.
use Rattle.std.proofs.Common.{◌≡◌, ℕ, suc, ◌+◌, List, [], ◌∷◌, ◌++◌, length, take, drop, sym, refl, ap, ◌∙◌, ap₂, add-zero, arith}
use Rattle.std.proofs.lemmas.List.{append_assoc, length-append, take-append-drop}
use Rattle.std.proofs.lemmas.List.Sums.{sum_by-cons, sum_by-append}
use Rattle.orders.proofs.Lists.{drop-later}
use Rattle.cnot.specs.declared.write.Writer.{Writer}
use Rattle.cnot.specs.Steps.{Step, lasting, placed, Laid, written_first}

pub lasting-cons : (s : Step) (ss : List Step) → lasting (s ∷ ss) ≡ s.length + lasting ss
lasting-cons s ss = sum_by-cons (λ x. x.length) s ss

pub lasting-append : (xs ys : List Step) → lasting (xs ++ ys) ≡ lasting xs + lasting ys
lasting-append xs ys = sum_by-append (λ x. x.length) xs ys

pub placed-append : (g t : ℕ) (xs ys : List Step) → placed g t (xs ++ ys) ≡ placed g t xs ++ placed g (t + lasting xs) ys
placed-append g t [] ys = ap (λ n. placed g n ys) (sym (add-zero t))
placed-append g t (x ∷ xs) ys =
    ap (λ os. record { start = t; length = x.length; action = x.action; gate = g } ∷ os)
    (placed-append g (t + x.length) xs ys ∙ ap (λ n. placed g (t + x.length) xs ++ placed g n ys) (let e = sum_by-cons (λ s. s.length) x xs in omega arith))

pub length-placed : (g t : ℕ) (ss : List Step) → length (placed g t ss) ≡ length ss
length-placed g t [] = refl
length-placed g t (s ∷ ss) = ap suc (length-placed g (t + s.length) ss)

pub laid_more : (xs ys : List Step) (w v u : Writer) → Laid xs w v → Laid ys v u → Laid (xs ++ ys) w u
laid_more xs ys w v u p q = record {
  same = q.same ∙ p.same;
  places = q.places ∙ p.places;
  gate = q.gate ∙ p.gate;
  at = let a = p.at in let b = q.at in let n = length-append xs ys in omega arith;
  time = let a = p.time in let b = q.time in let n = sum_by-append (λ s. s.length) xs ys in omega arith;
  front =
      q.front ∙ ap₂ (λ os ps. os ++ ps) p.front (ap₂ (λ g t. placed g t ys) p.gate p.time) ∙ append_assoc (take w.at w.places.now) (placed w.gate w.time xs) (placed w.gate (w.time + lasting xs) ys)
      ∙ ap (λ os. take w.at w.places.now ++ os) (sym (placed-append w.gate w.time xs ys));
  rest = q.rest ∙ drop-later v.places.now w.places.now v.at u.at (let b = q.at in omega arith) p.rest;
}

-- steps that were written from the first place on
pub laid_first : (ss : List Step) (w v : Writer) → w.at ≡ 0 → Laid ss w v → v.places.now ≡ written_first w.places.now (placed w.gate w.time ss)
laid_first ss w v z p =
    let os = placed w.gate w.time ss in
    sym (take-append-drop v.at v.places.now) ∙ ap₂ ◌++◌ (p.front ∙ ap (λ n. take n w.places.now ++ os) z) p.rest
    ∙ ap (λ n. os ++ drop n w.places.now) (let u = p.at in let n = length-placed w.gate w.time ss in omega arith)
