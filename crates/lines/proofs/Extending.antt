-- More bytes behind those of a line. Assumes nothing.
use Rattle.std.proofs.Common.{◌≡◌, ℕ, ◌+◌, ◌-◌, ◌≤◌, min, List, ◌++◌, length, take, drop, replicate, sym, ap, ◌∙◌, arith, length-append, length-take-le, take-append-drop}
use Rattle.std.proofs.lemmas.List.{take_min, drop-replicate, length-replicate}
use Rattle.std.proofs.lemmas.Slice.{take-put_mid, drop-put_mid}
use Rattle.std.proofs.Math.Seq.{take-append-add, drop-append-add}
use borrow.Rule.Slice.PartMut.{put_mid}
use Rattle.lines.specs.Held.{padded, Padded}

-- of more bytes those are taken for which there is room
pub part_that_fits : (places bytes : List ℕ) (len : ℕ) → len ≤ 81 → length places ≡ 81 → take len places ++ take (min (81 - len) (length bytes)) bytes ≡ take 81 (take len places ++ bytes)
part_that_fits places bytes len few long =
    let held : length (take len places) ≡ len = length-take-le len places (omega arith) in
    let room : length (take len places) + (81 - len) ≡ 81 = omega arith in
    ap (λ l. take len places ++ l) (take_min (81 - len) bytes) ∙ sym (take-append-add (take len places) bytes (81 - len)) ∙ ap (λ k. take k (take len places ++ bytes)) room

module _ (places : List ℕ) (len : ℕ) (more : List ℕ) (count mid : ℕ) (fit : Padded (record { places = places; len = len }))
    (many : length more ≡ count) (room : len + count ≤ 81) (part : mid ≡ count) where
  pub appended : take (len + count) (put_mid len mid places more) ≡ take len places ++ more
  appended = take-put_mid len mid places more (len + count) (omega (arith, many)) (omega (arith, fit.few, fit.long))

  pub still_padded : Padded (record { places = put_mid len mid places more; len = len + count })
  still_padded =
      let end = len + count in
      let was : length (take len places) ≡ len = length-take-le len places (omega (arith, fit.few, fit.long)) in
      let beyond : drop end (put_mid len mid places more) ≡ replicate (81 - end) 0 =
      drop-put_mid len mid places more end (omega (arith, part)) (omega (arith, fit.few, fit.long)) (omega (arith, many, part))
      ∙ ap (drop end) (sym fit.behind)
      ∙ ap (λ k. drop (k + count) (padded (take len places))) (sym was)
      ∙ drop-append-add (take len places) (replicate (81 - length (take len places)) 0) count
      ∙ drop-replicate count (81 - length (take len places)) 0
      ∙ ap (λ k. replicate k 0) (omega (arith, was)) in
      let held : length (take end (put_mid len mid places more)) ≡ end = ap length appended ∙ length-append (take len places) more ∙ omega (arith, was, many) in
      let whole = take-append-drop end (put_mid len mid places more) in
      record {
        few = room;
        long = ap length (sym whole) ∙ length-append (take end (put_mid len mid places more)) (drop end (put_mid len mid places more))
            ∙ omega (arith, held, ap length beyond, length-replicate {A = ℕ} (81 - end) 0, room);
        behind = ap (λ k. take end (put_mid len mid places more) ++ replicate (81 - k) 0) held ∙ ap (λ l. take end (put_mid len mid places more) ++ l) (sym beyond) ∙ whole;
      }
