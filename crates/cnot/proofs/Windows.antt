-- The links along a path by the pairs of neighbours, in order and last first. Assumes nothing.
use Rattle.std.proofs.Common.{◌≡◌, ℕ, ◌+◌, ◌-◌, ◌≤◌, List, [], ◌∷◌, ◌++◌, reverse, true, length, get_or, take, drop, sym, refl, ap, ◌∙◌, ap₂, subst, arith}
use Rattle.std.proofs.lemmas.List.{length-reverse, reverse-append, get_or-drop, take_more, take_all}
use Rattle.std.proofs.lemmas.Iterator.{YieldsList, items_from_drains}
use Rattle.std.proofs.lemmas.Iterator.Splits.{YieldsList-from_shown_while}
use Rattle.std.specs.Iterator.Adapters.{rev_source, rev_steps}
use Rattle.std.specs.Iterator.Runs.{Run, YieldsRun}
use Rattle.std.specs.Slice.Iter.{windows_rest, windows_size}
use Rattle.std.specs.Slice.ArrayWindows.{array_windows_parts, array_windows_steps, array_windows_steps_back}
use Rattle.std.specs.declared.slice.ArrayWindows.{ArrayWindows}
use Rattle.std.specs.declared.iter.Rev.{Rev}
use Rattle.cnot.specs.Links.{link, link_of, links_of, links_from, links}
use Rattle.cnot.proofs.Links.{length-links}

module _ (time : ℕ → ℕ → ℕ) where
  -- the first link and the others
  links_first : (cs : List ℕ) → 2 ≤ length cs → links time cs ≡ link_of time (take 2 cs) ∷ links time (drop 1 cs)
  links_first [] h = absurd (omega arith)
  links_first (a ∷ []) h = absurd (omega arith)
  links_first (a ∷ b ∷ cs) h = refl

  from_more : (c : ℕ) (cs : List ℕ) (a b : ℕ) → links_from time c ((cs ++ (a ∷ [])) ++ (b ∷ [])) ≡ links_from time c (cs ++ (a ∷ [])) ++ (link time a b ∷ [])
  from_more c [] a b = refl
  from_more c (d ∷ cs) a b = ap (λ ls. link time c d ∷ ls) (from_more d cs a b)

  -- one cell more is one link more
  pub links_more : (cs : List ℕ) (a b : ℕ) → links time ((cs ++ (a ∷ [])) ++ (b ∷ [])) ≡ links time (cs ++ (a ∷ [])) ++ (link time a b ∷ [])
  links_more [] a b = refl
  links_more (c ∷ cs) a b = from_more c cs a b

  -- the links but the last, and the last
  pub links_last : (cs : List ℕ) → 2 ≤ length cs → links time cs ≡ links time (take (length cs - 1) cs) ++ (link_of time (drop (length cs - 2) cs) ∷ [])
  links_last cs h =
      let p = take (length cs - 2) cs in
      let a = get_or cs (length cs - 2) 0 in
      let b = get_or cs (length cs - 1) 0 in
      let front : take (length cs - 1) cs ≡ p ++ (a ∷ []) = ap (λ k. take k cs) (omega arith) ∙ take_more cs (length cs - 2) 0 (omega arith) in
      let all : cs ≡ (p ++ (a ∷ [])) ++ (b ∷ []) =
      sym (take_all (length cs) cs (omega arith)) ∙ ap (λ k. take k cs) {x = length cs} {y = length cs - 1 + 1} (omega arith) ∙ take_more cs (length cs - 1) 0 (omega arith) ∙ ap (λ xs. xs ++ (b ∷ [])) front
      in
      let x : get_or (drop (length cs - 2) cs) 0 0 ≡ a = get_or-drop (length cs - 2) cs 0 0 ∙ ap (λ k. get_or cs k 0) (omega arith) in
      let y : get_or (drop (length cs - 2) cs) 1 0 ≡ b = get_or-drop (length cs - 2) cs 1 0 ∙ ap (λ k. get_or cs k 0) (omega arith) in
      ap (links time) all ∙ links_more p a b ∙ ap₂ (λ xs l. links time xs ++ (l ∷ [])) (sym front) (ap₂ (link time) (sym x) (sym y))

  module _ where
    pub YieldsList-from_pairs : {s : ArrayWindows ℕ 2} (way : List ℕ) → windows_rest (array_windows_parts s) ≡ way → windows_size (array_windows_parts s) ≡ 2 → YieldsList array_windows_steps (λ w. link_of time w.now) s (links time way)
    YieldsList-from_pairs {s} way rest two =
        subst (λ cs. YieldsList array_windows_steps (λ w. link_of time w.now) s (links time cs)) rest
        (YieldsList-from_shown_while array_windows_steps (λ w. link_of time w.now) (λ w. links time (windows_rest (array_windows_parts w))) (λ w. windows_size (array_windows_parts w) ≡ 2)
        (λ w u e p. length-links time (windows_rest (array_windows_parts w)) ∙ omega (arith, p.1))
        (λ w x u e p.
        let cs = windows_rest (array_windows_parts w) in
        (p.0 ∙ e, links_first cs (omega (arith, p.1.0)) ∙ ap₂ (λ xs ys. link_of time xs ∷ links time ys) (ap (λ k. take k cs) (sym e) ∙ sym p.1.1) (sym p.1.2)))
        s two)

    pub YieldsList-from_pairs_back : {s : Rev (ArrayWindows ℕ 2)} → windows_size (array_windows_parts (rev_source s)) ≡ 2 → YieldsList (rev_steps array_windows_steps_back) (λ w. link_of time w.now) s (reverse (links time (windows_rest (array_windows_parts (rev_source s)))))
    YieldsList-from_pairs_back {s} two =
        YieldsList-from_shown_while (rev_steps array_windows_steps_back) (λ w. link_of time w.now) (λ w. reverse (links time (windows_rest (array_windows_parts (rev_source w))))) (λ w. windows_size (array_windows_parts (rev_source w)) ≡ 2)
        (λ w u e p. let cs = windows_rest (array_windows_parts (rev_source w)) in length-reverse (links time cs) ∙ length-links time cs ∙ omega (arith, p.1))
        (λ w x u e p.
        let cs = windows_rest (array_windows_parts (rev_source w)) in (
          p.0 ∙ e,
          ap reverse (links_last cs (omega (arith, p.1.0))) ∙ reverse-append (links time (take (length cs - 1) cs)) (link_of time (drop (length cs - 2) cs) ∷ [])
              ∙ ap₂ (λ xs ys. link_of time xs ∷ reverse (links time ys)) (ap (λ k. drop (length cs - k) cs) (sym e) ∙ sym p.1.1) (sym p.1.2),
        ))
        s two

    -- the links of the pairs that a run gives
    pub links_of_pairs : (p : Run (array_windows_steps {A = ℕ} {n = 2})) (s : ArrayWindows ℕ 2) (way : List ℕ) → p.from ≡ s → p.whole ≡ true
        → windows_rest (array_windows_parts s) ≡ way → windows_size (array_windows_parts s) ≡ 2 → links_of time p.items ≡ links time way
    unfolding YieldsRun links_of
    links_of_pairs p s way from whole rest two =
        items_from_drains p.items (p.gave.0.0, p.gave.0.1, λ _. p.gave.0.2 whole)
        (YieldsList-from_pairs way (ap (λ w. windows_rest (array_windows_parts w)) from ∙ rest) (ap (λ w. windows_size (array_windows_parts w)) from ∙ two))

    pub links_of_pairs_back : (p : Run (rev_steps (array_windows_steps_back {A = ℕ} {n = 2}))) → windows_size (array_windows_parts (rev_source p.from)) ≡ 2 → p.whole ≡ true
        → links_of time p.items ≡ reverse (links time (windows_rest (array_windows_parts (rev_source p.from))))
    unfolding YieldsRun links_of
    links_of_pairs_back p two whole = items_from_drains p.items (p.gave.0.0, p.gave.0.1, λ _. p.gave.0.2 whole) (YieldsList-from_pairs_back two)
