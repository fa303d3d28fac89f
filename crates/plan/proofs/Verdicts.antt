-- A plan passes exactly when it breaks no constraint; else the first broken one is named. Assumes nothing.
use Rattle.std.proofs.Common.{◌≡◌, ℕ, ◌+◌, ◌<◌, ◌≤◌, true, ◌⊎◌, List, [], ◌∷◌, is_ok, Some, None, Ok, Err, Option, sym, refl, ap, ◌∙◌, subst, inl, inr, arith, rules}
use Rattle.std.specs.Option.{option_map}
use Rattle.std.proofs.lemmas.Bool.{both_ways}
use Rattle.search.specs.Searches.{scan_pairs, Earlier, Scanned}
use Rattle.search.proofs.Searches.{scanned, highest-bound, highest-met}
use Rattle.refusal.specs.declared.Refusal.{Refusal}
use Rattle.refusal.specs.Refusals.{shown, number, or_else, ok_unless}
use Rattle.route.specs.Routes.{Route}
use Rattle.plan.specs.Plans.{Plan, gate_count}
use Rattle.plan.specs.Durations.{end_at}
use Rattle.plan.specs.Constraints.{Broken, BreaksNone, test_place, Before}
use Rattle.plan.specs.Verdicts.{Constraint, no_home, one_home, no_timing, no_choice, too_early, overlap, too_late, fails, firsts, seconds, naming, first_of, first_broken, latest_end, verdict, NamesFirst, Fair}
use Rattle.plan.proofs.Tests.{At, sound, whole}
use Rattle.plan.proofs.Places.{order, naming-broken, naming-number, naming-first, naming-place, Located, located}

-- a constraint is known by its place
same-order : (c d : Constraint) → order d ≡ order c → c ≡ d
same-order c d e = grind arith

order_from : (c : Constraint) → (21 ≤ order c) × (order c < 28)
order_from c = search rules

-- c at (i, j) is tested before d at (k, l)
abbrev TestedBefore : Constraint → ℕ → ℕ → Constraint → ℕ → ℕ → Type 0
TestedBefore c i j d k l = (order c < order d) ⊎ ((order c ≡ order d) × Earlier i j k l)

module _ (p : Plan) (R : Route) where
  -- what the search from the number n on says
  pub record NamedFrom (n : ℕ) (r : Refusal) : Type 0 where
    pub which : Constraint
    pub one : ℕ
    pub two : ℕ
    pub above : n ≤ order which
    pub is : r ≡ naming p R which (one, two)
    pub broken : At p R which one two
    pub none_before : (d : Constraint) (k l : ℕ) → n ≤ order d → TestedBefore d k l which one two → At p R d k l → ⊥

  abbrev TellsFrom : ℕ → Option Refusal → Type 0
  TellsFrom n None = (d : Constraint) (i j : ℕ) → n ≤ order d → At p R d i j → ⊥
  TellsFrom n (Some r) = NamedFrom n r

  -- no place breaks c
  clear : (c : Constraint) → Scanned (fails p R c) (firsts p R c) (seconds p R c) None → (i j : ℕ) → At p R c i j → ⊥
  clear c s i j h = let f = whole p R c i j h in both_ways (fails p R c i j) (s i j f.first f.second) f.fail

  -- d is c, or comes later
  split : (c d : Constraint) → order c ≤ order d → (c ≡ d) ⊎ (order c + 1 ≤ order d)
  split c d h = search rules

  past : (c : Constraint) (o : Option Refusal) → ((i j : ℕ) → At p R c i j → ⊥) → TellsFrom (order c + 1) o → TellsFrom (order c) o
  past c None n t = λ d i j h k. elim (split c d h) [ inl e ↦ n i j (subst (λ x. At p R x i j) (sym e) k) | inr l ↦ t d i j l k ]
  past c (Some r) n t = record {
    which = t.which;
    one = t.one;
    two = t.two;
    above = let l = t.above in omega arith;
    is = t.is;
    broken = t.broken;
    none_before = λ d i j h q k. elim (split c d h) [ inl e ↦ n i j (subst (λ x. At p R x i j) (sym e) k) | inr l ↦ t.none_before d i j l q k ];
  }

  hit : (c : Constraint) (i j : ℕ) → Scanned (fails p R c) (firsts p R c) (seconds p R c) (Some (i, j)) → NamedFrom (order c) (naming p R c (i, j))
  hit c i j s = record {
    which = c;
    one = i;
    two = j;
    above = omega arith;
    is = refl;
    broken = sound p R c i j s.0 s.1 s.2;
    none_before = λ d k l h q z. elim q [
      | inl x ↦ absurd (omega arith)
      | inr x ↦ let f = whole p R c k l (subst (λ y. At p R y k l) (sym (same-order c d x.0)) z) in both_ways (fails p R c k l) (s.3 k l f.first f.second x.1) f.fail
    ];
  }

  step : (c : Constraint) (q : Option (ℕ × ℕ)) (o : Option Refusal) → Scanned (fails p R c) (firsts p R c) (seconds p R c) q → TellsFrom (order c + 1) o → TellsFrom (order c) (or_else (option_map (naming p R c) q) o)
  step c None o s t = past c o (clear c s) t
  step c (Some q) o s t = hit c q.0 q.1 s

  one_more : (c : Constraint) (cs : List Constraint) → TellsFrom (order c + 1) (first_of p R cs) → TellsFrom (order c) (first_of p R (c ∷ cs))
  one_more c cs t = step c (scan_pairs (fails p R c) (firsts p R c) (seconds p R c)) (first_of p R cs) (scanned (fails p R c) (firsts p R c) (seconds p R c)) t

  pub all_tell : TellsFrom 21 (first_broken p R)
  all_tell =
      one_more no_home (one_home ∷ no_timing ∷ no_choice ∷ too_early ∷ overlap ∷ too_late ∷ [])
      (one_more one_home (no_timing ∷ no_choice ∷ too_early ∷ overlap ∷ too_late ∷ [])
      (one_more no_timing (no_choice ∷ too_early ∷ overlap ∷ too_late ∷ [])
      (one_more no_choice (too_early ∷ overlap ∷ too_late ∷ [])
      (one_more too_early (overlap ∷ too_late ∷ [])
      (one_more overlap (too_late ∷ [])
      (one_more too_late [] (λ d i j h k. let n = order_from d in omega arith)))))))

  none-tells : first_broken p R ≡ None → (c : Constraint) (i j : ℕ) → At p R c i j → ⊥
  none-tells e c i j h = subst (TellsFrom 21) e all_tell c i j (order_from c).0 h

  -- judging that passes finds nothing broken
  pub broken-none : first_broken p R ≡ None → BreaksNone p R
  broken-none e r h = let l = located p R r h in none-tells e l.which l.one l.two l.at

  ok_is : (o : Option Refusal) (e : ℕ) → ok_unless o (latest_end p R) ≡ Ok e → (o ≡ None) × (e ≡ latest_end p R)
  ok_is o e h = search rules

  err_is : (o : Option Refusal) (r : Refusal) → ok_unless o (latest_end p R) ≡ Err r → o ≡ Some r
  err_is o r h = search rules

  must : (o : Option Refusal) → TellsFrom 21 o → BreaksNone p R → is_ok (ok_unless o (latest_end p R)) ≡ true
  must None t n = refl
  must (Some r) t n = absurd (n (naming p R t.which (t.one, t.two)) (naming-broken p R t.which t.one t.two t.broken))

  -- the order of refusals is that of the tests
  before-from : (q r : Refusal) (l : Located p R q) (c : Constraint) (i j : ℕ) → r ≡ naming p R c (i, j) → At p R c i j → Before p R q r → TestedBefore l.which l.one l.two c i j
  before-from q r l c i j e a (inl h) =
      let u : number q ≡ order l.which = ap number l.is ∙ naming-number p R l.which l.one l.two in
      let v : number r ≡ order c = ap number e ∙ naming-number p R c i j in
      inl (omega arith)
  before-from q r l c i j e a (inr (s, h)) =
      let u : number q ≡ order l.which = ap number l.is ∙ naming-number p R l.which l.one l.two in
      let v : number r ≡ order c = ap number e ∙ naming-number p R c i j in
      let x : (shown q).first ≡ l.one = ap (λ y. (shown y).first) l.is ∙ naming-first p R l.which l.one l.two in
      let y : (shown r).first ≡ i = ap (λ z. (shown z).first) e ∙ naming-first p R c i j in
      let z : test_place p R r ≤ j = subst (λ w. test_place p R w ≤ j) (sym e) (naming-place p R c i j a) in
      let w : test_place p R q ≡ l.two = l.place in
      inr (sym u ∙ s ∙ v, elim h [ inl g ↦ inl (omega arith) | inr g ↦ let m = g.0 in let n = g.1 in inr (omega arith, omega arith) ])

  named : (r : Refusal) → NamedFrom 21 r → NamesFirst p R r
  named r n = record {
    broken = subst (Broken p R) (sym n.is) (naming-broken p R n.which n.one n.two n.broken);
    none_before = λ q h z. let l = located p R q z in n.none_before l.which l.one l.two (order_from l.which).0 (before-from q r l n.which n.one n.two n.is n.broken h) l.at;
  }

  pub fair : Fair p R (verdict p R)
  fair = record {
    passes = λ e h. let q = ok_is (first_broken p R) e h in (
      broken-none q.0,
      record {
        bound = λ i l. subst (λ x. end_at p R i ≤ x) (sym q.1) (highest-bound (end_at p R) (gate_count p) i l);
        met = subst (λ x. (x ≡ 0) ⊎ ((i : ℕ) × (i < gate_count p) × (end_at p R i ≡ x))) (sym q.1) (highest-met (end_at p R) (gate_count p));
      },
    );
    must_pass = must (first_broken p R) all_tell;
    names_first = λ r h. named r (subst (TellsFrom 21) (err_is (first_broken p R) r h) all_tell);
  }
