-- A rehearsal of a listing in any allowed order agrees with the direct run. Assumes nothing.
use Rattle.std.proofs.Common.{◌≡◌, ℕ, ◌+◌, ◌≤◌, List, map, Some, None, sym, refl, ◌∙◌, subst}
use Rattle.std.specs.List.{range_with_len, flat_map, AllByRecursion}
use Rattle.orders.specs.Lists.{Pairs}
use Rattle.orders.specs.Perms.{Perm}
use Rattle.orders.specs.Exchanges.{Exchanges}
use Rattle.orders.proofs.Perms.{all_perm, all_perm_back, perm_trans, perm_sym}
use Rattle.orders.proofs.Tables.{joined_perm}
use Rattle.orders.proofs.Traces.{start-sorted}
use Rattle.orders.proofs.Sorting.{sorted_one}
use Rattle.circuit.specs.declared.operation.Operation.{Operation}
use Rattle.circuit.specs.Operations.{operation_before, OrderOf, h_count, read_count}
use Rattle.circuit.specs.Known.{operations_total}
use Rattle.refusal.proofs.Accepted.{neither}
use Rattle.route.specs.Routes.{Route, RouteLawful}
use Rattle.plan.specs.Plans.{Plan, gate_count, start_at}
use Rattle.plan.specs.Constraints.{BreaksNone}
use Rattle.plan.specs.Verdicts.{first_broken}
use Rattle.plan.specs.Kept.{Kept}
use Rattle.plan.specs.Blocks.{block, blocks, direct_step, direct}
use Rattle.plan.specs.Listings.{listing}
use Rattle.plan.proofs.Verdicts.{broken-none}
use Rattle.register.specs.Models.{Model, Fits, after}
use Rattle.register.specs.Numbers.{tells}
use Rattle.register.specs.Runs.{capacity}
use Rattle.register.proofs.Refusals.{accepted}
use Rattle.listings.proofs.Listings.{well_listed_sound}
use Rattle.book.specs.Books.{Book}
use Rattle.book.specs.Histories.{History, HandedOut, just_now, before}
use Rattle.book.proofs.Kept.{kept_always}
use Rattle.promise.specs.Promises.{Stands, ListingsStand}
use Rattle.promise.proofs.Exchanges.{Free, reads_perm, after_exchanges, h_exchanges, tells_exchanges}
use Rattle.promise.proofs.Blocks.{GateLed, blocks_h, blocks_reads, blocks_fit, blocks_after, fits_numbers, blocks_tell}
use Rattle.promise.proofs.Ready.{all_led, direct_trace, listing_trace}

-- what is so of a plan that keeps what calls keep and breaks no constraint
module _ (p : Plan) (R : Route) (k : Kept p) (lawful : RouteLawful R) (nothing : BreaksNone p R) where
  from_blocks : (os : List Operation) → OrderOf (listing p R) os → Perm (blocks p R) os
  from_blocks os o = perm_trans (sorted_one operation_before operations_total (blocks p R)).complete o.same_operations

  module _ (os : List Operation) (o : OrderOf (listing p R) os) where
    abbrev gates_sorted : (ys : List ℕ) × Perm (range_with_len 0 (gate_count p)) ys × Pairs (λ i j. start_at p i ≤ start_at p j) ys
    gates_sorted = start-sorted (start_at p) (range_with_len 0 (gate_count p))

    abbrev js : List ℕ
    js = gates_sorted.0

    listed : Exchanges Free (flat_map (block p R) js) os
    listed = listing_trace p R k lawful nothing js gates_sorted.1 gates_sorted.2 os (from_blocks os o) o.allowed

    run_directly : Exchanges Free (direct p) (map (direct_step p) js)
    run_directly = direct_trace p R k lawful nothing js gates_sorted.1 gates_sorted.2

    led_all : AllByRecursion (GateLed p R) js
    led_all = all_perm (GateLed p R) gates_sorted.1 (all_led p R k lawful nothing)

    fit_blocks : (M : Model) (n : ℕ) → AllByRecursion (Fits M n) os → AllByRecursion (Fits M n) (blocks p R)
    fit_blocks M n f = all_perm_back (Fits M n) (from_blocks os o) f

    fit_sorted : (M : Model) (n : ℕ) → AllByRecursion (Fits M n) os → AllByRecursion (Fits M n) (flat_map (block p R) js)
    fit_sorted M n f = all_perm (Fits M n) (joined_perm (block p R) gates_sorted.1) (fit_blocks M n f)

    fit_direct : (M : Model) (n : ℕ) → AllByRecursion (Fits M n) os → AllByRecursion (Fits M n) (direct p)
    fit_direct M n f = blocks_fit p R M n (range_with_len 0 (gate_count p)) (all_led p R k lawful nothing) (fit_blocks M n f)

    -- both end in one state
    pub same_state : (M : Model) (s : M.State) → AllByRecursion (Fits M (M.size s)) os → after M os s ≡ after M (direct p) s
    same_state M s f =
        let n = M.size s in
        sym (after_exchanges M n listed (fit_sorted M n f) s refl) ∙ blocks_after p R M n js led_all (fit_sorted M n f) s refl ∙ sym (after_exchanges M n run_directly (fit_direct M n f) s refl)

    -- with one count of H
    pub same_h : h_count os ≡ h_count (direct p)
    same_h = sym (h_exchanges listed) ∙ blocks_h p R js ∙ sym (h_exchanges run_directly)

    -- and each read gate tells one number in both
    pub same_numbers : (M : Model) (n mark : ℕ) (row : ℕ → ℕ) → AllByRecursion (Fits M n) os → Perm (tells mark os row) (tells mark (direct p) row)
    same_numbers M n mark row f =
        perm_trans (perm_sym (tells_exchanges mark listed row))
        (subst (λ x. Perm x (tells mark (direct p) row)) (sym (blocks_tell p R mark n js led_all (fits_numbers p R M mark n (flat_map (block p R) js) (fit_sorted M n f)) row)) (perm_sym (tells_exchanges mark run_directly row)))

  -- as many reads
  pub same_read_count : (os : List Operation) → OrderOf (listing p R) os → read_count os ≡ read_count (direct p)
  same_read_count os o = sym (reads_perm (from_blocks os o)) ∙ blocks_reads p R (range_with_len 0 (gate_count p))

-- a listing of a book whose plan breaks no constraint
pub stands : (b : Book) (R : Route) → Kept b.plan → RouteLawful R → BreaksNone b.plan R → (M : Model) (most : ℕ) (N : Model) (most' : ℕ) {S : Type 0} (state : S → N.State) (mark : ℕ) (numbers : S → ℕ → ℕ)
    → Stands M most N most' state mark numbers b R (listing b.plan R)
stands b R k lawful nothing M most N most' state mark numbers = record {
  same_end = λ s done u v os o t r. let f = (accepted (capacity M most s done u) os t).fits in
      let e = same_state b.plan R k lawful nothing os o M s f in let h = same_h b.plan R k lawful nothing os o in λ i. (e i, done + h i);
  same_reads = same_read_count b.plan R k lawful nothing;
  same_told = λ x done u v os o t r. same_numbers b.plan R k lawful nothing os o N (N.size (state x)) mark (numbers x) (accepted (capacity N most' (state x) done (Some u)) os t).fits;
  well_listed = well_listed_sound b.plan R k lawful nothing;
}

-- the same where judging passes
pub stands_for : (b : Book) (R : Route) → Kept b.plan → RouteLawful R → first_broken b.plan R ≡ None → (M : Model) (most : ℕ) (N : Model) (most' : ℕ) {S : Type 0} (state : S → N.State) (mark : ℕ) (numbers : S → ℕ → ℕ)
    → Stands M most N most' state mark numbers b R (listing b.plan R)
stands_for b R k lawful e M most N most' state mark numbers = stands b R k lawful (broken-none b.plan R e) M most N most' state mark numbers

-- for every history of a job, every listing handed out in it, and every lawful rule
pub listings_stand : (M : Model) (most : ℕ) (N : Model) (most' : ℕ) {S : Type 0} (state : S → N.State) (mark : ℕ) (numbers : S → ℕ → ℕ) → ListingsStand M most N most' state mark numbers
listings_stand M most N most' state mark numbers e h b R ls out lawful = go out
  where
    go : {e : Book} {h : History e} {b : Book} {ls : List Operation} → HandedOut e h b R ls → Stands M most N most' state mark numbers b R ls
    go {b = b} (just_now h R places a f) = stands_for b R (kept_always h) lawful (neither (first_broken b.plan R) _ f).0 M most N most' state mark numbers
    go (before c a out) = go out

-- the operations of a listing that was handed out, in an allowed order, on a register that takes them
pub handed_agrees : (M : Model) (s : M.State) (os : List Operation) {e : Book} {h : History e} {b : Book} (R : Route) {ls : List Operation} → RouteLawful R → HandedOut e h b R ls → OrderOf ls os → AllByRecursion (Fits M (M.size s)) os → after M os s ≡ after M (direct b.plan) s
handed_agrees M s os {b = b} R lawful (just_now h P places a f) o t = same_state b.plan R (kept_always h) lawful (broken-none b.plan R (neither (first_broken b.plan R) _ f).0) os o M s t
handed_agrees M s os R lawful (before c a out) o t = handed_agrees M s os R lawful out o t

-- their count of H
pub handed_h : (os : List Operation) {e : Book} {h : History e} {b : Book} (R : Route) {ls : List Operation} → RouteLawful R → HandedOut e h b R ls → OrderOf ls os → h_count os ≡ h_count (direct b.plan)
handed_h os {b = b} R lawful (just_now h P places a f) o = same_h b.plan R (kept_always h) lawful (broken-none b.plan R (neither (first_broken b.plan R) _ f).0) os o
handed_h os R lawful (before c a out) o = handed_h os R lawful out o

-- their count of reads
pub handed_reads : (os : List Operation) {e : Book} {h : History e} {b : Book} (R : Route) {ls : List Operation} → RouteLawful R → HandedOut e h b R ls → OrderOf ls os → read_count os ≡ read_count (direct b.plan)
handed_reads os {b = b} R lawful (just_now h P places a f) o = same_read_count b.plan R (kept_always h) lawful (broken-none b.plan R (neither (first_broken b.plan R) _ f).0) os o
handed_reads os R lawful (before c a out) o = handed_reads os R lawful out o

-- and what their reads tell
pub handed_tells : (M : Model) (n mark : ℕ) (row : ℕ → ℕ) (os : List Operation) {e : Book} {h : History e} {b : Book} (R : Route) {ls : List Operation} → RouteLawful R → HandedOut e h b R ls → OrderOf ls os → AllByRecursion (Fits M n) os → Perm (tells mark os row) (tells mark (direct b.plan) row)
handed_tells M n mark row os {b = b} R lawful (just_now h P places a f) o t = same_numbers b.plan R (kept_always h) lawful (broken-none b.plan R (neither (first_broken b.plan R) _ f).0) os o M n mark row t
handed_tells M n mark row os R lawful (before c a out) o t = handed_tells M n mark row os R lawful out o t
