-- Every job has a history, and keeps what every history keeps. Assumes nothing.
use Rattle.std.proofs.Common.{◌≡◌, ℕ, Bool, true, false, Some, None, Ok, Err, Option, refl, sym, subst}
use Rattle.refusal.specs.declared.Refusal.{Refusal}
use Rattle.calibration.specs.declared.values.Calibration.{Calibration}
use Rattle.plan.specs.Kept.{Kept}
use Rattle.book.specs.Books.{opening, opening_plan}
use Rattle.book.specs.Calls.{add, close, calibrate, place, time, reopen}
use Rattle.book.specs.Refusals.{opening_refusal}
use Rattle.book.specs.Histories.{fed, History, opened, HistoriesKeep}
use Rattle.book.proofs.Kept.{kept_always}
use Rattle.book.proofs.Merely.{kept_merely, lives_on}
use Rattle.store.specs.declared.store.Store.{Store}
use Rattle.store.specs.Stores.{store_plan, store_book, OpensStore}

-- after adding
pub add_lives : (s t : Store) (x l m : ℕ) → store_book false t ≡ fed (store_book false s) (add x l m) → ∥ History (store_book false s) ∥₁ → ∥ History (store_book false t) ∥₁
add_lives s t x l m e h = lives_on (store_book false s) (store_book false t) (add x l m) refl e h

-- after calibrating
pub calibrate_lives : (s t : Store) (c : ℕ) (v : Calibration) → store_book true t ≡ fed (store_book true s) (calibrate c v) → ∥ History (store_book true s) ∥₁ → ∥ History (store_book true t) ∥₁
calibrate_lives s t c v e h = lives_on (store_book true s) (store_book true t) (calibrate c v) refl e h

-- after placing
pub place_lives : (s t : Store) (l c : ℕ) → store_book true t ≡ fed (store_book true s) (place l c) → ∥ History (store_book true s) ∥₁ → ∥ History (store_book true t) ∥₁
place_lives s t l c e h = lives_on (store_book true s) (store_book true t) (place l c) refl e h

-- after timing
pub time_lives : (s t : Store) (g b c : ℕ) → store_book true t ≡ fed (store_book true s) (time g b c) → ∥ History (store_book true s) ∥₁ → ∥ History (store_book true t) ∥₁
time_lives s t g b c e h = lives_on (store_book true s) (store_book true t) (time g b c) refl e h

-- after closing
pub close_lives : (s : Store) → ∥ History (store_book false s) ∥₁ → ∥ History (store_book true s) ∥₁
close_lives s l = lives_on (store_book false s) (store_book true s) close refl refl l

-- after reopening
pub reopen_lives : (s t : Store) → store_book false t ≡ fed (store_book true s) reopen → ∥ History (store_book true s) ∥₁ → ∥ History (store_book false t) ∥₁
reopen_lives s t e l = lives_on (store_book true s) (store_book false t) reopen refl e l

-- after opening
pub opening_lives : (w h p : ℕ) (s : Store) → OpensStore (opening_refusal w h p) (opening_plan w h p) (Ok s) → ∥ History (store_book false s) ∥₁
opening_lives w h p s o = at (opening_refusal w h p) refl o
  where
    at : (r : Option Refusal) → opening_refusal w h p ≡ r → OpensStore r (opening_plan w h p) (Ok s) → ∥ History (store_book false s) ∥₁
    at (Some r) e o = absurd (let q : Ok s ≡ Err r = o in cc)
    at None e o = ∣ subst History (sym (let f : store_plan s ≡ opening_plan w h p = o in let k : store_book false s ≡ opening w h p = cc in k)) (opened w h p e) ∣₁

-- every job keeps what every history keeps
pub job_keeps : (closed : Bool) (s : Store) → ∥ History (store_book closed s) ∥₁ → Kept (store_plan s)
job_keeps closed s l = kept_merely l

-- every history does
pub histories_keep : HistoriesKeep
histories_keep b h = kept_always h
