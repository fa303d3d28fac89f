-- The book of a job in either state. Assumes nothing.
use Rattle.std.specs.Prelude.{◌≡◌, true, false, Some, None, Err, Option, Result, MatchResult}
use Rattle.refusal.specs.declared.Refusal.{Refusal}
use Rattle.book.specs.Books.{Book}
use Rattle.store.specs.Stores.{store_book}
use Rattle.job.specs.declared.open_job.OpenJob.{OpenJob}
use Rattle.job.specs.declared.closed_job.ClosedJob.{ClosedJob}

-- the book of a job whose program takes gates
abbrev pub open_book : OpenJob → Book
open_book j = store_book false j.store

-- the book of a job whose program is closed
abbrev pub closed_book : ClosedJob → Book
closed_book j = store_book true j.store

-- a refused opening answers its refusal; any other a job of the book, unless memory wants
abbrev pub OpensJob : Option Refusal → Book → Result OpenJob Refusal → Type 0
OpensJob (Some r) b answer = answer ≡ Err r
OpensJob None b answer = MatchResult answer (λ j. open_book j ≡ b) (λ e. e ≡ Refusal.NoMemory)
