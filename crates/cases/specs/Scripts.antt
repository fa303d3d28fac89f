-- A job's text from its first line to its last. Assumes nothing.
use Rattle.std.specs.Prelude.{◌≡◌, ℕ, List, [], ◌∷◌, ◌++◌, codes, Option}
use Rattle.rules.specs.Bends.{one_bend}
use Rattle.book.specs.Books.{Book}
use Rattle.reply.specs.declared.reply.Reply.{Reply}
use Rattle.session.specs.Sessions.{LineAnswered, printed}

-- the line n may be answered by these bytes, while the job's book goes from the first to the second
abbrev pub BookAnswered : Option Book → ℕ → List ℕ → Option Book → List ℕ → Type 0
BookAnswered b n line c bytes = (rs : List Reply) × LineAnswered one_bend b n line c rs × (bytes ≡ printed rs)

-- a text of these lines, each of which ends with a line feed
abbrev pub text_of : List (List ℕ) → List ℕ
text_of [] = []
text_of (l ∷ ls) = l ++ 10 ∷ text_of ls

-- the text of the job of a CNOT over two links
abbrev pub distant_input : List ℕ
distant_input = text_of (codes "o 3 1 2" ∷ codes "C 0 1" ∷ codes "e" ∷ codes "k 0 1 1 100 2 0" ∷ codes "k 1 1 1 100 3 0" ∷ codes "p 0 0" ∷ codes "p 1 2" ∷ codes "t 0 5 0" ∷ codes "j" ∷ codes "l" ∷ [])

-- what is printed to it
abbrev pub distant_output : List ℕ
distant_output =
    text_of (codes "ok 3" ∷ codes "ok 0" ∷ codes "ok 1" ∷ codes "ok 0" ∷ codes "ok 1" ∷ codes "ok 0" ∷ codes "ok 1" ∷ codes "ok 0" ∷ codes "ok 20" ∷ codes "ok 7" ∷ codes "5 2 C 0 1 0" ∷ codes "7 2 C 1 0 0" ∷ codes "9 2 C 0 1 0" ∷ codes "11 3 C 1 2 0" ∷ codes "14 2 C 0 1 0" ∷ codes "16 2 C 1 0 0" ∷ codes "18 2 C 0 1 0" ∷ [])
