-- What a text is answered, and what running it leaves in lent places. Assumes nothing.
use Rattle.std.specs.Prelude.{◌≡◌, ◌≢◌, ℕ, ◌⊎◌, nat_le, cond, List, [], ◌∷◌, ◌++◌, length, drop, Option, None, Result, Ok, Err}
use Rattle.std.specs.List.{AllByRecursion}
use Rattle.refusal.specs.declared.Refusal.{Refusal}
use Rattle.rules.specs.Bends.{one_bend}
use Rattle.book.specs.Books.{Book}
use Rattle.reply.specs.declared.reply.Reply.{Reply}
use Rattle.lines.specs.Lines.{lines_of}
use Rattle.dialogue.specs.Dialogues.{next_number}
use Rattle.session.specs.Sessions.{LineAnswered, printed}
use Rattle.embedded.specs.declared.failure.Failure.{Failure}

-- The lines, the first of which has the number, are answered one after another by these replies, and the job goes from the first to the second.
pub data Conversation : Option Book → ℕ → List (List ℕ) → Option Book → List Reply → Type 0 where
  no_line : {b : Option Book} {n : ℕ} → Conversation b n [] b []
  next_line : {b c d : Option Book} {n : ℕ} {l : List ℕ} {ls : List (List ℕ)} {rs qs : List Reply} → LineAnswered one_bend b n l c rs → Conversation c (next_number n) ls d qs → Conversation b n (l ∷ ls) d (rs ++ qs)

-- the lines of the text, counted from 1 and beginning with no job, are answered by the replies
abbrev pub RepliedBy : List ℕ → List Reply → Type 0
RepliedBy text rs = (after : Option Book) × Conversation None 1 (lines_of text) after rs

-- the bytes are replies to the text as they are printed
abbrev pub Replies : List ℕ → List ℕ → Type 0
Replies text bytes = (rs : List Reply) × RepliedBy text rs × (bytes ≡ printed rs)

-- the reply is no refusal for want of memory
abbrev pub HadMemory : Reply → Type 0
HadMemory r = (n : ℕ) → r ≢ Reply.No Refusal.NoMemory n

-- the replies to a text are one, but for those where a line is refused for want of memory
unfoldable pub RepliesAreOne : Type 0
RepliesAreOne = (text : List ℕ) (rs qs : List Reply) → RepliedBy text rs → RepliedBy text qs → AllByRecursion HadMemory rs → AllByRecursion HadMemory qs → rs ≡ qs

-- what putting bytes into so many places answers
abbrev pub placed : List ℕ → ℕ → Result ℕ Failure
placed bytes room = cond (nat_le (length bytes) room) (Ok (length bytes)) (Err (Failure.TooSmall (length bytes)))

-- what the places hold then: the bytes in front where there is room for all of them, and else what they held
abbrev pub places_after : List ℕ → List ℕ → List ℕ
places_after bytes was = cond (nat_le (length bytes) (length was)) (bytes ++ drop (length bytes) was) was

-- the replies to the text have so many bytes, or there was no memory
abbrev pub Measured : List ℕ → Result ℕ Failure → Type 0
Measured text r = ((bytes : List ℕ) × Replies text bytes × (r ≡ Ok (length bytes))) ⊎ (r ≡ Err Failure.NoMemory)

-- Replies to the text were put into the places, or refused whole; or there was no memory, and the places are as they were.
abbrev pub Run : List ℕ → List ℕ → List ℕ → Result ℕ Failure → Type 0
Run text was now r = ((bytes : List ℕ) × Replies text bytes × (r ≡ placed bytes (length was)) × (now ≡ places_after bytes was)) ⊎ ((r ≡ Err Failure.NoMemory) × (now ≡ was))
