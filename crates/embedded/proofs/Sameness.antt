-- The replies to a text are one, but for those to lines that are refused for want of memory. Assumes nothing.
use Rattle.std.proofs.Common.{◌≡◌, ℕ, List, [], ◌∷◌, ◌++◌, Option, None, Result, Err, inl, inr, refl, sym, ap, subst, ◌∙◌}
use Rattle.std.specs.List.{AllByRecursion}
use Rattle.refusal.specs.declared.Refusal.{Refusal}
use Rattle.rules.specs.Bends.{one_bend}
use Rattle.book.specs.Books.{Book}
use Rattle.command.proofs.Letters.{same_command}
use Rattle.reply.specs.declared.reply.Reply.{Reply}
use Rattle.lines.specs.Lines.{lines_of}
use Rattle.dialogue.specs.Dialogues.{next_number}
use Rattle.session.specs.Sessions.{Request, begin, on_job, WantsMemory, Answered, LineAnswered, malformed, commanded, reply_of, request_of, request_rows, request_replies, request_answer, request_after}
use Rattle.embedded.specs.Runs.{Conversation, no_line, next_line, HadMemory, RepliesAreOne}

-- a request that wanted memory is refused for it
refused : (s : Option Book) (q : Request) (t : Option Book) (a : Result ℕ Refusal) → WantsMemory s q t a → a ≡ Err Refusal.NoMemory
refused s (begin w h p) t a wants = wants.2
refused s (on_job k) t a wants = absurd wants

-- a request whose reply is not that refusal has its one answer
answered : (s : Option Book) (q : Request) (t : Option Book) (n : ℕ) (a : Result ℕ Refusal) → HadMemory (reply_of n a) → Answered s q t a → (t ≡ request_after s q) × (a ≡ request_answer s q)
answered s q t n a had (inl h) = h
answered s q t n a had (inr wants) = absurd (had n (ap (reply_of n) (refused s q t a wants)))

-- a line has one answer, where its replies had memory
one_answer : (b c d : Option Book) (n : ℕ) (l : List ℕ) (rs qs : List Reply) → AllByRecursion HadMemory rs → AllByRecursion HadMemory qs
    → LineAnswered one_bend b n l c rs → LineAnswered one_bend b n l d qs → (c ≡ d) × (rs ≡ qs)
one_answer b c d n l rs qs p q (malformed h) (malformed k) = (refl, refl)
one_answer b c d n l rs qs p q (malformed h) (commanded y a k x) = absurd (h y k.0 k.1)
one_answer b c d n l rs qs p q (commanded y a k x) (malformed h) = absurd (h y k.0 k.1)
one_answer b c d n l rs qs p q (commanded x a h f) (commanded y z k g) =
    let e : x ≡ y = same_command x y h.0 k.0 (sym h.1 ∙ k.1) in
    let v = answered b (request_of one_bend x) c n a p.0 f in
    let w = answered b (request_of one_bend y) d n z q.0 g in
    let after : c ≡ d = v.0 ∙ ap (λ i. request_after b (request_of one_bend i)) e ∙ sym w.0 in
    let number : a ≡ z = v.1 ∙ ap (λ i. request_answer b (request_of one_bend i)) e ∙ sym w.1 in
    (after, λ j. request_replies n (number j) (request_rows b (request_of one_bend (e j))))

had_both : (rs qs : List Reply) → AllByRecursion HadMemory (rs ++ qs) → AllByRecursion HadMemory rs × AllByRecursion HadMemory qs
had_both [] qs h = (tt, h)
had_both (r ∷ rs) qs h =
    let i = had_both rs qs h.1 in
    ((h.0, i.0), i.1)

-- two conversations over the same lines have the same replies, where those had memory
one_course : (b c d : Option Book) (n : ℕ) (ls : List (List ℕ)) (rs qs : List Reply) → Conversation b n ls c rs → Conversation b n ls d qs
    → AllByRecursion HadMemory rs → AllByRecursion HadMemory qs → rs ≡ qs
one_course b c d n ls rs qs no_line no_line p q = refl
one_course b c d n ls rs qs (next_line {c = i} {l = l} {ls = rest} {rs = v} {qs = vs} a f) (next_line {c = k} {rs = w} {qs = ws} e g) p q =
    let x = had_both v vs p in
    let y = had_both w ws q in
    let h = one_answer b i k n l v w x.0 y.0 a e in
    let m = one_course k c d (next_number n) rest vs ws (subst (λ z. Conversation z (next_number n) rest c vs) h.0 f) g x.1 y.1 in
    (λ j. h.1 j ++ m j)

pub replies_are_one : RepliesAreOne
unfolding RepliesAreOne
replies_are_one text rs qs h k p q = one_course None h.0 k.0 1 (lines_of text) rs qs h.1 k.1 p q
