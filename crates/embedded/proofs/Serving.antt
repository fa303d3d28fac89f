-- What a session of text is served, as replies to the text. Assumes nothing.
use Rattle.std.proofs.Common.{◌≡◌, ℕ, List, [], ◌++◌, None, Some, refl, sym, subst, ◌∙◌}
use Rattle.std.proofs.lemmas.Grind.{flat_map-append}
use Rattle.lines.specs.Lines.{lines_of}
use Rattle.dialogue.specs.Dialogues.{Dialogue, over, line, Served, next_number}
use Rattle.reply.specs.declared.reply.Reply.{Reply}
use Rattle.protocol.specs.declared.text_session.TextSession.{TextSession}
use Rattle.session.specs.Sessions.{session_book, line_of, printed}
use Rattle.protocol.specs.TextSessions.{TextAnswered}
use Rattle.embedded.specs.Runs.{Conversation, no_line, next_line, Replies}

-- what a session is answered, seen by its jobs alone
of_sessions : (s t : TextSession) (n : ℕ) (ls : List (List ℕ)) (bytes : List ℕ) → Dialogue TextAnswered s n ls t bytes
    → (rs : List Reply) × Conversation (session_book s.session) n ls (session_book t.session) rs × (bytes ≡ printed rs)
of_sessions s t n ls bytes over = ([], no_line, refl)
of_sessions s t n ls bytes (line {t = u} {l = l} {ls = rest} {bs = xs} {cs = ys} a d) =
    let m = of_sessions u t (next_number n) rest ys d in
    (a.0 ++ m.0, next_line a.1 m.1, (λ i. a.2 i ++ m.2 i) ∙ sym (flat_map-append line_of a.0 m.0))

-- what is written in a session with no job behind nothing is the replies
pub served_replies : (text : List ℕ) (s t : TextSession) (was now : List ℕ) → session_book s.session ≡ None → was ≡ [] → Served TextAnswered (Some text) s t (Some was) (Some now) → Replies text now
served_replies text s t was now none empty h =
    let m = of_sessions s t 1 (lines_of text) h.0 h.1 in
    let whole : now ≡ h.0 = subst (λ w. now ≡ w ++ h.0) empty h.2 in
    (m.0, (session_book t.session, subst (λ b. Conversation b 1 (lines_of text) (session_book t.session) m.0) none m.1), whole ∙ m.2)
