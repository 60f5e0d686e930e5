-- The line of what a session is answered, in its pieces.
use Rattle.std.proofs.Common.{◌≡◌, ℕ, Bool, true, false, List, [], ◌∷◌, ◌++◌, Option, Some, None, codes, ap, sym, ◌∙◌, append_assoc}
use Rattle.std.specs.Prelude.{decimal}
use Rattle.json.specs.Print.{escape_byte}
use Rattle.serde_json.specs.Data.{Data}
use Rattle.serde_json.specs.Written.{compact_text}
use Rattle.tree_model.specs.declared.reply.Reply.TheVariants as reply
use Rattle.command_lines.specs.declared.line_reply.LineAnswer.{LineAnswer}
use Rattle.command_lines.specs.declared.line_reply.LineAnswer.TheVariants as answer
use Rattle.command_lines.specs.Replies.{said, answer_key, answer_value}
use Rattle.command_lines.specs.inside.SaidText.{start, around, said_text}

-- what holds of the four keys holds of each answer's
of_keys : (P : List ℕ → Option (List ℕ) → Type 0)
    → P (codes "ok") (Some (codes "{\"ok\":")) → P (codes "err") (Some (codes "{\"err\":")) → P (codes "wait") None → P (codes "deadlock") (Some (codes "{\"deadlock\":"))
    → (a : LineAnswer) → P (answer_key a) (start a)
of_keys P ok err wait deadlock (answer.Reply reply.Nothing) = ok
of_keys P ok err wait deadlock (answer.Reply (reply.Flag b)) = ok
of_keys P ok err wait deadlock (answer.Reply (reply.Number n)) = ok
of_keys P ok err wait deadlock (answer.Reply (reply.Chars t)) = ok
of_keys P ok err wait deadlock (answer.Reply (reply.Place l)) = ok
of_keys P ok err wait deadlock (answer.Reply (reply.Places ls)) = ok
of_keys P ok err wait deadlock (answer.Reply (reply.Names ds)) = ok
of_keys P ok err wait deadlock (answer.Reply (reply.Attrs ats)) = ok
of_keys P ok err wait deadlock (answer.Reply (reply.Node kind name value)) = ok
of_keys P ok err wait deadlock (answer.Reply (reply.Tree f)) = ok
of_keys P ok err wait deadlock (answer.Reply (reply.Replaced new old)) = ok
of_keys P ok err wait deadlock (answer.Reply (reply.Found hits)) = ok
of_keys P ok err wait deadlock (answer.Reply (reply.Refused why)) = err
of_keys P ok err wait deadlock (answer.Session why) = err
of_keys P ok err wait deadlock (answer.Wait on asks by) = wait
of_keys P ok err wait deadlock (answer.Deadlock cycle) = deadlock

-- LF behind the object, where the key comes first
key_ends : (start value : List ℕ) (session : ℕ) (end : List ℕ)
    → (start ++ (value ++ (codes ",\"s\":" ++ (decimal session ++ end)))) ++ 10 ∷ [] ≡ start ++ (value ++ (codes ",\"s\":" ++ (decimal session ++ (end ++ 10 ∷ []))))
key_ends start value session end =
    append_assoc start (value ++ (codes ",\"s\":" ++ (decimal session ++ end))) (10 ∷ [])
    ∙ ap (λ s. start ++ s) (append_assoc value (codes ",\"s\":" ++ (decimal session ++ end)) (10 ∷ []))
    ∙ ap (λ s. start ++ (value ++ (codes ",\"s\":" ++ s))) (append_assoc (decimal session) end (10 ∷ []))

-- and where the session does
wait_ends : (value : List ℕ) (session : ℕ) (end : List ℕ)
    → (codes "{\"s\":" ++ (decimal session ++ (codes ",\"wait\":" ++ (value ++ end)))) ++ 10 ∷ [] ≡ (codes "{\"s\":" ++ (decimal session ++ codes ",\"wait\":")) ++ (value ++ (end ++ 10 ∷ []))
wait_ends value session end =
    ap (λ s. codes "{\"s\":" ++ s) (append_assoc (decimal session) (codes ",\"wait\":" ++ (value ++ end)) (10 ∷ [])
    ∙ ap (λ s. decimal session ++ (codes ",\"wait\":" ++ s)) (append_assoc value end (10 ∷ []))
    ∙ sym (append_assoc (decimal session) (codes ",\"wait\":") (value ++ (end ++ 10 ∷ []))))

-- the members stand in the order of their keys, of which none has an escape
abbrev HasPieces : ℕ → Bool → Data → List ℕ → Option (List ℕ) → Type 0
HasPieces session woke d key start = compact_text (said session woke key d) ++ 10 ∷ [] ≡ around start (compact_text d) session woke

pub has_pieces : (session : ℕ) (woke : Bool) (a : LineAnswer) → compact_text (said session woke (answer_key a) (answer_value a)) ++ 10 ∷ [] ≡ said_text session woke a
unfolding escape_byte
has_pieces session true a =
    let value = compact_text (answer_value a) in
    let end = codes ",\"woke\":true}" in
    of_keys (HasPieces session true (answer_value a)) (key_ends (codes "{\"ok\":") value session end) (key_ends (codes "{\"err\":") value session end)
    (wait_ends value session end) (key_ends (codes "{\"deadlock\":") value session end) a
has_pieces session false a =
    let value = compact_text (answer_value a) in
    let end = codes "}" in
    of_keys (HasPieces session false (answer_value a)) (key_ends (codes "{\"ok\":") value session end) (key_ends (codes "{\"err\":") value session end)
    (wait_ends value session end) (key_ends (codes "{\"deadlock\":") value session end) a
