-- The line of what a session is answered, around the text of the answer's value: `wait` alone stands behind `s` by its bytes.
use Rattle.std.specs.Prelude.{ℕ, List, ◌++◌, Bool, true, false, Option, Some, None, codes, decimal}
use Rattle.serde_json.specs.Written.{compact_text}
use Rattle.tree_model.specs.declared.reply.Reply.TheVariants.{Refused}
use Rattle.command_lines.specs.declared.line_reply.LineAnswer.{LineAnswer}
use Rattle.command_lines.specs.declared.line_reply.LineAnswer.TheVariants.{Reply, Session, Wait, Deadlock}
use Rattle.command_lines.specs.Replies.{answer_value}

-- `{KEY:`, unless `s` comes first
abbrev pub start : LineAnswer → Option (List ℕ)
start (Reply (Refused why)) = Some (codes "{\"err\":")
start (Reply reply) = Some (codes "{\"ok\":")
start (Session why) = Some (codes "{\"err\":")
start (Wait on asks by) = None
start (Deadlock cycle) = Some (codes "{\"deadlock\":")

-- `}` and LF, with `,"woke":true` ahead where the call had waited
abbrev pub end : Bool → List ℕ
end true = codes ",\"woke\":true}\n"
end false = codes "}\n"

-- `{KEY:V,"s":S}` and LF
abbrev pub key_first : List ℕ → List ℕ → ℕ → Bool → List ℕ
key_first start value session woke = start ++ (value ++ (codes ",\"s\":" ++ (decimal session ++ end woke)))

-- `{"s":S,"wait":V}` and LF
abbrev pub session_first : List ℕ → ℕ → Bool → List ℕ
session_first value session woke = (codes "{\"s\":" ++ (decimal session ++ codes ",\"wait\":")) ++ (value ++ end woke)

-- the line around the text of a value
abbrev pub around : Option (List ℕ) → List ℕ → ℕ → Bool → List ℕ
around (Some start) value session woke = key_first start value session woke
around None value session woke = session_first value session woke

-- the line of an answer
abbrev pub said_text : ℕ → Bool → LineAnswer → List ℕ
said_text session woke answer = around (start answer) (compact_text (answer_value answer)) session woke
