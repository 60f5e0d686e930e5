-- The line of a reply: compact JSON (RFC 8259) with keys in the order of their bytes, and LF (docs/MANUAL.md, "Replies").
use Rattle.std.specs.Prelude.{ℕ, List, [], ◌∷◌, ◌++◌, Bool, true, false, codes}
use Rattle.serde_json.specs.Data.{Data, boolean, string, object, Members, no_members, member, put}
use Rattle.serde_json.specs.Written.{compact_text}
use Rattle.lock_modes.specs.declared.ask.Ask.{Ask}
use Rattle.lock_modes.specs.ModeNames.{ask_name}
use Rattle.lock_resources.specs.declared.resource.Resource.{Resource}
use Rattle.lock_resources.specs.ResourceText.{resource_text}
use Rattle.tree_model.specs.declared.reply.Reply.TheVariants.{Refused}
use Rattle.command_lines.specs.declared.line_reply.LineReply.{LineReply}
use Rattle.command_lines.specs.declared.line_reply.LineReply.TheVariants.{Said, Bad, Order}
use Rattle.command_lines.specs.declared.line_reply.LineAnswer.{LineAnswer}
use Rattle.command_lines.specs.declared.line_reply.LineAnswer.TheVariants.{Reply, Session, Wait, Deadlock}
use Rattle.command_lines.specs.declared.line_reply.SessionRefusal.{SessionRefusal}
use Rattle.command_lines.specs.declared.line_reply.SessionRefusal.TheVariants.{IsWaiting, InTransaction, NoTransaction, TxLimit, CommitLimit}
use Rattle.command_lines.specs.ReplyValues.{named, reply_value, number_value, commit_value, array_of}

abbrev pub session_refusal_name : SessionRefusal → List ℕ
session_refusal_name IsWaiting = codes "IsWaiting"
session_refusal_name InTransaction = codes "InTransaction"
session_refusal_name NoTransaction = codes "NoTransaction"
session_refusal_name TxLimit = codes "TxLimit"
session_refusal_name CommitLimit = codes "CommitLimit"

-- `{"asks":M,"by":[S],"on":R}`: the mode, the sessions that hold another there, and the resource
abbrev pub wait_value : Resource → Ask → List ℕ → Data
wait_value on asks by =
    object (member (codes "asks") (string (ask_name asks)) (member (codes "by") (array_of number_value by)
    (member (codes "on") (string (resource_text on)) no_members)))

-- the key under which an answer stands
abbrev pub answer_key : LineAnswer → List ℕ
answer_key (Reply (Refused why)) = codes "err"
answer_key (Reply reply) = codes "ok"
answer_key (Session why) = codes "err"
answer_key (Wait on asks by) = codes "wait"
answer_key (Deadlock cycle) = codes "deadlock"

-- its value
abbrev pub answer_value : LineAnswer → Data
answer_value (Reply reply) = reply_value reply
answer_value (Session why) = object (named (session_refusal_name why))
answer_value (Wait on asks by) = wait_value on asks by
answer_value (Deadlock cycle) = array_of number_value cycle

-- with `"woke":true` where the call had waited
abbrev pub if_woke : Bool → Members → Members
if_woke true ms = put (codes "woke") (boolean true) ms
if_woke false ms = ms

-- `{KEY:V,"s":S}`, where the keys stand in their order
abbrev pub said : ℕ → Bool → List ℕ → Data → Data
said session woke key value = object (if_woke woke (put (codes "s") (number_value session) (put key value no_members)))

-- `{"bad":WHY,"line":N}`
abbrev pub bad_value : List ℕ → ℕ → Data
bad_value why line = object (member (codes "bad") (string why) (member (codes "line") (number_value line) no_members))

-- `{"order":[[2,1],[1,1]]}`
abbrev pub order_value : List (ℕ × ℕ) → Data
order_value commits = object (member (codes "order") (array_of commit_value commits) no_members)

-- the value that a reply is written as
abbrev pub line_value : LineReply → Data
line_value (Said session woke answer) = said session woke (answer_key answer) (answer_value answer)
line_value (Bad why line) = bad_value why line
line_value (Order commits) = order_value commits

-- its line
unfoldable pub reply_text : LineReply → List ℕ
reply_text reply = compact_text (line_value reply) ++ 10 ∷ []
