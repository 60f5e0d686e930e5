-- The commands that aren't done line by line: what sessions are asked in turn, how that ends, and what is written (docs/MANUAL.md, "Commands").
use Rattle.std.specs.Prelude.{ℕ, Bool, true, false, not, ◌==◌, length, List, [], ◌∷◌, ◌++◌, if◌then◌else◌, Option, Some, None, Result, Ok, Err}
use Rattle.std.specs.Option.{option_or}
use Rattle.serde_json.specs.Written.{compact_text}
use Rattle.dewey_labels.specs.Labels.{Label}
use Rattle.tree_model.specs.Fragments.{plain, is_text_fragment}
use Rattle.tree_model.specs.Names.{Name}
use Rattle.tree_model.specs.declared.dom_call.DomCall.{DomCall}
use Rattle.tree_model.specs.declared.dom_call.DomCall.TheVariants.{Create, Doc, Dump}
use Rattle.tree_model.specs.Tree.{Tree, map_of}
use Rattle.tree_model.specs.declared.fragment.Fragment.{Fragment}
use Rattle.tree_model.specs.declared.refusal.Refusal.TheVariants.{DocumentExists}
use Rattle.tree_model.specs.declared.reply.Hit.{Hit}
use Rattle.tree_model.specs.declared.reply.Reply.TheVariants as reply
use Rattle.jsonml_io.specs.JsonMl.{fragment_in}
use Rattle.jsonml_io.specs.Written.{json_of}
use Rattle.jsonml_io.specs.declared.fragment_error.FragmentError.{FragmentError}
use Rattle.jsonml_io.specs.declared.fragment_error.FragmentError.TheVariants.{NotJsonMl}
use Rattle.call_contract.specs.States.{State}
use Rattle.command_lines.specs.ReplyValues.{array_of, hit_value, label_value, or_null}
use Rattle.command_lines.specs.declared.command.StoreCall.{StoreCall}
use Rattle.session_driver.specs.Asking.{BookCall}
use Rattle.command_lines.specs.declared.command.StoreCall.TheVariants.{Dom, Find}
use Rattle.command_lines.specs.declared.line_reply.LineAnswer.TheVariants as answer
use Rattle.command_lines.specs.declared.line_reply.LineReply.{LineReply}
use Rattle.command_lines.specs.declared.line_reply.LineReply.TheVariants.{Said}
use Rattle.session_driver.specs.Lines.{Asked}
use Rattle.session_driver.specs.declared.doing.Doing.{Doing}
use Rattle.session_driver.specs.declared.doing.Doing.TheVariants.{Begin, Commit, Abort, Call}
use Rattle.xtc.specs.Book.{after_asked}
use Rattle.command_words.specs.Commands.{Command, run, workers, put, get, query, gen}
use Rattle.xpath_parser.specs.Parse.{parsed}
use Rattle.xpath_parser.specs.declared.path_error.PathError.{PathError}
use Rattle.path_model.specs.declared.path.XPath.{XPath}
use Rattle.workload_gen.specs.Scripts.{script}
use Rattle.xtc.specs.Generated.{generated, summary_line}
use Rattle.xtc.specs.declared.question.Question.{Question}
use Rattle.xtc.specs.declared.question.Question.TheVariants.{Whole, FoundBy}
use Rattle.durable_sessions.specs.Reasons.{first_reason, limit_of, reason_of}
use Rattle.durable_sessions.specs.declared.reasons.Reason.{Reason}
use Rattle.durable_sessions.specs.declared.reasons.Reason.TheVariants as reason
use Rattle.xtc.specs.declared.status.Status.{Status}
use Rattle.xtc.specs.declared.status.Status.TheVariants.{Done, NotJsonMl as NotAnElement, DocumentRefused}

-- ---- the input of `put`

abbrev pub element_or_not : Result Fragment FragmentError → Result Fragment FragmentError
element_or_not (Ok f) = if is_text_fragment (plain f) then Err (NotJsonMl []) else Ok f
element_or_not (Err e) = Err e

-- the element that bytes are; a text on top is none
abbrev pub element_in : List ℕ → Result Fragment FragmentError
element_in bytes = element_or_not (fragment_in bytes)

-- ---- what is read off replies

-- what ends a command before its end: a refusal, and of the generator's script that of a begin or commit alone, since its summary counts the others
abbrev pub stops_at : Command → LineReply → Option Reason
stops_at run = reason_of
stops_at workers = reason_of
stops_at (put name) = reason_of
stops_at (get name) = reason_of
stops_at (query name path) = reason_of
stops_at (gen seed count) = limit_of

abbrev pub label_of : LineReply → Option Label
label_of (Said session woke (answer.Reply (reply.Place place))) = place
label_of line = None

-- the first label that is answered
abbrev pub label_in : List LineReply → Option Label
label_in [] = None
label_in (line ∷ lines) = option_or (label_of line) (label_in lines)

abbrev pub tree_of : LineReply → Option Fragment
tree_of (Said session woke (answer.Reply (reply.Tree tree))) = tree
tree_of line = None

-- the first fragment that is answered
abbrev pub tree_in : List LineReply → Option Fragment
tree_in [] = None
tree_in (line ∷ lines) = option_or (tree_of line) (tree_in lines)

abbrev pub hits_of : LineReply → Option (List Hit)
hits_of (Said session woke (answer.Reply (reply.Found hits))) = Some hits
hits_of line = None

-- the first node set that is answered
abbrev pub hits_in : List LineReply → Option (List Hit)
hits_in [] = None
hits_in (line ∷ lines) = option_or (hits_of line) (hits_in lines)

-- ---- what session 1 is asked in turn

abbrev pub asks : Doing BookCall → Asked BookCall
asks doing = record { session = 1; doing = doing }

abbrev pub calls : DomCall → Asked BookCall
calls call = asks (Call (Dom call))

-- to create a document of this element, and to commit
abbrev pub put_asks : Name → Fragment → List (Asked BookCall)
put_asks name element = asks Begin ∷ calls (Create name (Some element)) ∷ asks Commit ∷ []

-- to find the document with this name
abbrev pub find_asks : Name → List (Asked BookCall)
find_asks name = asks Begin ∷ calls (Doc name) ∷ []

-- the call that asks it of the document at a label
abbrev pub call_of : Question → Label → StoreCall
call_of Whole at = Dom (Dump at)
call_of (FoundBy path) at = Find at path

-- to ask it of the document at a label, where there is one, and to abort
abbrev pub question_asks : Question → Option Label → List (Asked BookCall)
question_asks q None = []
question_asks q (Some at) = asks (Call (call_of q at)) ∷ asks Abort ∷ []

-- to ask it of the document with this name: the label is the one that was found
abbrev pub show_asks : State BookCall → Name → Question → List (Asked BookCall)
show_asks st name q = find_asks name ++ question_asks q (label_in (after_asked st (find_asks name)).lines)

abbrev pub get_asks : State BookCall → Name → List (Asked BookCall)
get_asks st name = show_asks st name Whole

-- of its document what the path finds
abbrev pub query_asks : State BookCall → Name → XPath → List (Asked BookCall)
query_asks st name path = show_asks st name (FoundBy path)

-- the path of these bytes is asked for, or refused
abbrev pub query_asks_of : State BookCall → Name → Result XPath PathError → Result (List (Asked BookCall)) Status
query_asks_of st name (Ok path) = Ok (query_asks st name path)
query_asks_of st name (Err why) = Err (DocumentRefused (reason.Path why))

abbrev pub put_asks_of : Name → Result Fragment FragmentError → Result (List (Asked BookCall)) Status
put_asks_of name (Ok element) = Ok (put_asks name element)
put_asks_of name (Err why) = Err (NotAnElement why)

-- a store with any document has a record
abbrev pub has_documents : Tree → Bool
has_documents t = not (length (map_of t) == 0)

-- the generator's script, where the store has no document
abbrev pub gen_asks_of : Bool → ℕ → ℕ → Result (List (Asked BookCall)) Status
gen_asks_of true seed count = Err (DocumentRefused (reason.Call DocumentExists))
gen_asks_of false seed count = Ok (generated (script seed count))

-- what a command asks from a state on, with this input; or how it ends where the input is no element, its path none, or a document in its way
abbrev pub asks_of : Command → State BookCall → List ℕ → Result (List (Asked BookCall)) Status
asks_of run st input = Ok []
asks_of workers st input = Ok []
asks_of (put name) st input = put_asks_of name (element_in input)
asks_of (get name) st input = Ok (get_asks st name)
asks_of (query name path) st input = query_asks_of st name (parsed path)
asks_of (gen seed count) st input = gen_asks_of (has_documents st.tree) seed count

-- ---- how it ends

abbrev pub end_by : Option Reason → Status
end_by None = Done
end_by (Some why) = DocumentRefused why

-- how a command ends that asks this from a state on, where nothing fails
abbrev pub end_of : Command → State BookCall → Result (List (Asked BookCall)) Status → Status
end_of c st (Err status) = status
end_of c st (Ok asked) = end_by (first_reason (stops_at c) (after_asked st asked).lines)

-- ---- what is written

-- the label as a JSON string, and LF
abbrev pub label_line : Option Label → List ℕ
label_line place = compact_text (or_null label_value place) ++ 10 ∷ []

-- the fragment as JsonML or `null`, and LF
abbrev pub tree_line : Option Fragment → List ℕ
tree_line tree = compact_text (or_null json_of tree) ++ 10 ∷ []

-- the node set as an array of labels, an attribute as `LABEL/@NAME`, or `null`, and LF
abbrev pub hits_line : Option (List Hit) → List ℕ
hits_line hits = compact_text (or_null (array_of hit_value) hits) ++ 10 ∷ []

-- the answer to what was asked of a document
abbrev pub answer_line : Question → List LineReply → List ℕ
answer_line Whole lines = tree_line (tree_in lines)
answer_line (FoundBy path) lines = hits_line (hits_in lines)

-- by what is answered to what is asked from a state on
abbrev pub text_of : Command → State BookCall → List (Asked BookCall) → List ℕ
text_of run st asked = []
text_of workers st asked = []
text_of (put name) st asked = label_line (label_in (after_asked st asked).lines)
text_of (get name) st asked = tree_line (tree_in (after_asked st asked).lines)
text_of (query name path) st asked = hits_line (hits_in (after_asked st asked).lines)
text_of (gen seed count) st asked = summary_line st seed count
