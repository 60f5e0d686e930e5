-- What `put`, `get` and `query` come to by the calls of the plain tree (docs/MANUAL.md, "Commands").
use Rattle.std.specs.Prelude.{◌≡◌, ◌≢◌, ℕ, ◌+◌, false, List, Option, None, Some}
use Rattle.std.specs.List.{AllByRecursion}
use Rattle.dewey_labels.specs.Labels.{Label}
use Rattle.tree_model.specs.DomCalls.{dom}
use Rattle.tree_model.specs.Names.{Name}
use Rattle.tree_model.specs.Tree.{Tree}
use Rattle.tree_model.specs.declared.dom_call.DomCall.TheVariants.{Create, Doc, Dump}
use Rattle.tree_model.specs.declared.fragment.Fragment.{Fragment}
use Rattle.tree_model.specs.declared.refusal.Refusal.{Refusal}
use Rattle.path_model.specs.Finds.{found_at}
use Rattle.path_model.specs.PlainPaths.{plain_path}
use Rattle.path_model.specs.declared.path.XPath.{XPath}
use Rattle.tree_model.specs.declared.reply.Hit.{Hit}
use Rattle.tree_model.specs.declared.reply.Reply.{Reply}
use Rattle.tree_model.specs.declared.reply.Reply.TheVariants as reply
use Rattle.session_driver.specs.Asking.{BookCall}
use Rattle.command_lines.specs.declared.line_reply.LineAnswer.TheVariants as answer
use Rattle.command_lines.specs.declared.line_reply.LineReply.{LineReply}
use Rattle.command_lines.specs.declared.line_reply.LineReply.TheVariants.{Said}
use Rattle.call_contract.specs.States.{start}
use Rattle.session_driver.specs.Progress.{Progress}
use Rattle.xtc.specs.Book.{after_asked}
use Rattle.durable_sessions.specs.Reasons.{reason_in}
use Rattle.durable_sessions.specs.declared.reasons.Reason.TheVariants.{Call, Limit}
use Rattle.xtc.specs.Documents.{get_asks, hits_in, label_in, label_of, put_asks, query_asks, tree_in}

-- ---- what they ask, done by the sessions of a store that is opened as a tree, with a number and a limit

-- to create the document, and to commit
abbrev pub put_done : Tree → ℕ → ℕ → Name → Fragment → Progress BookCall
put_done t n limit name element = after_asked (start t n limit) (put_asks name element)

-- to find the document, and to dump it
abbrev pub get_done : Tree → ℕ → ℕ → Name → Progress BookCall
get_done t n limit name = after_asked (start t n limit) (get_asks (start t n limit) name)

-- to find the document, and in it what the path finds
abbrev pub query_done : Tree → ℕ → ℕ → Name → XPath → Progress BookCall
query_done t n limit name path = after_asked (start t n limit) (query_asks (start t n limit) name path)

-- ---- what the tree says of it

-- the label that a reply of the tree shows
abbrev pub label_shown : Reply → Option Label
label_shown r = label_of (Said 1 false (answer.Reply r))

-- `put` does what `create` does on the tree, by one commit: it is refused as that is, and shows its label; and where no number is left for a transaction
pub record PutOnTree (t : Tree) (n limit : ℕ) (name : Name) (element : Fragment) (put : Progress BookCall) : Type 0 where
  pub limited : n ≡ limit → reason_in put.lines ≡ Some Limit
  pub refused : (why : Refusal) → n ≢ limit → (dom (Create name (Some element)) t).0 ≡ reply.Refused why → reason_in put.lines ≡ Some (Call why)
  pub label : reason_in put.lines ≡ None → label_in put.lines ≡ label_shown (dom (Create name (Some element)) t).0
  pub tree : reason_in put.lines ≡ None → put.state.tree ≡ (dom (Create name (Some element)) t).1
  pub number : reason_in put.lines ≡ None → put.state.number ≡ n + 1

-- `get` answers what `doc` and `dump` answer on the tree, and changes nothing: it is refused as these are, and where no number is left for a transaction
pub record GetOnTree (t : Tree) (n limit : ℕ) (name : Name) (get : Progress BookCall) : Type 0 where
  pub limited : n ≡ limit → reason_in get.lines ≡ Some Limit
  pub missing : (why : Refusal) → n ≢ limit → (dom (Doc name) t).0 ≡ reply.Refused why → reason_in get.lines ≡ Some (Call why)
  pub refused : (at : Label) (why : Refusal) → n ≢ limit → (dom (Doc name) t).0 ≡ reply.Place (Some at) → (dom (Dump at) t).0 ≡ reply.Refused why
      → reason_in get.lines ≡ Some (Call why)
  pub dumped : (at : Label) (document : Option Fragment) → n ≢ limit → (dom (Doc name) t).0 ≡ reply.Place (Some at) → (dom (Dump at) t).0 ≡ reply.Tree document
      → (reason_in get.lines ≡ None) × (tree_in get.lines ≡ document)
  pub tree : get.state.tree ≡ t
  pub number : get.state.number ≡ n

-- it is answered at once: nobody waits, and none had waited
abbrev pub IsAtOnce : LineReply → Type 0
IsAtOnce (Said session false (answer.Reply r)) = Unit {0}
IsAtOnce (Said session false (answer.Session why)) = Unit {0}
IsAtOnce line = ⊥

-- `query` answers what `doc` answers and the path finds on the tree, at once, and changes nothing: it is refused as these are, and where no number is left for a transaction
pub record QueryOnTree (t : Tree) (n limit : ℕ) (name : Name) (path : XPath) (query : Progress BookCall) : Type 0 where
  pub limited : n ≡ limit → reason_in query.lines ≡ Some Limit
  pub missing : (why : Refusal) → n ≢ limit → (dom (Doc name) t).0 ≡ reply.Refused why → reason_in query.lines ≡ Some (Call why)
  pub refused : (at : Label) (why : Refusal) → n ≢ limit → (dom (Doc name) t).0 ≡ reply.Place (Some at) → found_at at (plain_path path) t ≡ reply.Refused why
      → reason_in query.lines ≡ Some (Call why)
  pub found : (at : Label) (hits : List Hit) → n ≢ limit → (dom (Doc name) t).0 ≡ reply.Place (Some at) → found_at at (plain_path path) t ≡ reply.Found hits
      → (reason_in query.lines ≡ None) × (hits_in query.lines ≡ Some hits)
  pub at_once : AllByRecursion IsAtOnce query.lines
  pub tree : query.state.tree ≡ t
  pub number : query.state.number ≡ n
