-- The calls that lead from node to node, and what a node is (DOM Level 3 Core, interfaces Node and Document; docs/PROFILE.md, "Calls").
use Rattle.dewey_labels.specs.Labels.{Label, parent}
use Rattle.std.specs.Cmp.Lexicographic.{slice_cmp}
use Rattle.std.specs.Ordering.{is_eq, nat_cmp}
use Rattle.std.specs.Prelude.{Bool, List, None, Option, Some, [], codes, if◌then◌else◌, ℕ, ◌++◌, ◌||◌, ◌∷◌}
use Rattle.tree_model.specs.Names.{Name}
use Rattle.tree_model.specs.NodeKinds.{is_document}
use Rattle.tree_model.specs.Outcomes.{not_found_err, see}
use Rattle.tree_model.specs.Placing.{place}
use Rattle.tree_model.specs.Tree.{Forest, Tree, at, below, children_of, first_of, found, last_child_of, next_of, node, none, prev_of}
use Rattle.tree_model.specs.declared.record.Record.{Record}
use Rattle.tree_model.specs.declared.record.Record.TheVariants.{Attr, Document, Element, Text}
use Rattle.tree_model.specs.declared.refusal.Refusal.TheVariants.{Dom}
use Rattle.tree_model.specs.declared.reply.Reply.{Reply}
use Rattle.tree_model.specs.declared.reply.Reply.TheVariants.{Place, Refused}
use Rattle.tree_model.specs.declared.reply.Reply.TheVariants as reply

-- ---- what a node is

-- nodeName of a text
abbrev pub text_name : List ℕ
text_name = codes "#text"

-- nodeName of a document
abbrev pub document_name : List ℕ
document_name = codes "#document"

-- nodeType, nodeName and nodeValue
abbrev pub described : Record → Reply
described Document = reply.Node 9 document_name None
described (Element n) = reply.Node 1 n None
described (Text d) = reply.Node 3 text_name (Some d)
described (Attr v) = Refused (Dom not_found_err)

-- of the node that was looked for
abbrev pub describe : Forest → Reply
describe none = Refused (Dom not_found_err)
describe (node l r ats ch nx) = described r

-- what a node is
abbrev pub node_of : Label → Tree → Reply
node_of l t = describe (at l t.documents)

-- ---- the nodes beside it

-- a document has no parent and no neighbours
abbrev pub unless_document : Option Label → Forest → Reply
unless_document place found = if is_document found then Place None else Place place

-- parentNode
abbrev pub parent_of : Label → Tree → Reply
parent_of l t = see (unless_document (Some (parent l))) (at l t.documents)

-- firstChild
abbrev pub first : Label → Tree → Reply
first l t = see (λ found. Place (first_of found)) (at l t.documents)

-- lastChild
abbrev pub last : Label → Tree → Reply
last l t = see (λ found. Place (last_child_of found)) (at l t.documents)

-- nextSibling
abbrev pub next : Label → Tree → Reply
next l t = see (λ found. unless_document (next_of found) found) (at l t.documents)

-- previousSibling
abbrev pub prev : Label → Tree → Reply
prev l t = see (unless_document (prev_of None l t.documents)) (at l t.documents)

-- childNodes
abbrev pub children : Label → Tree → Reply
children l t = see (λ found. reply.Places (children_of found)) (at l t.documents)

-- ---- elements by name

-- `*` asks for every name
abbrev pub asks_for : Name → Name → Bool
asks_for n m = is_eq (slice_cmp nat_cmp n (codes "*")) || is_eq (slice_cmp nat_cmp n m)

-- the elements of a forest with the name, in document order
abbrev pub tagged : Name → Forest → List Label
tagged n none = []
tagged n (node l (Element m) ats ch nx) = (if asks_for n m then l ∷ [] else []) ++ (tagged n ch ++ tagged n nx)
tagged n (node l r ats ch nx) = tagged n ch ++ tagged n nx

-- getElementsByTagName
abbrev pub tags : Label → Name → Tree → Reply
tags l n t = see (λ found. reply.Places (tagged n (below found))) (at l t.documents)
