-- A subtree read as a fragment (docs/PROFILE.md, "Fragments").
use Rattle.dewey_labels.specs.Labels.{Label}
use Rattle.std.specs.Prelude.{List, None, Option, Some, [], if◌then◌else◌, ◌∷◌}
use Rattle.tree_model.specs.NodeKinds.{is_document}
use Rattle.tree_model.specs.Outcomes.{see}
use Rattle.tree_model.specs.Tree.{Forest, Tree, at, below, found, node, none}
use Rattle.tree_model.specs.declared.fragment.Fragment.{Fragment}
use Rattle.tree_model.specs.declared.record.Record.TheVariants.{Element, Text}
use Rattle.tree_model.specs.declared.reply.Reply.{Reply}
use Rattle.tree_model.specs.declared.fragment.Fragment.TheVariants as fragment
use Rattle.tree_model.specs.declared.reply.Reply.TheVariants as reply

-- the trees of a forest as fragments
abbrev pub fragments_of : Forest → List Fragment
fragments_of none = []
fragments_of (node l (Element n) ats ch nx) = fragment.Element n ats (fragments_of ch) ∷ fragments_of nx
fragments_of (node l (Text d) ats ch nx) = fragment.Text d ∷ fragments_of nx
fragments_of (node l r ats ch nx) = fragments_of nx

-- the first of some fragments
abbrev pub first_fragment : List Fragment → Option Fragment
first_fragment [] = None
first_fragment (f ∷ fs) = Some f

-- a document's is that of its element, if it has one
abbrev pub dumped : Forest → Option Fragment
dumped found = first_fragment (fragments_of (if is_document found then below found else found))

-- a subtree as a fragment
abbrev pub dump : Label → Tree → Reply
dump l t = see (λ found. reply.Tree (dumped found)) (at l t.documents)

-- the subtree of an element or a text
abbrev pub fragment_of : Forest → Fragment
fragment_of (node l (Element n) ats ch nx) = fragment.Element n ats (fragments_of ch)
fragment_of (node l (Text d) ats ch nx) = fragment.Text d
fragment_of found = fragment.Text []
