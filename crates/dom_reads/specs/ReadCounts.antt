-- How many reads of the map a reading call makes at most (docs/ARCHITECTURE.md, "Seek keys").
use Rattle.std.specs.Prelude.{ℕ, ◌+◌, ◌≤◌, length, if◌then◌else◌, Option, Some, None}
use Rattle.dewey_labels.specs.Labels.{Label}
use Rattle.tree_model.specs.declared.dom_call.DomCall.{DomCall}
use Rattle.tree_model.specs.declared.dom_call.DomCall.TheVariants as call
use Rattle.tree_model.specs.declared.reply.Reply.{Reply}
use Rattle.tree_model.specs.declared.reply.Reply.TheVariants.{Attrs, Names, Places}
use Rattle.tree_model.specs.Entries.{Entries}
use Rattle.tree_model.specs.NodeKinds.{is_element}
use Rattle.tree_model.specs.Tree.{Tree, at, attributes_of, children_of, first_of, last_child_of}
use Rattle.node_seq.specs.Trees.{StandsFor}
use Rattle.dom_reads.specs.FoundNodes.{children_at}
use Rattle.dom_reads.specs.SubtreeWalks.{subtree_of}

-- how many items a reply lists
abbrev pub items_listed : Reply → ℕ
items_listed (Names names) = length names
items_listed (Places labels) = length labels
items_listed (Attrs (Some ats)) = length ats
items_listed reply = 0

-- a child that is found shows its parent, which else is read too
abbrev pub child_reads : Option Label → ℕ
child_reads (Some child) = 1
child_reads None = 2

-- of the children of a node that is there each one, and one read that finds no more
abbrev pub children_reads : Label → Tree → ℕ
children_reads l t = length (children_at l t) + 1

-- of a subtree the node, and what comes behind each of its entries; where no node is, one read tells it
abbrev pub subtree_reads : Label → Tree → ℕ
subtree_reads l t = length (subtree_of l t) + 1

-- the most reads of a reading call
abbrev pub most_reads : DomCall → Tree → ℕ
most_reads call.Docs t = length t.catalogue + 1
most_reads (call.Doc n) t = 1
most_reads (call.Node l) t = 1
most_reads (call.Parent l) t = 1
most_reads (call.First l) t = child_reads (first_of (at l t.documents))
most_reads (call.Last l) t = child_reads (last_child_of (at l t.documents))
most_reads (call.Next l) t = 2
most_reads (call.Prev l) t = 2
most_reads (call.Children l) t = length (children_of (at l t.documents)) + 2
most_reads (call.Attr l n) t = 2
most_reads (call.HasAttr l n) t = 2
most_reads (call.Attrs l) t = length (attributes_of (at l t.documents)) + 2
most_reads (call.TextContent l) t = if is_element (at l t.documents) then subtree_reads l t else 1
most_reads (call.Tags l n) t = subtree_reads l t
most_reads (call.Dump l) t = subtree_reads l t
most_reads (call.Length l) t = 1
most_reads (call.Substring l offset count) t = 1
most_reads c t = 0

-- the most reads of the calls that have a number, whatever the map holds
abbrev pub few_reads : DomCall → Option ℕ
few_reads (call.Doc n) = Some 1
few_reads (call.Node l) = Some 1
few_reads (call.Parent l) = Some 1
few_reads (call.First l) = Some 2
few_reads (call.Last l) = Some 2
few_reads (call.Next l) = Some 2
few_reads (call.Prev l) = Some 2
few_reads (call.Attr l n) = Some 2
few_reads (call.HasAttr l n) = Some 2
few_reads (call.Length l) = Some 1
few_reads (call.Substring l offset count) = Some 1
few_reads c = None

-- the count of reads rose by no more than the tree allows that the known map stands for, however the call ended
abbrev pub ReadsOfTree : Option Entries → (Tree → ℕ) → ℕ → ℕ → Type 0
ReadsOfTree contents most before after = (t : Tree) → StandsFor contents t → after ≤ before + most t
