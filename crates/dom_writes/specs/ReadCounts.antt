-- How many reads of the map a changing call makes at most (docs/ARCHITECTURE.md, "Seek keys").
use Rattle.std.specs.Prelude.{ℕ, ◌+◌, length, if◌then◌else◌, Option, Some, None}
use Rattle.dewey_labels.specs.Labels.{Label}
use Rattle.tree_model.specs.declared.dom_call.DomCall.{DomCall}
use Rattle.tree_model.specs.declared.dom_call.DomCall.TheVariants as call
use Rattle.tree_model.specs.Fragments.{Fragments, plain}
use Rattle.tree_model.specs.NodeKinds.{is_element, is_text_node}
use Rattle.tree_model.specs.Outcomes.{is_refused}
use Rattle.tree_model.specs.Placing.{replace}
use Rattle.tree_model.specs.Tree.{Tree, at, beside}
use Rattle.dom_reads.specs.SubtreeWalks.{subtree_of}

-- the reads of a subtree behind that of its parent, of its document's entry or of its own node
abbrev pub removal_reads : Label → Tree → ℕ
removal_reads l t = length (subtree_of l t) + 2

-- a subtree and four reads for the gap around it, which alone are made where the call is refused
abbrev pub replace_reads : Label → Label → Fragments → Tree → ℕ
replace_reads p old f t = if is_refused (replace p old f t).0 then 4 else length (subtree_of old t) + 5

-- of the document that the catalogue names, if it does
abbrev pub drop_reads : Option Label → Tree → ℕ
drop_reads None t = 1
drop_reads (Some l) t = removal_reads l t

-- a text has nothing below it
abbrev pub normalize_reads : Label → Tree → ℕ
normalize_reads l t = if is_text_node (at l t.documents) then 1 else removal_reads l t

-- only of an element what lies below it is read
abbrev pub set_text_reads : Label → Tree → ℕ
set_text_reads l t = if is_element (at l t.documents) then removal_reads l t else 1

-- the most reads of the calls that have a number, whatever the map holds
abbrev pub few_reads : DomCall → Option ℕ
few_reads (call.Create n f) = Some 2
few_reads (call.Append p f) = Some 2
few_reads (call.Insert p None f) = Some 2
few_reads (call.Insert p (Some c) f) = Some 3
few_reads (call.SetAttr l n v) = Some 2
few_reads (call.RemoveAttr l n) = Some 2
few_reads (call.Rename l n) = Some 1
few_reads (call.SetData l d) = Some 1
few_reads (call.AppendData l d) = Some 1
few_reads (call.InsertData l offset d) = Some 1
few_reads (call.DeleteData l offset count) = Some 1
few_reads (call.ReplaceData l offset count d) = Some 1
few_reads (call.SplitText l offset) = Some 2
few_reads c = None

-- the most reads of a changing call on a tree
abbrev pub most_reads_of_change : DomCall → Tree → ℕ
most_reads_of_change (call.Create n f) t = 2
most_reads_of_change (call.Drop n) t = drop_reads (beside n t.catalogue) t
most_reads_of_change (call.Append p f) t = 2
most_reads_of_change (call.Insert p None f) t = 2
most_reads_of_change (call.Insert p (Some c) f) t = 3
most_reads_of_change (call.Replace p old f) t = replace_reads p old (plain f) t
most_reads_of_change (call.Remove p old) t = removal_reads old t
most_reads_of_change (call.SetAttr l n v) t = 2
most_reads_of_change (call.RemoveAttr l n) t = 2
most_reads_of_change (call.Rename l n) t = 1
most_reads_of_change (call.SetData l d) t = 1
most_reads_of_change (call.AppendData l d) t = 1
most_reads_of_change (call.InsertData l offset d) t = 1
most_reads_of_change (call.DeleteData l offset count) t = 1
most_reads_of_change (call.ReplaceData l offset count d) t = 1
most_reads_of_change (call.SplitText l offset) t = 2
most_reads_of_change (call.Normalize l) t = normalize_reads l t
most_reads_of_change (call.SetText l d) t = set_text_reads l t
most_reads_of_change c t = 0
