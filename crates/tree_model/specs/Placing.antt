-- The calls that put a subtree into the tree and take one out (DOM Level 3 Core, interface Node: `appendChild`, `insertBefore`, `replaceChild`, `removeChild`; docs/PROFILE.md, "Calls").
use Rattle.dewey_labels.specs.Labels.{Label, level, parent}
use Rattle.dewey_labels.specs.NewLabels.{new_label}
use Rattle.std.specs.Prelude.{Bool, None, Option, Some, if◌then◌else◌, is_some, nat_lt, not, ◌&&◌, ◌+◌, ◌||◌}
use Rattle.tree_model.specs.Edits.{edited, with_children}
use Rattle.tree_model.specs.Fragments.{Fragments, depth, is_text_fragment}
use Rattle.tree_model.specs.Graft.{all_within, graft}
use Rattle.tree_model.specs.Limits.{deepest_level}
use Rattle.tree_model.specs.NodeKinds.{is_document, is_text_node}
use Rattle.tree_model.specs.Outcomes.{Outcome, hierarchy_request_err, not_found_err, refused, see_in}
use Rattle.tree_model.specs.Subtrees.{fragment_of}
use Rattle.tree_model.specs.Tree.{Forest, Tree, at, behind, below, found, last_child_of, next_of, none, prev_of, then_trees}
use Rattle.tree_model.specs.ValidTrees.{same_label}
use Rattle.tree_model.specs.declared.refusal.Refusal.TheVariants.{Dom, LabelLimit, TooDeep}
use Rattle.tree_model.specs.declared.reply.Reply.{Reply}
use Rattle.tree_model.specs.declared.reply.Reply.TheVariants.{Place}
use Rattle.tree_model.specs.declared.reply.Reply.TheVariants as reply

-- ---- a fragment at a new label

-- below p the fragment's deepest node would lie too deep
abbrev pub is_too_deep : Label → Fragments → Bool
is_too_deep p f = nat_lt deepest_level (level p + depth f)

-- a fragment at its new label, unless one of its labels passes a limit; what is done there and what is answered
abbrev pub place : Fragments → Option Label → (Label → Forest → Forest) → (Label → Reply) → Label → Tree → Outcome
place f None change answer l t = refused LabelLimit t
place f (Some new) change answer l t = if all_within (graft new f none) then (answer new, edited l (change new) t) else refused LabelLimit t

-- the new label as the answer
abbrev pub as_place : Label → Reply
as_place l = Place (Some l)

-- ---- the last child

-- the fragment as the last child
abbrev pub with_last : Fragments → Label → Forest → Forest
with_last f new found = with_children (then_trees (below found) (graft new f none)) found

-- a document takes one element alone
abbrev pub is_full : Fragments → Forest → Bool
is_full f found = is_document found && (is_text_fragment f || is_some (last_child_of found))

-- the tests of `append` at the node that was found
abbrev pub append_to : Label → Fragments → Tree → Forest → Outcome
append_to p f t found =
    if is_text_node found || is_full f found then refused (Dom hierarchy_request_err) t
    else if is_too_deep p f then refused TooDeep t
    else place f (new_label p (last_child_of found) None) (with_last f) as_place p t

-- appendChild
abbrev pub append : Label → Fragments → Tree → Outcome
append p f t = see_in t (append_to p f t) (at p t.documents)

-- ---- before a child

-- c is a child of p in the tree
abbrev pub has_child : Label → Label → Tree → Bool
has_child p c t = same_label (parent c) p && found (at c t.documents)

-- the tests of `insert` at the node that was found: before the tree of c
abbrev pub insert_into : Label → Label → Fragments → Tree → Forest → Outcome
insert_into p c f t found =
    if is_text_node found then refused (Dom hierarchy_request_err) t
    else if not (has_child p c t) then refused (Dom not_found_err) t
    else if is_document found then refused (Dom hierarchy_request_err) t
    else if is_too_deep p f then refused TooDeep t
    else place f (new_label p (prev_of None c t.documents) (Some c)) (λ new. graft new f) as_place c t

-- insertBefore
abbrev pub insert : Label → Option Label → Fragments → Tree → Outcome
insert p None f t = append p f t
insert p (Some c) f t = see_in t (insert_into p c f t) (at p t.documents)

-- ---- replacement and removal

-- the fragment in place of the first tree
abbrev pub in_place : Fragments → Label → Forest → Forest
in_place f new found = graft new f (behind found)

-- the tests of `replace` at the node that was found
abbrev pub replace_in : Label → Label → Fragments → Tree → Forest → Outcome
replace_in p old f t found =
    if not (has_child p old t) then refused (Dom not_found_err) t
    else if is_document found && is_text_fragment f then refused (Dom hierarchy_request_err) t
    else if is_too_deep p f then refused TooDeep t
    else place f (new_label p (prev_of None old t.documents) (next_of (at old t.documents))) (in_place f) (λ new. reply.Replaced new (fragment_of (at old t.documents))) old t

-- replaceChild: the new label is that of the gap without the old child
abbrev pub replace : Label → Label → Fragments → Tree → Outcome
replace p old f t = see_in t (replace_in p old f t) (at p t.documents)

-- the tests of `remove` at the node that was found
abbrev pub remove_from : Label → Label → Tree → Forest → Outcome
remove_from p old t found =
    if not (has_child p old t) then refused (Dom not_found_err) t
    else (reply.Tree (Some (fragment_of (at old t.documents))), edited old behind t)

-- removeChild
abbrev pub remove : Label → Label → Tree → Outcome
remove p old t = see_in t (remove_from p old t) (at p t.documents)
