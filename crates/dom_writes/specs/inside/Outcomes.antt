-- What a call gives, told by the map: its reply and its changes; and the parent that it is called on.
use Rattle.dewey_labels.specs.Labels.{Label, parent}
use Rattle.std.specs.Prelude.{◌≡◌, Err, List, None, Ok, Option, Result, if◌then◌else◌}
use Rattle.tree_model.specs.Changes.{differences}
use Rattle.tree_model.specs.Edits.{edited}
use Rattle.tree_model.specs.Fragments.{Fragments}
use Rattle.tree_model.specs.Outcomes.{Outcome}
use Rattle.tree_model.specs.Placing.{in_place, replace}
use Rattle.tree_model.specs.Subtrees.{fragment_of}
use Rattle.tree_model.specs.Tree.{Tree, at, map_of, record_of}
use Rattle.tree_model.specs.ValidTrees.{same_label}
use Rattle.tree_model.specs.declared.change.Change.{Change}
use Rattle.tree_model.specs.declared.record.Record.{Record}
use Rattle.tree_model.specs.declared.reply.Reply.{Reply}
use Rattle.tree_model.specs.declared.reply.Reply.TheVariants.{Replaced}

-- the reply of a call on the tree, and the changes of the map
abbrev pub reply_and_changes : Tree → Outcome → Reply × List Change
reply_and_changes t o = (o.0, differences (map_of t) (map_of o.1))

-- the record of the node with label p where that is the parent of the label c
abbrev pub parent_of : Label → Label → Tree → Option Record
parent_of p c t = if same_label (parent c) p then record_of (at p t.documents) else None

-- a fragment in the place of the tree c at a new label, or a refusal
abbrev pub placed_instead : Label → Fragments → Tree → Result Label Reply → Outcome
placed_instead c f t (Ok new) = (Replaced new (fragment_of (at c t.documents)), edited c (in_place f new) t)
placed_instead c f t (Err reply) = (reply, t)

-- the place, or the refusal, with which the fragment is put in the place of the tree c below p as `replace` does it
abbrev pub IsPlaceToReplace : Label → Label → Fragments → Tree → Result Label Reply → Type 0
IsPlaceToReplace p c f t place = placed_instead c f t place ≡ replace p c f t
