-- A text split: where the new one stands, and what changes.
use Rattle.std.specs.Prelude.{ℕ, List, [], ◌∷◌, ◌++◌, Option, Some}
use Rattle.dewey_labels.specs.Labels.{Label, parent}
use Rattle.dewey_labels.specs.NewLabels.{new_label}
use Rattle.tree_model.specs.Changes.{put_change}
use Rattle.tree_model.specs.Keys.{node_key}
use Rattle.tree_model.specs.Tree.{Tree, at, next_of}
use Rattle.tree_model.specs.declared.change.Change.{Change}
use Rattle.tree_model.specs.declared.record.Record.TheVariants.{Text}
use Rattle.dom_writes.specs.inside.TextsSet.{text_change}

-- the label of a new node behind the node that has the label; none where it would pass a limit
abbrev pub label_behind : Label → Tree → Option Label
label_behind l t = new_label (parent l) (Some l) (next_of (at l t.documents))

-- a text keeps its left part, and a new one gets the right part
abbrev pub split_changes : Label → List ℕ → List ℕ → Label → List ℕ → List Change
split_changes l d before new behind = text_change l d before ++ (put_change (node_key new, Text behind) ∷ [])
