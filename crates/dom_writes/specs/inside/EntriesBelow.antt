-- The entries below a node among those of its subtree.
use Rattle.std.specs.Prelude.{Bool, filter, not}
use Rattle.dewey_labels.specs.Labels.{Label}
use Rattle.tree_model.specs.Entries.{Entries}
use Rattle.tree_model.specs.ValidTrees.{same_label}
use Rattle.tree_model.specs.declared.key.Key.{Key}
use Rattle.tree_model.specs.declared.record.Record.{Record}

-- the entry is none of the node's own, which are its record's and its attributes'
abbrev pub is_other : Label → Key × Record → Bool
is_other l e = not (same_label e.0.label l)

abbrev pub without_own : Label → Entries → Entries
without_own l es = filter (is_other l) es
