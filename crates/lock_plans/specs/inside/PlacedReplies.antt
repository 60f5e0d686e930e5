-- The label that a reply places.
use Rattle.std.specs.Prelude.{Option, None}
use Rattle.dewey_labels.specs.Labels.{Label}
use Rattle.tree_model.specs.declared.reply.Reply.{Reply}
use Rattle.tree_model.specs.declared.reply.Reply.TheVariants.{Place}

-- a place's label, or none
abbrev pub placed_label : Reply → Option Label
placed_label (Place o) = o
placed_label reply = None
