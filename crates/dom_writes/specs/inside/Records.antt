-- Records at a key, before a call and after it.
use Rattle.std.specs.Prelude.{Bool, not, Option, is_some}
use Rattle.tree_model.specs.declared.record.Record.{Record}
use Rattle.tree_model.specs.Changes.{difference}

-- one record stands there before and after, or none
abbrev pub are_one : Option Record → Option Record → Bool
are_one before now = not (is_some (difference before now))
