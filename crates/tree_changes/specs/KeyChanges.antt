-- Changes of a map that change it: another record stands at the key then, or none.
use Rattle.std.specs.Prelude.{Bool, List, [], ◌∷◌, filter, is_some, Option, Some, None}
use Rattle.tree_model.specs.declared.change.Change.{Change}
use Rattle.tree_model.specs.declared.key.Key.{Key}
use Rattle.tree_model.specs.declared.record.Record.{Record}
use Rattle.tree_model.specs.Entries.{Entries, get}
use Rattle.tree_model.specs.Changes.{difference}

-- whether the change makes a difference to the map
abbrev pub differs : Entries → Change → Bool
differs es c = is_some (difference (get c.key es) c.now)

-- those of the changes that do
abbrev pub that_differ : Entries → List Change → List Change
that_differ es cs = filter (differs es) cs

-- a change of a key, unless there is none to tell
abbrev pub as_change : Key → Option (Option Record) → List Change
as_change k None = []
as_change k (Some now) = record { key = k; now = now } ∷ []

-- the change of a key at which one record stood before and another stands now, each of which may be missing; none where they are one
abbrev pub change_at : Key → Option Record → Option Record → List Change
change_at k before now = as_change k (difference before now)
