-- Entries above a key, told by the first one.
use Rattle.std.specs.Prelude.{Bool, true, [], ◌∷◌}
use Rattle.std.specs.Ordering.{is_lt}
use Rattle.tree_model.specs.Entries.{Entries}
use Rattle.tree_model.specs.Keys.{key_cmp}
use Rattle.tree_model.specs.declared.key.Key.{Key}

-- the first entry, if there is one, lies above the key
abbrev pub is_head_above : Key → Entries → Bool
is_head_above k [] = true
is_head_above k (e ∷ es) = is_lt (key_cmp k e.0)
