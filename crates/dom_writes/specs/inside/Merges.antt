-- A merge of two lists of entries: where the one stands when an entry of the other comes.
use Rattle.std.specs.Prelude.{◌≡◌, false, cond, List, [], ◌∷◌, ◌++◌, map}
use Rattle.std.specs.Ordering.{is_lt}
use Rattle.tree_model.specs.Changes.{drop_change, put_unless, stands}
use Rattle.tree_model.specs.Entries.{Entries, entries_below, get}
use Rattle.tree_model.specs.Keys.{key_cmp}
use Rattle.tree_model.specs.declared.change.Change.{Change}
use Rattle.tree_model.specs.declared.key.Key.{Key}
use Rattle.tree_model.specs.declared.record.Record.{Record}

-- the entries from the first on that isn't below the key
abbrev pub not_below : Key → Entries → Entries
not_below k [] = []
not_below k (e ∷ es) = cond (is_lt (key_cmp e.0 k)) (not_below k es) (e ∷ es)

-- the first entry isn't below the key
abbrev pub BeginsAt : Key → Entries → Type 0
BeginsAt k [] = Unit {0}
BeginsAt k (e ∷ es) = is_lt (key_cmp e.0 k) ≡ false

-- the changes up to the key of an entry that comes: what lies below the key goes, and the entry is put unless it stands there
abbrev pub up_to : Key × Record → Entries → List Change
up_to x es = map drop_change (entries_below x.0 es) ++ put_unless (stands x.1 (get x.0 es)) x
