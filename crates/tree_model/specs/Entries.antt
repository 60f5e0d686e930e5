-- A finite map from keys to records as the list of its entries, in the order of the keys.
use Rattle.std.specs.Prelude.{◌≡◌, cond, List, [], ◌∷◌, filter, Option, Some, None}
use Rattle.std.specs.List.{AllByRecursion}
use Rattle.std.specs.declared.cmp.Ordering.TheVariants.{Less}
use Rattle.std.specs.Option.{option_or}
use Rattle.std.specs.Ordering.{is_lt, is_eq}
use Rattle.tree_model.specs.Keys.{key_cmp}
use Rattle.tree_model.specs.Orders.{by_order}
use Rattle.tree_model.specs.declared.change.Change.{Change}
use Rattle.tree_model.specs.declared.key.Key.{Key}
use Rattle.tree_model.specs.declared.record.Record.{Record}

abbrev pub Entries : Type 0
Entries = List (Key × Record)

-- the entry lies below the key
abbrev pub Below : Key → Key × Record → Type 0
Below k e = key_cmp e.0 k ≡ Less

-- the entry lies above the key
abbrev pub Above : Key → Key × Record → Type 0
Above k e = key_cmp k e.0 ≡ Less

-- keys rise strictly: all that stands behind an entry lies above it
abbrev pub Sorted : Entries → Type 0
Sorted [] = Unit {0}
Sorted (e ∷ es) = AllByRecursion (Above e.0) es × Sorted es

-- the record at a key
abbrev pub get : Key → Entries → Option Record
get k [] = None
get k (e ∷ es) = cond (is_eq (key_cmp k e.0)) (Some e.1) (get k es)

-- the entry with the least key above a key
abbrev pub first_above : Key → Entries → Option (Key × Record)
first_above k [] = None
first_above k (e ∷ es) = cond (is_lt (key_cmp k e.0)) (Some e) (first_above k es)

-- the entry with the greatest key below a key
abbrev pub last_below : Key → Entries → Option (Key × Record)
last_below k [] = None
last_below k (e ∷ es) = option_or (last_below k es) (cond (is_lt (key_cmp e.0 k)) (Some e) None)

-- the entries below a key
abbrev pub entries_below : Key → Entries → Entries
entries_below k es = filter (λ e. is_lt (key_cmp e.0 k)) es

-- the entries above a key
abbrev pub entries_above : Key → Entries → Entries
entries_above k es = filter (λ e. is_lt (key_cmp k e.0)) es

-- the map with this entry, in place of the one with its key if there is one
abbrev pub put : Key × Record → Entries → Entries
put x [] = x ∷ []
put x (e ∷ es) = by_order (key_cmp x.0 e.0) (x ∷ e ∷ es) (x ∷ es) (e ∷ put x es)

-- the map without a key
abbrev pub del : Key → Entries → Entries
del k [] = []
del k (e ∷ es) = by_order (key_cmp k e.0) (e ∷ es) es (e ∷ del k es)

-- the map with a record at a key, or with none there
abbrev pub set : Key → Option Record → Entries → Entries
set k None es = del k es
set k (Some r) es = put (k, r) es

-- the map after changes, one after another
abbrev pub changed : List Change → Entries → Entries
changed [] es = es
changed (c ∷ cs) es = changed cs (set c.key c.now es)

-- the map after the puts of entries, one after another
abbrev pub put_all : Entries → Entries → Entries
put_all [] es = es
put_all (x ∷ xs) es = put_all xs (put x es)
