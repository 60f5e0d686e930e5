-- Changes of a map: lists with rising keys, and the one that leads from a map to another.
use Rattle.std.specs.Prelude.{◌≡◌, Bool, true, false, ◌&&◌, cond, List, [], ◌∷◌, ◌++◌, map, Option, Some, None}
use Rattle.std.specs.List.{AllByRecursion}
use Rattle.std.specs.Ordering.{is_lt, is_eq}
use Rattle.std.specs.Str.{bytes_eq}
use Rattle.std.specs.declared.cmp.Ordering.TheVariants.{Less}
use Rattle.tree_model.specs.Entries.{Entries, get, entries_below, entries_above}
use Rattle.tree_model.specs.Keys.{key_cmp}
use Rattle.tree_model.specs.Orders.{by_order}
use Rattle.tree_model.specs.declared.change.Change.{Change}
use Rattle.tree_model.specs.declared.key.Key.{Key}
use Rattle.tree_model.specs.declared.record.Record.{Record}
use Rattle.tree_model.specs.declared.record.Record.TheVariants.{Document, Element, Text, Attr}

-- ---- rising keys

-- whether keys rise strictly, the first above k
abbrev pub rise_above : Key → List Change → Bool
rise_above k [] = true
rise_above k (c ∷ cs) = is_lt (key_cmp k c.key) && rise_above c.key cs

-- whether keys rise strictly
abbrev pub keys_rise : List Change → Bool
keys_rise [] = true
keys_rise (c ∷ cs) = rise_above c.key cs

-- the change is of a later key
abbrev pub IsBehind : Key → Change → Type 0
IsBehind k c = key_cmp k c.key ≡ Less

-- the change is of an earlier key
abbrev pub IsEarlier : Key → Change → Type 0
IsEarlier k c = key_cmp c.key k ≡ Less

-- keys rise strictly: each change is of a later key than all before it
abbrev pub Rising : List Change → Type 0
Rising [] = Unit {0}
Rising (c ∷ cs) = AllByRecursion (IsBehind c.key) cs × Rising cs

-- what the changes say of a key: nothing, or what stands there now
abbrev pub now_at : Key → List Change → Option (Option Record)
now_at k [] = None
now_at k (c ∷ cs) = cond (is_eq (key_cmp k c.key)) (Some c.now) (now_at k cs)

-- what stands at a key after changes: what they say, or else what stood there
abbrev pub seen : Option (Option Record) → Option Record → Option Record
seen None before = before
seen (Some now) before = now

-- the changes with this one, in place of the one of its key if there is one
abbrev pub with_change : Change → List Change → List Change
with_change c [] = c ∷ []
with_change c (d ∷ ds) = by_order (key_cmp c.key d.key) (c ∷ d ∷ ds) (c ∷ ds) (d ∷ with_change c ds)

-- the lower changes with the upper ones laid over them
abbrev pub laid : List Change → List Change → List Change
laid [] lower = lower
laid (c ∷ upper) lower = laid upper (with_change c lower)

-- ---- what changes one map into another

-- an entry that is put, as a change
abbrev pub put_change : Key × Record → Change
put_change e = record { key = e.0; now = Some e.1 }

-- an entry that is deleted, as a change
abbrev pub drop_change : Key × Record → Change
drop_change e = record { key = e.0; now = None }

-- whether two records are one
abbrev pub same_record : Record → Record → Bool
same_record Document Document = true
same_record (Element m) (Element n) = bytes_eq m n
same_record (Text d) (Text e) = bytes_eq d e
same_record (Attr v) (Attr w) = bytes_eq v w
same_record r q = false

-- whether a record stands at a key, o being what does
abbrev pub stands : Record → Option Record → Bool
stands r None = false
stands r (Some q) = same_record r q

-- what a change of a key says where this stood there before and that does after; nothing where they are the same
abbrev pub difference : Option Record → Option Record → Option (Option Record)
difference None None = None
difference (Some q) None = Some None
difference o (Some r) = cond (stands r o) None (Some (Some r))

-- an entry is put unless it stands there
abbrev pub put_unless : Bool → Key × Record → List Change
put_unless true x = []
put_unless false x = put_change x ∷ []

-- from one map to another: one change for each key whose record differs, keys rising, and no other
abbrev pub differences : Entries → Entries → List Change
differences es [] = map drop_change es
differences es (x ∷ xs) = map drop_change (entries_below x.0 es) ++ (put_unless (stands x.1 (get x.0 es)) x ++ differences (entries_above x.0 es) xs)
