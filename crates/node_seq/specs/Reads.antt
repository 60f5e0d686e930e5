-- What a read of a map answers: of the map where it is known, and in any case (docs/PROFILE.md, "Known or not").
use Rattle.std.specs.Prelude.{◌≡◌, Option, Some, Result, IfOk, IfSome, IsTrue, option_map}
use Rattle.tree_model.specs.declared.key.Key.{Key}
use Rattle.tree_model.specs.declared.record.Record.{Record}
use Rattle.std.specs.declared.cmp.Ordering.TheVariants.{Less}
use Rattle.tree_model.specs.Keys.{IsValidKey, key_cmp}
use Rattle.tree_model.specs.Records.{record_fits}
use Rattle.tree_model.specs.Entries.{Entries, Above, Below, first_above, last_below}

-- where the map is known, the result is what is found in it
abbrev pub Finds : {A E : Type 0} → Option Entries → Result A E → (Entries → A) → Type 0
Finds contents result answer = IfOk result (λ found. (es : Entries) → contents ≡ Some es → found ≡ answer es)

-- what is found lies above the key
abbrev pub LiesAbove : Key → Option (Key × Record) → Type 0
LiesAbove k found = IfSome found (Above k)

-- what is found lies below the key
abbrev pub LiesBelow : Key → Option (Key × Record) → Type 0
LiesBelow k found = IfSome found (Below k)

-- an entry that a valid tree may have: a valid key, and a record within the limits
abbrev pub IsValidEntry : Key × Record → Type 0
IsValidEntry e = IsValidKey e.0 × IsTrue (record_fits e.1)

-- the entry that is found is one that a valid tree may have
abbrev pub IsEntryOfTrees : Option (Key × Record) → Type 0
IsEntryOfTrees found = IfSome found IsValidEntry

-- the record that is found is one that a valid tree may have
abbrev pub IsRecordOfTrees : Option Record → Type 0
IsRecordOfTrees found = IfSome found (λ r. IsTrue (record_fits r))

-- the least key above a key, without its record
abbrev pub key_above : Key → Entries → Option Key
key_above k es = option_map (λ e. e.0) (first_above k es)

-- the greatest key below a key, without its record
abbrev pub key_below : Key → Entries → Option Key
key_below k es = option_map (λ e. e.0) (last_below k es)

-- the key that is found lies above the key
abbrev pub IsKeyAbove : Key → Option Key → Type 0
IsKeyAbove k found = IfSome found (λ j. key_cmp k j ≡ Less)

-- the key that is found lies below the key
abbrev pub IsKeyBelow : Key → Option Key → Type 0
IsKeyBelow k found = IfSome found (λ j. key_cmp j k ≡ Less)

-- the key that is found is one that a valid tree may have
abbrev pub IsKeyOfTrees : Option Key → Type 0
IsKeyOfTrees found = IfSome found IsValidKey
