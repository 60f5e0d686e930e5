-- Where a key stands in a sorted list of entries.
use Rattle.std.specs.Prelude.{◌≡◌, ℕ, zero, suc, ◌<◌, ◌≤◌, ◌∷◌, ◌++◌, length, take, drop, HoldsAt, slice_get, Option, None}
use Rattle.std.specs.List.{AllByRecursion}
use Rattle.tree_model.specs.declared.key.Key.{Key}
use Rattle.tree_model.specs.declared.record.Record.{Record}
use Rattle.tree_model.specs.Entries.{Entries, Above, Below}

-- the key stands at index i, with a record
pub record StandsAt (es : Entries) (k : Key) (i : ℕ) : Type 0 where
  pub value : Record
  pub within : i < length es
  pub here : HoldsAt (λ e. e ≡ (k, value)) es i
  pub whole : es ≡ take i es ++ ((k, value) ∷ drop (suc i) es)
  pub below : AllByRecursion (Below k) (take i es)
  pub above : AllByRecursion (Above k) (drop (suc i) es)

-- the key doesn't stand in the list, and belongs before index i
pub record BelongsAt (es : Entries) (k : Key) (i : ℕ) : Type 0 where
  pub within : i ≤ length es
  pub below : AllByRecursion (Below k) (take i es)
  pub above : AllByRecursion (Above k) (drop i es)

-- the entry before index i
abbrev pub before : Entries → ℕ → Option (Key × Record)
before es zero = None
before es (suc m) = slice_get es m
