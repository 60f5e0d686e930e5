-- A pass over records and changes with rising keys, which takes to a tester what the changes make of the records.
use Rattle.std.specs.Prelude.{◌≡◌, Bool, true, false, List, [], ◌∷◌, ◌++◌, Option, Some, None}
use Rattle.std.specs.List.{AllByRecursion}
use Rattle.std.specs.Ordering.{is_lt, is_eq}
use Rattle.tree_model.specs.Entries.{Entries, Above, Sorted, changed}
use Rattle.tree_model.specs.Keys.{key_cmp}
use Rattle.tree_model.specs.declared.change.Change.{Change}
use Rattle.tree_model.specs.declared.key.Key.{Key}
use Rattle.tree_model.specs.declared.record.Record.{Record}
use Rattle.tree_rules.specs.Testing.{HasTaken}
use Rattle.tree_rules.specs.declared.tester.Tester.{Tester}

-- a key comes before a limit; each does where there is none
abbrev pub comes_before : Key → Option Key → Bool
comes_before k None = true
comes_before k (Some limit) = is_lt (key_cmp k limit)

-- these entries stand above each key that comes before the limit
abbrev pub AreBehind : Option Key → Entries → Type 0
AreBehind limit es = (k : Key) → comes_before k limit ≡ true → AllByRecursion (Above k) es

-- the changes begin with none of a key before the limit
abbrev pub NoneBefore : Option Key → List Change → Type 0
NoneBefore limit [] = Unit {0}
NoneBefore limit (c ∷ cs) = comes_before c.key limit ≡ false

-- the changes begin with one of this key
abbrev pub begins_at : List Change → Key → Bool
begins_at [] k = false
begins_at (c ∷ cs) k = is_eq (key_cmp c.key k)

-- the entry of a key at which a record stands, or none does
abbrev pub standing : Key → Option Record → Entries
standing k None = []
standing k (Some r) = (k, r) ∷ []

-- behind these entries the tester has taken what the changes put that aren't left; they came before the limit
pub record HasMade (limit : Option Key) (changes left : List Change) (taken : Entries) (t : Tester) : Type 0 where
  pub made : Entries
  pub has : HasTaken t made
  pub all : (es : Entries) → AreBehind limit es → made ++ changed left es ≡ taken ++ changed changes es

-- the same of a record too, and the changes up to its key
pub record HasMerged (entry : Key × Record) (changes left : List Change) (taken : Entries) (t : Tester) : Type 0 where
  pub made : Entries
  pub has : HasTaken t made
  pub all : (es : Entries) → Sorted (entry ∷ es) → made ++ changed left es ≡ taken ++ changed changes (entry ∷ es)
