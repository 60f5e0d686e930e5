-- The list behind the turn, and what a pass knows of it.
use Rattle.std.specs.Prelude.{◌≡◌, ℕ, ◌<◌, Bool, true, false, List, [], ◌∷◌, ◌++◌, ◌||◌, length, slice_index_or, slice_set, replicate, if◌then◌else◌, nat_lt, Option, Some, None}
use Rattle.atomic_table.specs.Seated.{TableId}

-- the numbers are the places at which the list has true
abbrev pub has_number : List Bool → ℕ → Bool
has_number has n = slice_index_or has n false

abbrev pub is_own : List Bool → Option ℕ → Bool
is_own has None = false
is_own has (Some n) = has_number has n

abbrev pub is_own_or_none : List Bool → Option ℕ → Bool
is_own_or_none has None = true
is_own_or_none has (Some n) = has_number has n

-- some number is there
abbrev pub HasSome : List Bool → Type 0
HasSome has = (n : ℕ) × (has_number has n ≡ true)

-- every number from 0 to 64 is there
abbrev pub HasAll : List Bool → Type 0
HasAll has = (n : ℕ) → n < 65 → has_number has n ≡ true

-- the numbers of both
abbrev pub merged : List Bool → List Bool → List Bool
merged [] b = b
merged (x ∷ xs) [] = x ∷ xs
merged (x ∷ xs) (y ∷ ys) = (x || y) ∷ merged xs ys

abbrev pub no_numbers : List Bool
no_numbers = replicate 65 false

abbrev pub all_numbers : List Bool
all_numbers = replicate 65 true

abbrev pub only_number : ℕ → List Bool
only_number n = slice_set no_numbers n true

module _ {E : Type 0} where
  abbrev pub longer : List E → List E → List E
  longer xs ys = if nat_lt (length xs) (length ys) then ys else xs

module _ {E : Type 0} (number : E → Option ℕ) where
  -- no entry has one of these numbers
  abbrev pub AreForeign : List Bool → List E → Type 0
  AreForeign has [] = Unit {0}
  AreForeign has (e ∷ es) = (is_own has (number e) ≡ false) × AreForeign has es

  -- each entry has one of these numbers or none
  abbrev pub AreOwn : List Bool → List E → Type 0
  AreOwn has [] = Unit {0}
  AreOwn has (e ∷ es) = (is_own_or_none has (number e) ≡ true) × AreOwn has es

  -- the list begins with what was seen, and no later entry has one of these numbers
  abbrev pub GoesOn : List Bool → List E → List E → Type 0
  GoesOn has seen list = (rest : List E) × (list ≡ seen ++ rest) × AreForeign has rest

  -- the list begins with what was seen, and each later entry has one of these numbers or none
  abbrev pub GrewBy : List Bool → List E → List E → Type 0
  GrewBy has seen list = (added : List E) × (list ≡ seen ++ added) × AreOwn has added

-- A pass as contracts see it: the lock that it belongs to, the entries that it has seen, its numbers, and whether it holds the turn
pub record PassView (E : Type 0) : Type 0 where
  pub lock : TableId
  pub seen : List E
  pub has : List Bool
  pub turn : Bool

module _ {E : Type 0} where
  -- the first pass of a lock, of a value with these entries
  abbrev pub first_pass : TableId → List E → PassView E
  first_pass lock seen = record { lock = lock; seen = seen; has = all_numbers; turn = false }

  abbrev pub having_seen : List E → PassView E → PassView E
  having_seen seen p = record { lock = p.lock; seen = seen; has = p.has; turn = p.turn }

  abbrev pub having_numbers : List Bool → PassView E → PassView E
  having_numbers has p = record { lock = p.lock; seen = p.seen; has = has; turn = p.turn }

  abbrev pub having_turn : Bool → PassView E → PassView E
  having_turn turn p = record { lock = p.lock; seen = p.seen; has = p.has; turn = turn }
