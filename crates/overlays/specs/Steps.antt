-- How many steps a read makes over deletions, and what it notes of them.
use Rattle.std.specs.Prelude.{◌≡◌, ℕ, ◌+◌, ◌≤◌, ◌⊎◌, not, is_none, ◌&&◌, cond, true, false, List, [], ◌∷◌, Option, Some, None, IfSome, option_map}
use Rattle.std.specs.Ordering.{is_lt}
use Rattle.tree_model.specs.Changes.{now_at, laid}
use Rattle.tree_model.specs.Entries.{Entries}
use Rattle.tree_model.specs.declared.change.Change.{Change}
use Rattle.tree_model.specs.declared.key.Key.{Key}
use Rattle.tree_model.specs.declared.record.Record.{Record}
use Rattle.overlays.specs.declared.direction.Direction.{Direction}
use Rattle.overlays.specs.declared.direction.Direction.TheVariants.{Up, Down}
use Rattle.overlays.specs.declared.gaps.Stretch.{Stretch}
use Rattle.overlays.specs.Directions.{cmp_toward, Ahead}
use Rattle.overlays.specs.Layered.{Layered, Stack}
use Rattle.overlays.specs.Stretches.{is_covered}
use Rattle.overlays.specs.Views.{IfKnown}

-- the end of a stretch that lies ahead
abbrev pub end_toward : Direction → Stretch → Key
end_toward Up s = s.last
end_toward Down s = s.first

-- how many deletions lie ahead of a key in none of the stretches
abbrev pub open_ahead : Direction → Key → List Stretch → List Change → ℕ
open_ahead w k ss [] = 0
open_ahead w k ss (c ∷ cs) = cond (is_none c.now && (is_lt (cmp_toward w k c.key) && not (is_covered ss c.key))) 1 0 + open_ahead w k ss cs

-- how many of the stretches end ahead of a key
abbrev pub ends_ahead : Direction → Key → List Stretch → ℕ
ends_ahead w k [] = 0
ends_ahead w k (s ∷ ss) = cond (is_lt (cmp_toward w k (end_toward w s))) 1 0 + ends_ahead w k ss

-- so many steps a walk from the key makes over deletions, at most
abbrev pub most_steps : Direction → Key → List Stretch → List Change → ℕ
most_steps w k ss cs = open_ahead w k ss cs + ends_ahead w k ss

-- each deletion between a key and the one that was found, or the end where there is none, that lay in none of the stretches before lies in one now
abbrev pub NoneOpen : Direction → Key → Option Key → List Change → List Stretch → List Stretch → Type 0
NoneOpen w k found cs ss new = (j : Key) → Ahead w k j → IfSome found (Ahead w j) → now_at j cs ≡ Some None → is_covered ss j ≡ false → is_covered new j ≡ true

-- the key of an entry that was found
abbrev pub key_found : Option (Key × Record) → Option Key
key_found found = option_map (λ e. e.0) found

-- over a known base, a read from the key to the one that it found asked six times at most, or leaves no deletion between them open
abbrev pub IsNoted : {B : Type 0} → (B → Option Entries) → (B → ℕ) → B → B → Direction → Key → List Change → Layered → List Stretch → List Stretch → Option Key → Type 0
IsNoted contents reads base after w k own layers ss new found =
    IfKnown (contents base) (λ es. (reads after ≤ reads base + 6) ⊎ NoneOpen w k found (laid own layers.changes) ss new)

-- so it is of a read of a stack
abbrev pub IsNotedInStack : {B : Type 0} → (B → Option Entries) → (B → ℕ) → Stack B → Stack B → Direction → Key → Option Key → Type 0
IsNotedInStack contents reads s t w k found = IsNoted contents reads s.base t.base w k [] s.layers s.gaps t.gaps found
