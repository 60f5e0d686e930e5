-- A walk upwards over a map, one entry after another: what is still to come, and how many steps at most.
use Rattle.std.specs.Prelude.{◌≡◌, ℕ, ◌+◌, ◌<◌, [], ◌∷◌, length, Option, Some, None, IfSome}
use Rattle.std.specs.List.{cons_option}
use Rattle.tree_model.specs.declared.key.Key.{Key}
use Rattle.tree_model.specs.declared.record.Record.{Record}
use Rattle.tree_model.specs.Entries.{Entries, entries_above}
use Rattle.node_seq.specs.Reads.{IsEntryOfTrees}
use Rattle.node_seq.specs.inside.Ranks.{keys_left}

-- an entry and all above it; none where there is none
abbrev pub from_entry : Option (Key × Record) → Entries → Entries
from_entry None es = []
from_entry (Some e) es = e ∷ entries_above e.0 es

-- of steps upwards from a key: the entries above it where the map is known, the valid keys above it where it isn't
abbrev pub left_above : Option Entries → Key → ℕ
left_above None k = keys_left k
left_above (Some es) k = length (entries_above k es) + 1

-- how many steps a walk that stands before this entry may still take, at most
abbrev pub steps_left : Option Entries → Option (Key × Record) → ℕ
steps_left contents None = 0
steps_left contents (Some e) = left_above contents e.0

-- a walk that stood before the entry `old` has answered it, and stands before the entry `new`
pub record HasStepped (contents : Option Entries) (old new found : Option (Key × Record)) : Type 0 where
  pub entry : found ≡ old
  pub rest : (es : Entries) → contents ≡ Some es → from_entry old es ≡ cons_option found (from_entry new es)
  pub valid : contents ≡ None → IsEntryOfTrees new
  pub shorter : IfSome found (λ e. steps_left contents new < steps_left contents old)
