-- Where the transactions of sessions have found nothing.
use Rattle.std.specs.Prelude.{ℕ, ◌==◌, ◌++◌, cond, List, [], ◌∷◌, Option, Some, None}
use Rattle.std.specs.Ordering.{nat_cmp}
use Rattle.std.specs.BTreeMap.{get}
use Rattle.tree_model.specs.declared.change.Change.{Change}
use Rattle.tree_model.specs.Entries.{Entries}
use Rattle.overlays.specs.Stretches.{AreWithin}
use Rattle.overlays.specs.Views.{AreEmptyIn, contents_seen}
use Rattle.overlays.specs.declared.gaps.Stretch.{Stretch}
use Rattle.tx_core.specs.declared.parts.Parts.{Parts}
use Rattle.tx_core.specs.declared.parts.Passed.{Passed}
use Rattle.tx_core.specs.declared.parts.Seat.{Seat}
use Rattle.tx_core.specs.inside.Standing.{seat_in}

-- the stretches that are kept of a session
abbrev pub stretches_of : List Passed → ℕ → List Stretch
stretches_of [] s = []
stretches_of (p ∷ ps) s = cond (p.session == s) (p.gaps ++ stretches_of ps s) (stretches_of ps s)

-- those of a session, where these are added to what is kept of one
abbrev pub stretches_with : List Passed → ℕ → List Stretch → ℕ → List Stretch
stretches_with ps session gaps s = cond (session == s) (gaps ++ stretches_of ps s) (stretches_of ps s)

-- of no session more is kept than before
abbrev pub KeepFewer : List Passed → List Passed → Type 0
KeepFewer new old = (s : ℕ) → AreWithin (stretches_of new s) (stretches_of old s)

-- what a transaction has changed, if there is one
abbrev pub own_in : Option Seat → List Change
own_in None = []
own_in (Some seat) = seat.own

-- the map that a session sees: its transaction's, and else what is committed
abbrev pub seen_at : {C B : Type 0} → (B → Option Entries) → Parts C B → ℕ → Option Entries
seen_at told p s = contents_seen (own_in (seat_in (get nat_cmp p.places s))) p.layers.changes (told p.base)

-- what is kept of each session is empty in the map that it sees
abbrev pub ArePassed : {C B : Type 0} → (B → Option Entries) → Parts C B → Type 0
ArePassed told p = (s : ℕ) → AreEmptyIn (stretches_of p.passed.items s) (seen_at told p s)
