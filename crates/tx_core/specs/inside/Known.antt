-- A reply that is known once a call's requests are.
use Rattle.std.specs.Prelude.{ℕ, Option, Some, None, IfSome}
use Rattle.std.specs.Ordering.{nat_cmp}
use Rattle.std.specs.BTreeMap.{get}
use Rattle.tree_model.specs.Entries.{Entries}
use Rattle.tree_model.specs.Tree.{Tree}
use Rattle.tree_model.specs.declared.reply.Reply.{Reply}
use Rattle.node_seq.specs.Trees.{StandsFor}
use Rattle.overlays.specs.Views.{contents_after}
use Rattle.call_contract.specs.Calls.{CallMeaning, OnlyAnswers}
use Rattle.tx_core.specs.declared.parts.Parts.{Parts}
use Rattle.tx_core.specs.declared.parts.Seat.{Seat}
use Rattle.tx_core.specs.inside.Standing.{seat_in}

-- what is seen from a seat over what was committed
abbrev pub seen_from : Option Seat → Option Entries → Option Entries
seen_from None committed = None
seen_from (Some seat) committed = contents_after seat.own committed

-- the map that a session's transaction sees
abbrev pub seen_by : {C B : Type 0} → (B → Option Entries) → Parts C B → ℕ → Option Entries
seen_by told p s = seen_from (seat_in (get nat_cmp p.places s)) (contents_after p.layers.changes (told p.base))

-- a valid call is answered this on the tree that is seen, and changes nothing
abbrev pub IsKnown : {C : Type 0} → (C → Type 0) → CallMeaning C → Option Entries → C → Option Reply → Type 0
IsKnown is_valid m seen c known = IfSome known (λ answer. is_valid c × ((t : Tree) → StandsFor seen t → OnlyAnswers m c t answer))
