-- What the reads of a view say of the view before and after.
use Rattle.std.specs.Prelude.{◌≡◌, List, Option}
use Rattle.node_seq.specs.declared.node_read.NodeRead.{Ghosts}
use Rattle.overlays.specs.Steps.{IsNoted}
use Rattle.overlays.specs.Views.{contents_seen}
use Rattle.overlays.specs.declared.direction.Direction.{Direction}
use Rattle.overlays.specs.declared.view.View.{View}
use Rattle.tree_model.specs.Changes.{laid}
use Rattle.tree_model.specs.Entries.{Entries}
use Rattle.tree_model.specs.declared.change.Change.{Change}
use Rattle.tree_model.specs.declared.key.Key.{Key}

-- all changes of the view: a transaction's own laid over those of the layers
abbrev pub changes_in_view : {S : Type 0} {g : Ghosts S} → View S g → List Change
changes_in_view v = laid v.own.now v.layers.now.changes

-- the map that is seen, where the base is known
abbrev pub map_in_view : {S : Type 0} {g : Ghosts S} → View S g → Option Entries
map_in_view {S} {g} v = contents_seen v.own.now v.layers.now.changes (g.contents v.base.now)

-- the base is unchanged, the layers and the overlay are what they were, and what the view has borrowed to change is the same
abbrev pub IsSameView : {S : Type 0} {g : Ghosts S} → View S g → View S g → Type 0
IsSameView {S} {g} v w =
    g.unchanged v.base.now w.base.now × (v.layers.now ≡ w.layers.now) × (v.own.now ≡ w.own.now)
    × (v.base.ghost_name ≡ w.base.ghost_name) × (v.gaps.ghost_name ≡ w.gaps.ghost_name)

-- a read of the view to the side of a key made few reads of the base, or noted what it passed
abbrev pub IsNotedInView : {S : Type 0} {g : Ghosts S} → View S g → View S g → Direction → Key → Option Key → Type 0
IsNotedInView {S} {g} v w d k found =
    IsNoted g.contents g.reads v.base.now w.base.now d k v.own.now v.layers.now v.gaps.now w.gaps.now found
