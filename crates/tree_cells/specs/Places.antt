-- Where a request stands to a cell: at its label, above it, at its parent, at its name or side.
use Rattle.std.specs.Prelude.{Bool, true, false}
use Rattle.dewey_labels.specs.Labels.{Label, is_child}
use Rattle.dewey_labels.specs.Sides.{side, is_in, is_under}
use Rattle.lock_resources.specs.declared.resource.Side.{Side}
use Rattle.lock_resources.specs.declared.resource.Side.TheVariants.{First, Last, Next, Prev}
use Rattle.tree_model.specs.Names.{Name}
use Rattle.tree_model.specs.ValidTrees.{same_label}

-- a is l
abbrev pub is_at : Label → Label → Bool
is_at a l = same_label a l

-- a is above l
abbrev pub is_above : Label → Label → Bool
is_above a l = is_under (side a l)

-- a is l or above it
abbrev pub is_at_or_above : Label → Label → Bool
is_at_or_above a l = is_in (side a l)

-- a is the parent of l
abbrev pub is_parent : Label → Label → Bool
is_parent a l = is_child a l

-- two names are one
abbrev pub same_name : Name → Name → Bool
same_name n m = same_label n m

-- two sides are one
abbrev pub same_side : Side → Side → Bool
same_side First First = true
same_side Last Last = true
same_side Next Next = true
same_side Prev Prev = true
same_side r s = false

-- a is the node to whose row of children an edge of l belongs: l itself for its first and last child, its parent for its neighbours
abbrev pub has_row_of : Side → Label → Label → Bool
has_row_of First l a = is_at a l
has_row_of Last l a = is_at a l
has_row_of Next l a = is_parent a l
has_row_of Prev l a = is_parent a l
