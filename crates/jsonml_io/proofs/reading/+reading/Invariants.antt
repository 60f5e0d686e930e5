use Rattle.std.proofs.Common.{◌≡◌, ◌+◌, ◌*◌, ◌<◌, ◌^◌}
use Rattle.std.specs.Vec.Iter.{into_iter_items, into_iter_len}
use Rattle.serde_json.specs.View.{items_view}
use Rattle.jsonml_io.specs.JsonMl.{children, behind}
use Rattle.jsonml_io.specs.inside.Rows.{AreValid}
use Rattle.jsonml_io.proofs.reading.+reading.Given as goal

-- An array's items stand one level deeper than it; on one level the functions call each other in this order.
abbrev pub decreases-element : goal.decreases-element
decreases-element l = 8 * l.left + 5

abbrev pub decreases-named : goal.decreases-named
decreases-named l = 8 * l.left + 4

abbrev pub decreases-content : goal.decreases-content
decreases-content l = 8 * l.left + 3

abbrev pub decreases-children_behind : goal.decreases-children_behind
decreases-children_behind l = 8 * l.left + 2

abbrev pub decreases-child_at : goal.decreases-child_at
decreases-child_at l = 8 * l.left + 1

abbrev pub decreases-fragment_at : goal.decreases-fragment_at
decreases-fragment_at l = 8 * l.left

-- the children so far and those of the items left are all children
abbrev pub invariant-children_behind-loop-item : goal.invariant-children_behind-loop-item
invariant-children_behind-loop-item l =
    (goal.iterator-children_behind-loop-item).can_next l.item-iterator
    × (goal.iterator-children_behind-loop-item).is_finite l.item-iterator
    × AreValid l.front
    × (l.index + into_iter_len l.item-iterator < 2 ^ 64)
    × (behind l.fn.front (children l.left l.fn.first (items_view (into_iter_items l.fn.items))) ≡ behind l.front (children l.left l.index (items_view (into_iter_items l.item-iterator))))
