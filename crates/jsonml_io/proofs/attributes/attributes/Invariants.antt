use Rattle.std.proofs.Common.{◌≡◌}
use Rattle.serde_json.specs.View.{members_view}
use Rattle.tree_model.specs.ValidTrees.{ValuesFit}
use Rattle.jsonml_io.specs.JsonMl.{attributes, behind}
use Rattle.jsonml_io.proofs.attributes.attributes.Given as goal

-- the attributes so far and those of the members left are those of all
abbrev pub invariant-loop-name : goal.invariant-loop-name
invariant-loop-name l =
    (goal.iterator-loop-name).can_next l.name-iterator
    × (goal.iterator-loop-name).is_finite l.name-iterator
    × ValuesFit l.attrs
    × (attributes (members_view l.fn.members.entries) ≡ behind l.attrs (attributes (members_view l.name-iterator)))
