use Rattle.std.proofs.Common.{◌≡◌, Some, true}
use Rattle.dewey_labels.specs.Labels.{Label, is_ancestor}
use Rattle.tree_rules.specs.declared.path.Room.{Room}
use Rattle.tree_rules.specs.inside.Paths.{room_at}
use Rattle.tree_rules.proofs.path.go_up.Given as goal

abbrev pub invariant-loop-path : goal.invariant-loop-path
invariant-loop-path l = record {
  above : (p : Label) → is_ancestor p l.label ≡ true → room_at p l.path.items ≡ room_at p l.fn.path.items;
  fewer : (p : Label) (room : Room) → room_at p l.path.items ≡ Some room → room_at p l.fn.path.items ≡ Some room;
}

abbrev pub decreases-loop-path : goal.decreases-loop-path
decreases-loop-path l = l.path.len
