use Rattle.std.proofs.Common.{◌≡◌, ◌+◌, ◌≤◌, ◌<◌, List, None, length}
use Rattle.std.specs.List.{filter}
use Rattle.tree_model.specs.Tree.{Tree}
use Rattle.node_seq.specs.Reads.{IsEntryOfTrees}
use Rattle.node_seq.specs.Trees.{StandsFor}
use Rattle.node_seq.specs.WalkSteps.{steps_left}
use Rattle.path_model.specs.Positions.{Position, passes}
use Rattle.xpath_axes.specs.Positions.{all_plain}
use Rattle.xpath_axes.specs.inside.Walks.{CanBegin}
use Rattle.xpath_axes.proofs.NodeWalks.{Left, entry_of}
use Rattle.xpath_axes.proofs.nodes.below_up_to.Given as goal

abbrev pub invariant-loop-next : goal.invariant-loop-next
invariant-loop-next g l = record {
  same : g.S.NodeRead.unchanged l.fn.seq l.seq;
  counted : g.S.NodeRead.count l.seq ≡ g.S.NodeRead.count l.fn.seq;
  room_left : length l.found < l.room;
  valid : g.S.NodeRead.contents l.fn.seq ≡ None → IsEntryOfTrees (entry_of l.next);
  walked : (t : Tree) → StandsFor (g.S.NodeRead.contents l.fn.seq) t → CanBegin l.reach l.at
      → (out : List Position) × (all_plain l.found ≡ filter (passes l.axis l.test) out) × (g.S.NodeRead.reads l.seq ≤ g.S.NodeRead.reads l.fn.seq + (length out + 1)) × Left l.reach l.at t out l.next;
}

abbrev pub decreases-loop-next : goal.decreases-loop-next
decreases-loop-next g l = steps_left (g.S.NodeRead.contents l.fn.seq) (entry_of l.next)
