use Rattle.std.proofs.Common.{◌≡◌, true, IfSome, ◌+◌, ◌≤◌, length}
use Rattle.dewey_labels.specs.Labels.{IsLabel}
use Rattle.tree_model.specs.Tree.{Tree, at, found}
use Rattle.node_seq.specs.Trees.{StandsFor}
use Rattle.dom_reads.proofs.ChildLists.{IsChildWalk, steps_behind}
use Rattle.dom_reads.proofs.navigation.child_labels.Given as goal

abbrev pub invariant-loop-next : goal.invariant-loop-next
invariant-loop-next g l = record {
  same : g.S.NodeRead.unchanged l.fn.seq l.seq;
  counted : g.S.NodeRead.count l.seq ≡ g.S.NodeRead.count l.fn.seq;
  read : g.S.NodeRead.reads l.seq ≤ g.S.NodeRead.reads l.fn.seq + (length l.labels + 1);
  label : IfSome l.next IsLabel;
  walked : (t : Tree) → StandsFor (g.S.NodeRead.contents l.fn.seq) t → found (at l.at t.documents) ≡ true → IsChildWalk l.at t l.labels l.next;
}

abbrev pub decreases-loop-next : goal.decreases-loop-next
decreases-loop-next g l = steps_behind l.next
