use Rattle.std.proofs.Common.{◌≡◌, ◌++◌, Some, None, ◌+◌, ◌≤◌, length}
use Rattle.tree_model.specs.Entries.{Entries}
use Rattle.node_seq.specs.Reads.{IsEntryOfTrees}
use Rattle.node_seq.specs.WalkSteps.{steps_left}
use Rattle.dom_reads.specs.SubtreeWalks.{still_to_come}
use Rattle.dom_reads.specs.inside.Gathered.{labels_in}
use Rattle.dom_reads.proofs.subtrees.tagged.Given as goal

abbrev pub invariant-loop-labels : goal.invariant-loop-labels
invariant-loop-labels g l = record {
  same : g.S.NodeRead.unchanged l.fn.seq l.seq;
  counted : g.S.NodeRead.count l.seq ≡ g.S.NodeRead.count l.fn.seq;
  read : (es : Entries) → g.S.NodeRead.contents l.fn.seq ≡ Some es → g.S.NodeRead.reads l.seq + length (still_to_come l.walk es) ≤ g.S.NodeRead.reads l.fn.seq + length (still_to_come l.fn.walk es);
  valid : g.S.NodeRead.contents l.fn.seq ≡ None → IsEntryOfTrees l.walk.next;
  labels : (es : Entries) → g.S.NodeRead.contents l.fn.seq ≡ Some es → l.labels ++ labels_in l.name (still_to_come l.walk es) ≡ labels_in l.name (still_to_come l.fn.walk es);
}

abbrev pub decreases-loop-labels : goal.decreases-loop-labels
decreases-loop-labels g l = steps_left (g.S.NodeRead.contents l.fn.seq) l.walk.next
