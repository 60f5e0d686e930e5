use Rattle.std.proofs.Common.{◌≡◌, ◌++◌, Some, None, ◌+◌, ◌≤◌, length}
use Rattle.tree_model.specs.Entries.{Entries}
use Rattle.node_seq.specs.Reads.{IsEntryOfTrees}
use Rattle.node_seq.specs.WalkSteps.{steps_left}
use Rattle.dom_reads.specs.SubtreeWalks.{still_to_come}
use Rattle.dom_reads.specs.inside.InSubtrees.{RisesTo}
use Rattle.dom_reads.proofs.subtree_walk.gather.Given as goal

abbrev pub invariant-loop-entry : goal.invariant-loop-entry
invariant-loop-entry g l = record {
  same : g.S.NodeRead.unchanged l.fn.seq l.seq;
  counted : g.S.NodeRead.count l.seq ≡ g.S.NodeRead.count l.fn.seq;
  read : g.S.NodeRead.reads l.seq + length l.fn.entries ≤ g.S.NodeRead.reads l.fn.seq + length l.entries;
  left : (es : Entries) → g.S.NodeRead.contents l.fn.seq ≡ Some es → g.S.NodeRead.reads l.seq + length (still_to_come l.walk es) ≤ g.S.NodeRead.reads l.fn.seq + length (still_to_come l.fn.walk es);
  valid : g.S.NodeRead.contents l.fn.seq ≡ None → IsEntryOfTrees l.walk.next;
  rise : RisesTo l.walk.next l.entries;
  gathered : (es : Entries) → g.S.NodeRead.contents l.fn.seq ≡ Some es → l.entries ++ still_to_come l.walk es ≡ l.fn.entries ++ still_to_come l.fn.walk es;
}

abbrev pub decreases-loop-entry : goal.decreases-loop-entry
decreases-loop-entry g l = steps_left (g.S.NodeRead.contents l.fn.seq) l.walk.next
