use Rattle.std.proofs.Common.{◌≡◌, ◌++◌, string_bytes, Some, None, ◌+◌, ◌≤◌, length}
use Rattle.tree_model.specs.Entries.{Entries}
use Rattle.node_seq.specs.Reads.{IsEntryOfTrees}
use Rattle.node_seq.specs.WalkSteps.{steps_left}
use Rattle.dom_reads.specs.SubtreeWalks.{still_to_come}
use Rattle.dom_reads.specs.inside.Gathered.{texts_in}
use Rattle.dom_reads.proofs.subtrees.join_texts.Given as goal

abbrev pub invariant-loop-joined : goal.invariant-loop-joined
invariant-loop-joined g l = record {
  same : g.S.NodeRead.unchanged l.fn.seq l.seq;
  counted : g.S.NodeRead.count l.seq ≡ g.S.NodeRead.count l.fn.seq;
  read : (es : Entries) → g.S.NodeRead.contents l.fn.seq ≡ Some es → g.S.NodeRead.reads l.seq + length (still_to_come l.walk es) ≤ g.S.NodeRead.reads l.fn.seq + length (still_to_come l.fn.walk es);
  valid : g.S.NodeRead.contents l.fn.seq ≡ None → IsEntryOfTrees l.walk.next;
  texts : (es : Entries) → g.S.NodeRead.contents l.fn.seq ≡ Some es → string_bytes l.joined ++ texts_in (still_to_come l.walk es) ≡ texts_in (still_to_come l.fn.walk es);
}

abbrev pub decreases-loop-joined : goal.decreases-loop-joined
decreases-loop-joined g l = steps_left (g.S.NodeRead.contents l.fn.seq) l.walk.next
