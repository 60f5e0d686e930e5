use Rattle.std.proofs.Common.{◌≡◌, ◌≤◌, ◌+◌, ◌++◌, length, Some, None}
use Rattle.tree_model.specs.Entries.{Entries, entries_above}
use Rattle.node_seq.specs.Reads.{IsEntryOfTrees}
use Rattle.node_seq.specs.WalkSteps.{from_entry, steps_left}
use Rattle.node_seq.proofs.walk.entries_above.Given as goal

abbrev pub invariant-loop-walk : goal.invariant-loop-walk
invariant-loop-walk g l = record {
  same : g.S.NodeRead.unchanged l.fn.seq l.seq;
  reads : g.S.NodeRead.reads l.seq ≤ g.S.NodeRead.reads l.fn.seq + (length l.out + 1);
  counted : g.S.NodeRead.count l.seq ≡ g.S.NodeRead.count l.fn.seq;
  valid : g.S.NodeRead.contents l.fn.seq ≡ None → IsEntryOfTrees l.walk;
  walked : (es : Entries) → g.S.NodeRead.contents l.fn.seq ≡ Some es → l.out ++ from_entry l.walk es ≡ entries_above l.key es;
}

abbrev pub decreases-loop-walk : goal.decreases-loop-walk
decreases-loop-walk g l = steps_left (g.S.NodeRead.contents l.fn.seq) l.walk
