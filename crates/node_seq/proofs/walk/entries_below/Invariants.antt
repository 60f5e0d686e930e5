use Rattle.std.proofs.Common.{◌≡◌, ◌≤◌, ◌+◌, ◌++◌, length, reverse, Some, None}
use Rattle.tree_model.specs.Entries.{Entries, entries_below}
use Rattle.node_seq.specs.Reads.{IsEntryOfTrees}
use Rattle.node_seq.proofs.Walks.{back_from_found, left_downwards}
use Rattle.node_seq.proofs.walk.entries_below.Given as goal

abbrev pub invariant-loop-found : goal.invariant-loop-found
invariant-loop-found g l = record {
  same : g.S.NodeRead.unchanged l.fn.seq l.seq;
  reads : g.S.NodeRead.reads l.seq ≤ g.S.NodeRead.reads l.fn.seq + (length l.out + 1);
  counted : g.S.NodeRead.count l.seq ≡ g.S.NodeRead.count l.fn.seq;
  valid : g.S.NodeRead.contents l.fn.seq ≡ None → IsEntryOfTrees l.found;
  walked : (es : Entries) → g.S.NodeRead.contents l.fn.seq ≡ Some es → l.out ++ back_from_found l.found es ≡ reverse (entries_below l.key es);
}

abbrev pub decreases-loop-found : goal.decreases-loop-found
decreases-loop-found g l = left_downwards (g.S.NodeRead.contents l.fn.seq) l.found
