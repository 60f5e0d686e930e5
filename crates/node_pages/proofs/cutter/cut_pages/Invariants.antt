use Rattle.std.proofs.Common.{◌≡◌, Some, None}
use Rattle.std.specs.List.{AllByRecursion}
use Rattle.tree_model.specs.Entries.{Entries}
use Rattle.node_seq.specs.Reads.{IsEntryOfTrees}
use Rattle.node_seq.specs.WalkSteps.{from_entry, steps_left}
use Rattle.node_pages.specs.Chunks.{all_chunks}
use Rattle.node_pages.specs.Cutting.{IsSizedCut, IsStored, nothing_cut, with_entries}
use Rattle.node_pages.proofs.cutter.cut_pages.Given as goal

abbrev pub invariant-loop-walk : goal.invariant-loop-walk
invariant-loop-walk g l = record {
  same : g.S.NodeRead.unchanged l.fn.seq l.seq;
  counted : g.S.NodeRead.count l.seq ≡ g.S.NodeRead.count l.fn.seq;
  valid : g.S.NodeRead.contents l.fn.seq ≡ None → IsEntryOfTrees l.walk;
  sized : IsSizedCut l.cutter;
  stored : (es : Entries) → g.S.NodeRead.contents l.fn.seq ≡ Some es → AllByRecursion IsStored es → AllByRecursion IsStored (from_entry l.walk es);
  cut : (es : Entries) → g.S.NodeRead.contents l.fn.seq ≡ Some es → AllByRecursion IsStored es → with_entries l.cutter (all_chunks (from_entry l.walk es)) ≡ with_entries nothing_cut (all_chunks es);
}

abbrev pub decreases-loop-walk : goal.decreases-loop-walk
decreases-loop-walk g l = steps_left (g.S.NodeRead.contents l.fn.seq) l.walk
