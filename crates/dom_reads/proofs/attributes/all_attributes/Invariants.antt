use Rattle.std.proofs.Common.{◌≡◌, ◌++◌, None, ◌+◌, ◌≤◌, length}
use Rattle.tree_model.specs.Places.{attributes_at}
use Rattle.tree_model.specs.Tree.{Tree, map_of}
use Rattle.node_seq.specs.Reads.{IsEntryOfTrees}
use Rattle.node_seq.specs.Trees.{StandsFor}
use Rattle.node_seq.specs.WalkSteps.{steps_left}
use Rattle.dom_reads.proofs.AttributeWalks.{attributes_from, entry_of}
use Rattle.dom_reads.proofs.attributes.all_attributes.Given as goal

abbrev pub invariant-loop-next : goal.invariant-loop-next
invariant-loop-next g l = record {
  same : g.S.NodeRead.unchanged l.fn.seq l.seq;
  counted : g.S.NodeRead.count l.seq ≡ g.S.NodeRead.count l.fn.seq;
  read : g.S.NodeRead.reads l.seq ≤ g.S.NodeRead.reads l.fn.seq + (length l.attributes + 1);
  valid : g.S.NodeRead.contents l.fn.seq ≡ None → IsEntryOfTrees (entry_of l.next);
  walked : (t : Tree) → StandsFor (g.S.NodeRead.contents l.fn.seq) t → l.attributes ++ attributes_from l.at (map_of t) l.next ≡ attributes_at l.at t;
}

abbrev pub decreases-loop-next : goal.decreases-loop-next
decreases-loop-next g l = steps_left (g.S.NodeRead.contents l.fn.seq) (entry_of l.next)
