use Rattle.std.proofs.Common.{◌≡◌, ◌+◌, ◌≤◌, IfSome, None, length}
use Rattle.tree_model.specs.Tree.{Tree}
use Rattle.node_seq.specs.Reads.{IsEntryOfTrees}
use Rattle.node_seq.specs.Trees.{StandsFor}
use Rattle.node_seq.specs.WalkSteps.{steps_left}
use Rattle.xpath_axes.specs.Positions.{all_plain}
use Rattle.xpath_axes.proofs.AttributeWalks.{MetOf, entry_of}
use Rattle.xpath_axes.proofs.attributes.at_attributes.Given as goal

abbrev pub invariant-loop-next : goal.invariant-loop-next
invariant-loop-next g l = record {
  same : g.S.NodeRead.unchanged l.fn.seq l.seq;
  counted : g.S.NodeRead.count l.seq ≡ g.S.NodeRead.count l.fn.seq;
  read : g.S.NodeRead.reads l.seq ≤ g.S.NodeRead.reads l.fn.seq + (length l.found + 1);
  label : IfSome l.next (λ a. a.0.label ≡ l.at);
  valid : g.S.NodeRead.contents l.fn.seq ≡ None → IsEntryOfTrees (entry_of l.next);
  walked : (t : Tree) → StandsFor (g.S.NodeRead.contents l.fn.seq) t → MetOf l.at t (all_plain l.found) l.next;
}

abbrev pub decreases-loop-next : goal.decreases-loop-next
decreases-loop-next g l = steps_left (g.S.NodeRead.contents l.fn.seq) (entry_of l.next)
