use Rattle.std.proofs.Common.{◌≡◌, ◌++◌, drop}
use Rattle.tree_model.specs.Tree.{Tree}
use Rattle.node_seq.specs.Trees.{StandsFor}
use Rattle.path_model.specs.AxisPrograms.{nodes_at}
use Rattle.path_model.specs.Programs.{ends, and_then}
use Rattle.xpath_axes.specs.Positions.{all_plain}
use Rattle.xpath_axes.proofs.Running.{IsLeft}
use Rattle.xpath_axes.proofs.axes.nodes_at.Given as goal

abbrev pub invariant-loop-label : goal.invariant-loop-label
invariant-loop-label g l = record {
  same : g.S.NodeRead.unchanged l.fn.seq l.seq;
  counted : g.S.NodeRead.count l.seq ≡ g.S.NodeRead.count l.fn.seq;
  left : (t : Tree) → StandsFor (g.S.NodeRead.contents l.fn.seq) t → IsLeft g.S.NodeRead.reads g.W.Looks.saw t
      (and_then (nodes_at l.labels) (λ s. ends (all_plain l.fn.before ++ s)))
      (and_then (nodes_at (drop l.label-index l.labels)) (λ s. ends (all_plain l.found ++ s))) l.fn.seq l.fn.looks l.seq l.looks;
}
