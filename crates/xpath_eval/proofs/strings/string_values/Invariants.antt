use Rattle.std.proofs.Common.{◌≡◌, ◌++◌, drop}
use Rattle.tree_model.specs.Tree.{Tree}
use Rattle.node_seq.specs.Trees.{StandsFor}
use Rattle.path_model.specs.Evaluation.{string_values}
use Rattle.path_model.specs.Programs.{ends, and_then}
use Rattle.xpath_axes.proofs.Running.{IsLeft}
use Rattle.xpath_axes.specs.Positions.{all_plain}
use Rattle.xpath_eval.proofs.strings.string_values.Given as goal

abbrev pub invariant-loop-position : goal.invariant-loop-position
invariant-loop-position g l = record {
  same : g.S.NodeRead.unchanged l.fn.seq l.seq;
  counted : g.S.NodeRead.count l.seq ≡ g.S.NodeRead.count l.fn.seq;
  left : (t : Tree) → StandsFor (g.S.NodeRead.contents l.fn.seq) t → IsLeft g.S.NodeRead.reads g.W.Looks.saw t (string_values (all_plain l.of))
      (and_then (string_values (all_plain (drop l.position-index l.of))) (λ more. ends (l.strings ++ more))) l.fn.seq l.fn.looks l.seq l.looks;
}
