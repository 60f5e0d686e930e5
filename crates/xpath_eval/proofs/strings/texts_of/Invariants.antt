use Rattle.std.proofs.Common.{◌≡◌, ◌++◌, drop}
use Rattle.tree_model.specs.Tree.{Tree}
use Rattle.node_seq.specs.Trees.{StandsFor}
use Rattle.path_model.specs.Evaluation.{texts_of}
use Rattle.path_model.specs.Programs.{ends, and_then}
use Rattle.xpath_axes.proofs.Running.{IsLeft}
use Rattle.xpath_eval.specs.Values.{all_meant}
use Rattle.xpath_eval.proofs.strings.texts_of.Given as goal

abbrev pub invariant-loop-value : goal.invariant-loop-value
invariant-loop-value g l = record {
  same : g.S.NodeRead.unchanged l.fn.seq l.seq;
  counted : g.S.NodeRead.count l.seq ≡ g.S.NodeRead.count l.fn.seq;
  left : (t : Tree) → StandsFor (g.S.NodeRead.contents l.fn.seq) t → IsLeft g.S.NodeRead.reads g.W.Looks.saw t (texts_of (all_meant l.values))
      (and_then (texts_of (all_meant (drop l.value-index l.values))) (λ more. ends (l.texts ++ more))) l.fn.seq l.fn.looks l.seq l.looks;
}
