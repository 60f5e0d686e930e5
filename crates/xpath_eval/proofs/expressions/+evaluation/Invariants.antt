use Rattle.std.proofs.Common.{◌≡◌, ◌++◌, ◌+◌, [], true, drop, length, map, IsTrue}
use Rattle.tree_model.specs.Tree.{Tree}
use Rattle.node_seq.specs.Trees.{StandsFor}
use Rattle.path_model.specs.Evaluation as program
use Rattle.path_model.specs.PlainPaths.{plain, plain_row, plain_way}
use Rattle.path_model.specs.Programs.{ends, and_then, gathered}
use Rattle.xpath_axes.specs.Positions.{all_plain}
use Rattle.xpath_axes.proofs.Running.{IsLeft}
use Rattle.xpath_eval.specs.Values.{meant, all_meant}
use Rattle.xpath_eval.specs.inside.Chains.{chain_of, chain_from}
use Rattle.xpath_eval.specs.inside.Contexts.{stands}
use Rattle.xpath_eval.specs.inside.Steps.{from_node}
use Rattle.xpath_axes.specs.Wholes.{IsWhole}
use Rattle.xpath_eval.proofs.expressions.+evaluation.Given as goal

abbrev pub invariant-chain-loop-index : goal.invariant-chain-loop-index
invariant-chain-loop-index g l = record {
  same : g.S.NodeRead.unchanged l.fn.seq l.seq;
  counted : g.S.NodeRead.count l.seq ≡ g.S.NodeRead.count l.fn.seq;
  left : (t : Tree) → StandsFor (g.S.NodeRead.contents l.fn.seq) t → IsLeft g.S.NodeRead.reads g.W.Looks.saw t (chain_of l.operands l.operators (stands l.context))
      (chain_from (meant l.left) (drop l.index l.operators) (map plain (drop l.index l.rest)) (stands l.context)) l.fn.seq l.fn.looks l.seq l.looks;
}

abbrev pub invariant-settled-loop-operand : goal.invariant-settled-loop-operand
invariant-settled-loop-operand g l = record {
  same : g.S.NodeRead.unchanged l.fn.seq l.seq;
  counted : g.S.NodeRead.count l.seq ≡ g.S.NodeRead.count l.fn.seq;
  left : (t : Tree) → StandsFor (g.S.NodeRead.contents l.fn.seq) t → IsLeft g.S.NodeRead.reads g.W.Looks.saw t (program.settled l.by (plain_row l.operands) (stands l.context))
      (program.settled l.by (plain_row (drop l.operand-index l.operands)) (stands l.context)) l.fn.seq l.fn.looks l.seq l.looks;
}

abbrev pub invariant-values_of-loop-operand : goal.invariant-values_of-loop-operand
invariant-values_of-loop-operand g l = record {
  same : g.S.NodeRead.unchanged l.fn.seq l.seq;
  counted : g.S.NodeRead.count l.seq ≡ g.S.NodeRead.count l.fn.seq;
  left : (t : Tree) → StandsFor (g.S.NodeRead.contents l.fn.seq) t → IsLeft g.S.NodeRead.reads g.W.Looks.saw t (program.operands (plain_row l.operands) (stands l.context))
      (and_then (program.operands (plain_row (drop l.operand-index l.operands)) (stands l.context)) (λ more. ends (all_meant l.values ++ more))) l.fn.seq l.fn.looks l.seq l.looks;
}

abbrev pub invariant-taken-loop-step : goal.invariant-taken-loop-step
invariant-taken-loop-step g l = record {
  same : g.S.NodeRead.unchanged l.fn.seq l.seq;
  counted : g.S.NodeRead.count l.seq ≡ g.S.NodeRead.count l.fn.seq;
  left : (t : Tree) → StandsFor (g.S.NodeRead.contents l.fn.seq) t → IsLeft g.S.NodeRead.reads g.W.Looks.saw t (program.taken (plain_way l.steps) (all_plain l.fn.from))
      (program.taken (plain_way (drop l.step-index l.steps)) (all_plain l.nodes)) l.fn.seq l.fn.looks l.seq l.looks;
  whole : (t : Tree) → StandsFor (g.S.NodeRead.contents l.fn.seq) t → g.W.Looks.saw t l.fn.looks [] l.fn.looks → IsTrue l.is_whole → IsWhole t (all_plain l.nodes);
}

abbrev pub invariant-stepped-loop-node : goal.invariant-stepped-loop-node
invariant-stepped-loop-node g l = record {
  same : g.S.NodeRead.unchanged l.fn.seq l.seq;
  counted : g.S.NodeRead.count l.seq ≡ g.S.NodeRead.count l.fn.seq;
  left : (t : Tree) → StandsFor (g.S.NodeRead.contents l.fn.seq) t → IsLeft g.S.NodeRead.reads g.W.Looks.saw t (gathered (from_node l.step) (all_plain l.from))
      (and_then (gathered (from_node l.step) (all_plain (drop l.node-index l.from))) (λ more. ends (all_plain l.all ++ more))) l.fn.seq l.fn.looks l.seq l.looks;
}

abbrev pub invariant-stepped_ahead-loop-index : goal.invariant-stepped_ahead-loop-index
invariant-stepped_ahead-loop-index g l = record {
  same : g.S.NodeRead.unchanged l.fn.seq l.seq;
  counted : g.S.NodeRead.count l.seq ≡ g.S.NodeRead.count l.fn.seq;
  left : (t : Tree) → StandsFor (g.S.NodeRead.contents l.fn.seq) t → (IsTrue true → IsWhole t (all_plain l.whole)) → IsLeft g.S.NodeRead.reads g.W.Looks.saw t (gathered (from_node l.step) (all_plain l.whole))
      (and_then (gathered (from_node l.step) (all_plain (drop l.index l.whole))) (λ more. ends (all_plain l.all ++ more))) l.fn.seq l.fn.looks l.seq l.looks;
}

abbrev pub invariant-filtered-loop-test : goal.invariant-filtered-loop-test
invariant-filtered-loop-test g l = record {
  same : g.S.NodeRead.unchanged l.fn.seq l.seq;
  counted : g.S.NodeRead.count l.seq ≡ g.S.NodeRead.count l.fn.seq;
  left : (t : Tree) → StandsFor (g.S.NodeRead.contents l.fn.seq) t → IsLeft g.S.NodeRead.reads g.W.Looks.saw t (program.filtered (plain_row l.tests) (all_plain l.fn.nodes))
      (program.filtered (plain_row (drop l.test-index l.tests)) (all_plain l.left)) l.fn.seq l.fn.looks l.seq l.looks;
}

abbrev pub invariant-kept_one_by_one-loop-index : goal.invariant-kept_one_by_one-loop-index
invariant-kept_one_by_one-loop-index g l = record {
  same : g.S.NodeRead.unchanged l.fn.seq l.seq;
  counted : g.S.NodeRead.count l.seq ≡ g.S.NodeRead.count l.fn.seq;
  left : (t : Tree) → StandsFor (g.S.NodeRead.contents l.fn.seq) t → IsLeft g.S.NodeRead.reads g.W.Looks.saw t
      (program.kept_by (λ c. program.value (plain l.test) c) (length (all_plain l.fn.nodes)) 1 (all_plain l.fn.nodes))
      (and_then (program.kept_by (λ c. program.value (plain l.test) c) (length (all_plain l.fn.nodes)) (l.index + 1) (all_plain (drop l.index l.fn.nodes))) (λ more. ends (all_plain l.kept ++ more))) l.fn.seq l.fn.looks l.seq l.looks;
}
