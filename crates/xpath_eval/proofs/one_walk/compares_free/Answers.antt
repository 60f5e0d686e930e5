use Rattle.std.proofs.Common.{sym, ◌∙◌}
use Rattle.path_model.specs.PlainPaths.{plain}
use Rattle.xpath_eval.proofs.FreeTests.{free_comparison}
use Rattle.xpath_eval.proofs.one_walk.compares_free.Goals as goal

pub returns : goal.returns
returns c y =
    free_comparison c.args.op (plain c.args.left.now) (plain c.args.right.now) (sym c.is_comparison.ensures ∙ c.if-not-is_comparison.false)
    (c.is_simple.ensures c.if-not-is_simple.false) (c.is_simple-2.ensures y)
