use Rattle.std.proofs.Common.{◌++◌, sym, ap, ◌∙◌}
use Rattle.path_model.specs.AxisPrograms.{along, ancestor_nodes}
use Rattle.path_model.specs.Programs.{ends, and_then}
use Rattle.xpath_axes.specs.Positions.{plain, all_plain}
use Rattle.xpath_axes.proofs.Running.{runs_as, and_then-ends}
use Rattle.xpath_axes.proofs.axes.along.Goals as goal

pub returns-in-Ancestor-clause-run : goal.returns-in-Ancestor-clause-run
returns-in-Ancestor-clause-run g c =
    let n = plain c.args.from.now in
    runs_as g.S.NodeRead.reads g.W.Looks.saw g.S.NodeRead.contents all_plain c.args.seq.now c.args.looks.now c.ancestors.result c.ancestors.new.seq c.ancestors.new.looks
    ((λ i. and_then (ancestor_nodes n) (λ s. ends (all_plain (c.new-in-Ancestor.ensures i) ++ s))) ∙ and_then-ends (ancestor_nodes n) ∙ ap (λ a. along a c.args.test.now n) (sym c.in-Ancestor.is)) c.ancestors.ensures.run
