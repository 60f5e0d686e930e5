use Rattle.std.proofs.Common.{List, sym, subst}
use Rattle.std.specs.List.{filter}
use Rattle.path_model.specs.AxisPrograms.{along}
use Rattle.path_model.specs.Positions.{Position, passes}
use Rattle.path_model.specs.Programs.{Program, ends, and_then}
use Rattle.xpath_axes.specs.Positions.{plain}
use Rattle.xpath_axes.specs.Runs.{HasRun}
use Rattle.xpath_axes.proofs.Running.{begins, goes, ended}
use Rattle.xpath_axes.proofs.axes.axis.Goals as goal

pub returns-clause-run : goal.returns-clause-run
returns-clause-run g c = λ t stands.
    let reads = g.S.NodeRead.reads in
    let saw = g.W.Looks.saw in
    let nothing = g.met.W.Looks.saw_nothing in
    let further = g.met.W.Looks.saw_further in
    let on_axis : Program (List Position) = along c.args.axis c.args.test.now (plain c.args.from.now) in
    let kept : List Position → Program (List Position) = λ s. ends (filter (passes c.args.axis c.args.test.now) s) in
    subst (λ (ps : List Position). HasRun reads saw t (and_then on_axis kept) ps c.args.seq.now c.args.looks.now c.along.new.seq c.along.new.looks) (sym c.in_ok-passing.ensures)
    (ended reads saw t nothing further (goes reads saw t nothing further on_axis kept (begins reads saw t nothing further (and_then on_axis kept) c.args.seq.now c.args.looks.now) (c.in_ok-found.ensures.run t stands)))
