use Rattle.std.proofs.Common.{List, take, sym, ap, subst, ◌∙◌}
use Rattle.std.specs.List.{filter}
use Rattle.std.proofs.lemmas.List.{take-map}
use Rattle.path_model.specs.AxisPrograms.{along}
use Rattle.path_model.specs.Positions.{Position, passes}
use Rattle.path_model.specs.Programs.{Program, ends, and_then}
use Rattle.xpath_axes.specs.Positions.{plain, all_plain}
use Rattle.xpath_axes.specs.Runs.{HasRun}
use Rattle.xpath_axes.proofs.Running.{begins, goes, ended, left_is, runs_as, and_then-and_then}
use Rattle.xpath_axes.proofs.axes.axis_up_to.Goals as goal

pub returns-in_ok-found-in_default-clause-run : goal.returns-in_ok-found-in_default-clause-run
returns-in_ok-found-in_default-clause-run g c = λ t stands.
    let reads = g.S.NodeRead.reads in
    let saw = g.W.Looks.saw in
    let nothing = g.met.W.Looks.saw_nothing in
    let further = g.met.W.Looks.saw_further in
    let on_axis : Program (List Position) = along c.args.of c.args.test.now (plain c.args.from.now) in
    let kept : List Position → List Position = λ s. filter (passes c.args.of c.args.test.now) s in
    let first : List Position → Program (List Position) = λ s. ends (take c.args.room s) in
    let whole : Program (List Position) = and_then on_axis (λ s. ends (take c.args.room (kept s))) in
    subst (λ (ps : List Position). HasRun reads saw t whole ps c.args.seq.now c.args.looks.now c.axis.new.seq c.axis.new.looks)
    (take-map plain c.args.room c.in_ok-found-in_default.found ∙ ap all_plain (sym c.truncate.ensures))
    (ended reads saw t nothing further (goes reads saw t nothing further (and_then on_axis (λ s. ends (kept s))) first
    (left_is reads saw t (sym (and_then-and_then on_axis (λ s. ends (kept s)) first)) (begins reads saw t nothing further whole c.args.seq.now c.args.looks.now)) (c.in_ok-found-in_default.ensures.run t stands)))

pub returns-in-FollowingSibling-clause-run : goal.returns-in-FollowingSibling-clause-run
returns-in-FollowingSibling-clause-run g c =
    let n = plain c.args.from.now in
    runs_as g.S.NodeRead.reads g.W.Looks.saw g.S.NodeRead.contents all_plain c.args.seq.now c.args.looks.now c.next_siblings_up_to.result c.next_siblings_up_to.new.seq c.next_siblings_up_to.new.looks
    (ap (λ a. and_then (along a c.args.test.now n) (λ s. ends (take c.args.room (filter (passes a c.args.test.now) s)))) (sym c.in-FollowingSibling.is)) c.next_siblings_up_to.ensures.run
