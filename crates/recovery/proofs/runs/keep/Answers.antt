use Rattle.std.proofs.Common.{ap, ◌∙◌}
use Rattle.recovery.specs.inside.Nets.{after_runs}
use Rattle.recovery.proofs.RunLaws.{laid_over, runs_more}
use Rattle.recovery.proofs.runs.keep.Goals as goal

pub loop-alloc-preserved : goal.loop-alloc-preserved
loop-alloc-preserved c = λ es s.
    laid_over c.loop-alloc.older.items c.pop.new.self.items c.loop-alloc.run c.in-Some.lower c.in_ok-run.run' es s c.in-Some.ensures.items c.in_ok-run.ensures ∙ c.loop-alloc.invariant es s

pub returns : goal.returns
returns c = λ es s. ap (λ runs. after_runs runs es) c.in_ok-push.ensures.items ∙ runs_more c.loop-alloc.older.items c.loop-alloc.run es ∙ c.loop-alloc.invariant es s
