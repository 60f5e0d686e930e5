use Rattle.std.proofs.Common.{◌∙◌}
use Rattle.recovery.proofs.RunLaws.{laid_over}
use Rattle.recovery.proofs.runs.all_in_one.Goals as goal

pub loop-lower-preserved : goal.loop-lower-preserved
loop-lower-preserved c = λ es s.
    laid_over c.loop-lower.older.items c.pop.new.self.items c.loop-lower.run c.in-Some.lower c.in_ok-run.run' es s c.in-Some.ensures.items c.in_ok-run.ensures ∙ c.loop-lower.invariant es s
