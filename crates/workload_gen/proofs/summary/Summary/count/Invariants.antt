use Rattle.std.proofs.Common.{◌≡◌, drop}
use Rattle.std.specs.List.{fold}
use Rattle.workload_gen.specs.Summaries.{counted, after_line}
use Rattle.workload_gen.proofs.summary.Summary.count.Given as goal

-- the replies that are left lead to what all lead to
abbrev pub invariant-loop-reply : goal.invariant-loop-reply
invariant-loop-reply l = fold (counted l.step) l.self (drop l.reply-index l.replies) ≡ after_line l.fn.self l.step l.replies
