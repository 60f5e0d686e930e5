use Rattle.std.proofs.Common.{◌≡◌, drop}
use Rattle.durable_sessions.specs.Reasons.{reason_in}
use Rattle.durable_sessions.proofs.reasons.reason_in.Given as goal

-- nothing was found in the replies so far
abbrev pub invariant-loop-reply : goal.invariant-loop-reply
invariant-loop-reply l = reason_in l.replies ≡ reason_in (drop l.reply-index l.replies)
