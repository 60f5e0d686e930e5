use Rattle.std.proofs.Common.{◌≡◌, drop}
use Rattle.durable_sessions.specs.Reasons.{first_reason, limit_of}
use Rattle.durable_sessions.proofs.reasons.limit_in.Given as goal

-- nothing was found in the replies so far
abbrev pub invariant-loop-reply : goal.invariant-loop-reply
invariant-loop-reply l = first_reason limit_of l.replies ≡ first_reason limit_of (drop l.reply-index l.replies)
