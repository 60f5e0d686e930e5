use Rattle.std.proofs.Common.{◌≡◌, drop}
use Rattle.xtc.specs.Documents.{label_in}
use Rattle.xtc.proofs.answers.label_in.Given as goal

-- nothing was found in the replies so far
abbrev pub invariant-loop-reply : goal.invariant-loop-reply
invariant-loop-reply l = label_in l.replies ≡ label_in (drop l.reply-index l.replies)
