use Rattle.std.proofs.Common.{◌≡◌, drop}
use Rattle.xtc.specs.Documents.{hits_in}
use Rattle.xtc.proofs.answers.hits_line.Given as goal

-- nothing was found in the replies so far
abbrev pub invariant-loop-reply : goal.invariant-loop-reply
invariant-loop-reply l = hits_in l.replies ≡ hits_in (drop l.reply-index l.replies)
