use Rattle.std.proofs.Common.{◌≡◌, drop}
use Rattle.xtc.specs.Documents.{tree_in}
use Rattle.xtc.proofs.answers.tree_line.Given as goal

-- nothing was found in the replies so far
abbrev pub invariant-loop-reply : goal.invariant-loop-reply
invariant-loop-reply l = tree_in l.replies ≡ tree_in (drop l.reply-index l.replies)
