use Rattle.std.proofs.Common.{◌≡◌, ◌++◌, take}
use Rattle.xtc.specs.Book.{replies_text}
use Rattle.xtc.proofs.store.write_replies.Given as goal

-- the text of the replies so far
abbrev pub invariant-loop-reply : goal.invariant-loop-reply
invariant-loop-reply l = l.out.items ≡ l.fn.out.items ++ replies_text (take l.reply-index l.replies)
