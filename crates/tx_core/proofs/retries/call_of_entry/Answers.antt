use Rattle.std.proofs.Common.{arith, sym, ap, ◌∙◌, get_or}
use Rattle.tx_core.specs.inside.Retrying.{call_of}
use Rattle.tx_core.proofs.AskedAgain.{past_end, entry_at, no_call}
use Rattle.tx_core.proofs.retries.call_of_entry.Goals as goal

pub returns-then-entry-book : goal.returns-then-entry-book
returns-then-entry-book g c = past_end c.args.book.now c.args.entry (λ lt. omega (arith, lt, c.if-entry-book.true))

pub returns-in-Call : goal.returns-in-Call
returns-in-Call g c = sym (ap call_of c.in-Call.is) ∙ entry_at c.args.book.now c.args.entry c.index-book-entry.result (omega (arith, c.if-entry-book.false))

pub returns-in_default : goal.returns-in_default
returns-in_default g c =
    no_call (get_or c.args.book.now c.args.entry c.index-book-entry.result).event c.in_default.not-Call
    ∙ entry_at c.args.book.now c.args.entry c.index-book-entry.result (omega (arith, c.if-entry-book.false))
