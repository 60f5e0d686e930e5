use Rattle.std.proofs.Common.{refl, sym, ap, subst, ◌∙◌, List}
use Rattle.journal.specs.Views.{JournalView}
use Rattle.session_driver.specs.Asking.{BookCall}
use Rattle.session_driver.specs.Lines.{Asked}
use Rattle.xtc.specs.Book.{IsValidLine}
use Rattle.durable_sessions.specs.Reasons.{limit_of}
use Rattle.store_calls.specs.StoreCalls.{IsValidStoreCall, store_meaning}
use Rattle.xtc.specs.Generated.{generated_line}
use Rattle.xtc.specs.ReadLines.{line_in}
use Rattle.durable_sessions.specs.declared.halt.Halt.TheVariants.{NoMemory}
use Rattle.xtc.specs.inside.Counting.{AskedLine}
use Rattle.durable_sessions.proofs.AnswerLaws.{does_book, does_replies, does_state, goes_grown, goes_takes}
use Rattle.durable_sessions.proofs.InTurnLaws.{not_begun}
use Rattle.xtc.proofs.CountingLaws.{book_asked, line_asks, line_done, line_err}
use Rattle.xtc.proofs.generator.ask_line.Goals as goal

pub returns-in_err-read-clause-asked : goal.returns-in_err-read-clause-asked
returns-in_err-read-clause-asked g c = λ s stands.
    let old = c.args.journal.now.history in
    line_err g.B.NodeRead.contents c.from_residual.result NoMemory g.J.Disk.is_known s (generated_line c.args.line) old c.args.core.now old c.args.replies.now.items c.from_residual.ensures.1
    (not_begun IsValidStoreCall store_meaning limit_of g.J.Disk.is_known s (generated_line c.args.line) old old refl)

pub returns-in-Asked-clause-asked : goal.returns-in-Asked-clause-asked
returns-in-Asked-clause-asked g c = λ s stands.
    let asked : Asked BookCall = record { session = c.in-Asked.session; doing = c.in-Asked.doing } in
    subst (λ (l : List (Asked BookCall)). AskedLine g.B.NodeRead.contents g.J.Disk.is_known s l c.args.journal.now.history c.answer.new.core c.answer.new.journal.history c.answer.new.replies.items c.answer.result)
    (line_asks c.args.line _ (ap line_in (sym c.in-Asked.is) ∙ c.in_ok-read.ensures.line))
    (line_done g.B.NodeRead.contents c.answer.result g.J.Disk.is_known s asked (subst (λ read. IsValidLine (line_in read)) c.in-Asked.is c.in_ok-read.ensures.valid)
    c.args.journal.now.history c.answer.new.journal.history (λ other. ap (λ (j : JournalView). j.history) (c.answer.ensures.durable_first.still other)) c.args.core.now c.answer.new.core
    c.args.replies.now.items c.answer.new.replies.items c.requires.none stands
    (does_state store_meaning g.B.NodeRead.contents g.J.Disk.is_known c.in-Asked.session c.in-Asked.doing c.args.core.now c.answer.new.core c.args.journal.now c.answer.new.journal c.args.replies.now.items c.answer.new.replies.items c.answer.result c.answer.ensures.does)
    (does_replies store_meaning g.B.NodeRead.contents g.J.Disk.is_known c.in-Asked.session c.in-Asked.doing c.args.core.now c.answer.new.core c.args.journal.now c.answer.new.journal c.args.replies.now.items c.answer.new.replies.items c.answer.result c.answer.ensures.does) (c.answer.ensures.any_moment s stands))

pub returns-in-Asked-clause-book : goal.returns-in-Asked-clause-book
returns-in-Asked-clause-book g c =
    let asked : Asked BookCall = record { session = c.in-Asked.session; doing = c.in-Asked.doing } in
    book_asked g.B.NodeRead.contents c.answer.result c.args.line asked c.args.core.now c.answer.new.core (line_asks c.args.line _ (ap line_in (sym c.in-Asked.is) ∙ c.in_ok-read.ensures.line))
    (does_book store_meaning g.B.NodeRead.contents g.J.Disk.is_known c.in-Asked.session c.in-Asked.doing c.args.core.now c.answer.new.core c.args.journal.now c.answer.new.journal c.args.replies.now.items c.answer.new.replies.items c.answer.result c.answer.ensures.does)

pub returns-in-Asked-clause-takes : goal.returns-in-Asked-clause-takes
returns-in-Asked-clause-takes g c = goes_takes c.args.core.now c.answer.new.core c.answer.new.journal c.answer.result c.answer.ensures.goes_on

pub returns-in-Asked-clause-grown : goal.returns-in-Asked-clause-grown
returns-in-Asked-clause-grown g c = goes_grown c.args.core.now c.answer.new.core c.answer.new.journal c.answer.result c.answer.ensures.goes_on
