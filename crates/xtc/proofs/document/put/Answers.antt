use Rattle.std.proofs.Common.{[], refl, ap, subst, ◌∙◌, List}
use Rattle.command_lines.specs.declared.line_reply.LineReply.{LineReply}
use Rattle.session_driver.specs.Asking.{BookCall}
use Rattle.session_driver.specs.Lines.{Asked}
use Rattle.command_words.specs.Commands.{put}
use Rattle.durable_sessions.specs.InTurn.{AllAnswered}
use Rattle.durable_sessions.specs.Reasons.{reason_of}
use Rattle.durable_sessions.specs.declared.in_turn.Stop.TheVariants.{NoMemory}
use Rattle.durable_sessions.proofs.InTurnLaws.{not_begun, stopped_behind}
use Rattle.store_calls.specs.StoreCalls.{IsValidStoreCall, store_meaning}
use Rattle.xtc.specs.Documents.{put_asks, put_asks_of, label_in, label_line}
use Rattle.xtc.specs.Statuses.{status_of_stop}
use Rattle.xtc.specs.declared.status.Status.TheVariants as status
use Rattle.xtc.specs.inside.Asking.{Stopped}
use Rattle.xtc.proofs.DocumentLaws.{document_answered, document_stopped, done_err}
use Rattle.xtc.proofs.document.put.Goals as goal

pub returns-in_err-doings-clause-done : goal.returns-in_err-doings-clause-done
returns-in_err-doings-clause-done g c = λ s stands read is short.
    let name = c.args.name.now in
    let old = c.args.journal.now.history in
    done_err c.from_residual.result status.NoMemory g.J.Disk.is_known s (put name) read old old (λ text. text.items) c.from_residual.ensures.1
    (document_stopped g.J.Disk.is_known s (put name) read (put_asks name c.args.element) (ap (put_asks_of name) is) short old old NoMemory
    (not_begun IsValidStoreCall store_meaning reason_of g.J.Disk.is_known s (put_asks name c.args.element) old old refl))

pub returns-in_err-ask_in_turn-clause-done : goal.returns-in_err-ask_in_turn-clause-done
returns-in_err-ask_in_turn-clause-done g c = λ s stands read is short.
    let name = c.args.name.now in
    let old = c.args.journal.now.history in
    let stop = c.in_err-ask_in_turn.field-0.0 in
    done_err c.from_residual-in_err-ask_in_turn.result (status_of_stop stop) g.J.Disk.is_known s (put name) read old c.ask_in_turn.new.journal.history (λ text. text.items) c.from_residual-in_err-ask_in_turn.ensures.1
    (document_stopped g.J.Disk.is_known s (put name) read (put_asks name c.args.element) (ap (put_asks_of name) is) short old c.ask_in_turn.new.journal.history stop
    (subst (λ (l : List (Asked BookCall)). Stopped reason_of g.J.Disk.is_known s l old c.ask_in_turn.new.journal.history stop) c.in_ok-doings.ensures.asks (c.in_err-ask_in_turn.ensures.asked s stands)))

pub returns-in_err-label_line-clause-done : goal.returns-in_err-label_line-clause-done
returns-in_err-label_line-clause-done g c = λ s stands read is short.
    let name = c.args.name.now in
    let old = c.args.journal.now.history in
    let new = c.ask_in_turn.new.journal.history in
    let asked : AllAnswered IsValidStoreCall store_meaning g.B.NodeRead.contents reason_of g.J.Disk.is_known s (put_asks name c.args.element) old c.ask_in_turn.new.core new c.new-replies.result.items c.ask_in_turn.new.replies.items =
    subst (λ (l : List (Asked BookCall)). AllAnswered IsValidStoreCall store_meaning g.B.NodeRead.contents reason_of g.J.Disk.is_known s l old c.ask_in_turn.new.core new c.new-replies.result.items c.ask_in_turn.new.replies.items) c.in_ok-doings.ensures.asks (c.in_ok-ask_in_turn.ensures.asked s stands) in
    done_err c.from_residual-in_err-label_line.result status.NoMemory g.J.Disk.is_known s (put name) read old new (λ text. text.items) c.from_residual-in_err-label_line.ensures.1
    (document_stopped g.J.Disk.is_known s (put name) read (put_asks name c.args.element) (ap (put_asks_of name) is) short old new NoMemory
    (stopped_behind IsValidStoreCall store_meaning g.B.NodeRead.contents reason_of g.J.Disk.is_known s (put_asks name c.args.element) old new c.ask_in_turn.new.core c.new-replies.result.items c.ask_in_turn.new.replies.items asked))

pub returns-clause-done : goal.returns-clause-done
returns-clause-done g c = λ s stands read is short.
    let name = c.args.name.now in
    let old = c.args.journal.now.history in
    let new = c.ask_in_turn.new.journal.history in
    let asked : AllAnswered IsValidStoreCall store_meaning g.B.NodeRead.contents reason_of g.J.Disk.is_known s (put_asks name c.args.element) old c.ask_in_turn.new.core new [] c.ask_in_turn.new.replies.items =
    subst (λ (x : List (Asked BookCall) × List LineReply). AllAnswered IsValidStoreCall store_meaning g.B.NodeRead.contents reason_of g.J.Disk.is_known s x.0 old c.ask_in_turn.new.core new x.1 c.ask_in_turn.new.replies.items) (λ i. (c.in_ok-doings.ensures.asks i, c.new-replies.ensures.items i))
    (c.in_ok-ask_in_turn.ensures.asked s stands) in
    document_answered g.J.Disk.is_known s (put name) read (put_asks name c.args.element) (ap (put_asks_of name) is) short old new g.B.NodeRead.contents c.ask_in_turn.new.core c.ask_in_turn.new.replies.items _ asked
    (c.in_ok-label_line.ensures ∙ ap (λ (l : List LineReply). label_line (label_in l)) (c.as_slice.ensures.value ∙ asked.replies))
