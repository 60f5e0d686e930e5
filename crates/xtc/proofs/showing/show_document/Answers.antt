use Rattle.std.proofs.Common.{[], ◌∙◌, ap, sym, arith}
use Rattle.call_contract.specs.States.{start}
use Rattle.durable_sessions.specs.Reasons.{reason_in}
use Rattle.xtc.specs.Documents.{answer_line}
use Rattle.xtc.specs.Statuses.{status_of_stop}
use Rattle.xtc.specs.TopCall.{tx_limit}
use Rattle.xtc.specs.declared.status.Status.TheVariants.{NoMemory}
use Rattle.xtc.proofs.DocumentLaws.{done_err, nothing_asked}
use Rattle.xtc.proofs.LoneLines.{lone_done, lone_halted, lone_limited, lone_refused, never_some}
use Rattle.xtc.proofs.showing.show_document.Goals as goal

pub returns-then-number-eq-TX_LIMIT-clause-done : goal.returns-then-number-eq-TX_LIMIT-clause-done
returns-then-number-eq-TX_LIMIT-clause-done g c = λ is_known journal command t stands shows. lone_limited t c.args.number c.args.name.now c.args.question.now is_known command shows journal c.if-number-eq-TX_LIMIT.true

pub returns-in_err-lines-clause-done : goal.returns-in_err-lines-clause-done
returns-in_err-lines-clause-done g c = λ is_known journal command t stands shows.
    let stop = c.in_err-lines.field-0.0 in
    done_err c.from_residual.result (status_of_stop stop) is_known (start t c.args.number tx_limit) command [] journal journal (λ text. text.items) c.from_residual.ensures.1
    (lone_halted is_known (start t c.args.number tx_limit) command journal stop c.in_err-lines.ensures.unrefused)

pub returns-in-Some-clause-done : goal.returns-in-Some-clause-done
returns-in-Some-clause-done g c = λ is_known journal command t stands shows.
    lone_refused t c.args.number c.args.name.now c.args.question.now is_known command shows journal c.in_ok-lines.lines.items c.in-Some.why
    (c.in_ok-lines.ensures.lines t stands c.args.number c.if-number-eq-TX_LIMIT.false) (ap reason_in (sym c.as_slice.ensures.value) ∙ sym c.reason_in.ensures ∙ c.in-Some.is)

pub returns-in_err-answer_line-clause-done : goal.returns-in_err-answer_line-clause-done
returns-in_err-answer_line-clause-done g c = λ is_known journal command t stands shows.
    done_err c.from_residual-in_err-answer_line.result NoMemory is_known (start t c.args.number tx_limit) command [] journal journal (λ text. text.items) c.from_residual-in_err-answer_line.ensures.1
    (nothing_asked is_known (start t c.args.number tx_limit) command [] journal NoMemory tt (omega arith))

pub returns-clause-done : goal.returns-clause-done
returns-clause-done g c = λ is_known journal command t stands shows.
    lone_done t c.args.number c.args.name.now c.args.question.now is_known command shows journal c.in_ok-lines.lines.items c.in_ok-answer_line.field-0.items
    (c.in_ok-lines.ensures.lines t stands c.args.number c.if-number-eq-TX_LIMIT.false) (ap reason_in (sym c.as_slice.ensures.value) ∙ sym c.reason_in.ensures ∙ never_some c.reason_in.result c.in_default.not-Some)
    (c.in_ok-answer_line.ensures ∙ ap (answer_line c.args.question.now) c.as_slice-2.ensures.value)
