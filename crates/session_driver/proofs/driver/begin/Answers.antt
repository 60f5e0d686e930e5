use Rattle.std.proofs.Common.{sym, ap, ◌∙◌}
use Rattle.std.proofs.lemmas.Result.{IfOk-weaker, on_err_weaker}
use Rattle.call_contract.specs.Books.{entry}
use Rattle.call_contract.specs.declared.events.Event.TheVariants as event
use Rattle.call_contract.specs.declared.events.EventAnswer.TheVariants as said
use Rattle.tx_core.specs.Cores.{state_from}
use Rattle.session_driver.specs.Driving.{shown_of}
use Rattle.session_driver.specs.declared.doing.Doing.TheVariants as doing
use Rattle.session_driver.proofs.Driven.{shown_is, book_same, line_steps, line_refuses}
use Rattle.session_driver.proofs.Left.{over_own, left_done, begun_none, failed_none, entries_same, grown_refused}
use Rattle.session_driver.proofs.driver.begin.Goals as goal

pub returns-in-Ok-clause-line : goal.returns-in-Ok-clause-line
returns-in-Ok-clause-line g c = λ t stands.
    let m = g.C.TreeCall.meaning in
    let old = c.args.core.now in
    let new = c.begin-begun.new.self in
    let a = said.Number c.in-Ok.ordinal in
    left_done old new c.args.out.now.items c.say.new.out.items _ (state_from m t new)
    (line_steps g.C.TreeCall.is_valid m g.B.NodeRead.contents old new c.args.session doing.Begin a c.args.out.now.items c.say.new.out.items tt
    (over_own old new (entry c.args.session event.Begin a) c.in-Ok.ensures.ok) c.is_legal.ensures.book c.say.ensures t stands)

pub returns-in-Err-clause-line : goal.returns-in-Err-clause-line
returns-in-Err-clause-line g c =
    let old = c.args.core.now in
    let new = c.begin-begun.new.self in
    IfOk-weaker c.refuse.result _ _
    (λ u is. line_refuses g.C.TreeCall.is_valid g.C.TreeCall.meaning g.B.NodeRead.contents old new c.args.session doing.Begin is.0 c.args.out.now.items c.refuse.new.out.items
    (book_same old new c.in-Err.ensures.err) c.is_legal.ensures.book (sym (ap shown_of c.in-Err.ensures.refused) ∙ shown_is c.in-Err.error is.0 is.1) is.2)
    c.refuse.ensures.ok

pub returns-in-Err-clause-begun : goal.returns-in-Err-clause-begun
returns-in-Err-clause-begun g c =
    let old = c.args.core.now in
    let new = c.begin-begun.new.self in
    on_err_weaker c.refuse.result
    (λ is. λ t stands. begun_none old new c.args.out.now.items c.refuse.new.out.items _ (failed_none old new (entries_same old new c.in-Err.ensures.err)) is.1)
    c.refuse.ensures.err

pub returns-in-Err-clause-later : goal.returns-in-Err-clause-later
returns-in-Err-clause-later g c =
    let old = c.args.core.now in
    let new = c.begin-begun.new.self in
    grown_refused old new c.args.out.now.items c.refuse.new.out.items c.refuse.result (entries_same old new c.in-Err.ensures.err) (IfOk-weaker c.refuse.result _ _ (λ u is. (_, is.2)) c.refuse.ensures.ok) (on_err_weaker c.refuse.result (λ is. is.1) c.refuse.ensures.err)
