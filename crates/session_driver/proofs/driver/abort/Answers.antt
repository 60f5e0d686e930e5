use Rattle.std.proofs.Common.{refl, sym, ap, ◌∙◌}
use Rattle.std.proofs.lemmas.Result.{IfOk-weaker, on_err_weaker}
use Rattle.call_contract.specs.Books.{entry}
use Rattle.call_contract.specs.declared.events.Event.TheVariants as event
use Rattle.call_contract.specs.declared.events.EventAnswer.TheVariants as said
use Rattle.tx_core.specs.Cores.{CoreView}
use Rattle.session_driver.specs.Driving.{shown_of}
use Rattle.session_driver.specs.declared.doing.Doing.TheVariants as doing
use Rattle.session_driver.proofs.Driven.{shown_is, book_same, line_steps, line_refuses, then_done, then_begun}
use Rattle.session_driver.proofs.Left.{over_own, begun_none, failed_none, entries_same, grown_refused, grown_one, grown_on}
use Rattle.session_driver.proofs.driver.abort.Goals as goal

pub returns-in-Ok-clause-line : goal.returns-in-Ok-clause-line
returns-in-Ok-clause-line g c =
    let m = g.C.TreeCall.meaning in
    let told = g.B.NodeRead.contents in
    let old = c.args.core.now in
    let mid = c.abort-aborted.new.self in
    let n = entry c.args.session event.Abort said.Nothing in
    let e = over_own old mid n c.in-Ok.ensures.ok in
    IfOk-weaker c.retry_all.result _ _
    (λ u done. λ t stands. then_done g.C.TreeCall.is_valid m told old mid c.retry_all.new.core c.args.out.now.items c.say.new.out.items c.retry_all.new.out.items
    (ap (λ (v : CoreView _ _). v.opening) e) _ t stands
    (line_steps g.C.TreeCall.is_valid m told old mid c.args.session doing.Abort said.Nothing c.args.out.now.items c.say.new.out.items tt e c.is_legal.ensures.book c.say.ensures t stands) done)
    c.retry_all.ensures.ok

pub returns-in-Ok-clause-begun : goal.returns-in-Ok-clause-begun
returns-in-Ok-clause-begun g c =
    let m = g.C.TreeCall.meaning in
    let told = g.B.NodeRead.contents in
    let old = c.args.core.now in
    let mid = c.abort-aborted.new.self in
    let n = entry c.args.session event.Abort said.Nothing in
    let e = over_own old mid n c.in-Ok.ensures.ok in
    on_err_weaker c.retry_all.result
    (λ begun. λ t stands. then_begun g.C.TreeCall.is_valid m told old mid c.retry_all.new.core c.args.out.now.items c.say.new.out.items c.retry_all.new.out.items
    (ap (λ (v : CoreView _ _). v.opening) e) _ t stands
    (line_steps g.C.TreeCall.is_valid m told old mid c.args.session doing.Abort said.Nothing c.args.out.now.items c.say.new.out.items tt e c.is_legal.ensures.book c.say.ensures t stands) begun)
    c.retry_all.ensures.err

pub returns-in-Ok-clause-later : goal.returns-in-Ok-clause-later
returns-in-Ok-clause-later g c =
    let old = c.args.core.now in
    let mid = c.abort-aborted.new.self in
    let n = entry c.args.session event.Abort said.Nothing in
    grown_on old mid c.retry_all.new.core c.args.out.now.items c.say.new.out.items c.retry_all.new.out.items
    (grown_one old mid n _ c.args.out.now.items c.say.new.out.items (over_own old mid n c.in-Ok.ensures.ok) refl c.say.ensures) c.retry_all.ensures.later

pub returns-in-Err-clause-line : goal.returns-in-Err-clause-line
returns-in-Err-clause-line g c =
    let old = c.args.core.now in
    let new = c.abort-aborted.new.self in
    IfOk-weaker c.refuse.result _ _
    (λ u is. line_refuses g.C.TreeCall.is_valid g.C.TreeCall.meaning g.B.NodeRead.contents old new c.args.session doing.Abort is.0 c.args.out.now.items c.refuse.new.out.items
    (book_same old new c.in-Err.ensures.err) c.is_legal.ensures.book (sym (ap shown_of c.in-Err.ensures.refused) ∙ shown_is c.in-Err.error is.0 is.1) is.2)
    c.refuse.ensures.ok

pub returns-in-Err-clause-begun : goal.returns-in-Err-clause-begun
returns-in-Err-clause-begun g c =
    let old = c.args.core.now in
    let new = c.abort-aborted.new.self in
    on_err_weaker c.refuse.result
    (λ is. λ t stands. begun_none old new c.args.out.now.items c.refuse.new.out.items _ (failed_none old new (entries_same old new c.in-Err.ensures.err)) is.1)
    c.refuse.ensures.err

pub returns-in-Err-clause-later : goal.returns-in-Err-clause-later
returns-in-Err-clause-later g c =
    let old = c.args.core.now in
    let new = c.abort-aborted.new.self in
    grown_refused old new c.args.out.now.items c.refuse.new.out.items c.refuse.result (entries_same old new c.in-Err.ensures.err) (IfOk-weaker c.refuse.result _ _ (λ u is. (_, is.2)) c.refuse.ensures.ok) (on_err_weaker c.refuse.result (λ is. is.1) c.refuse.ensures.err)
