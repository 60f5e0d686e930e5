use Rattle.std.proofs.Common.{refl, ◌≡◌, sym, ap, subst, ◌∙◌}
use Rattle.std.proofs.lemmas.Result.{IfOk-weaker, on_err_weaker}
use Rattle.call_contract.specs.Books.{entry}
use Rattle.call_contract.specs.declared.events.Answer.{Answer}
use Rattle.call_contract.specs.declared.events.Answer.TheVariants as answer
use Rattle.call_contract.specs.declared.events.Event.TheVariants as event
use Rattle.call_contract.specs.declared.events.EventAnswer.TheVariants as said
use Rattle.tx_core.specs.Cores.{CoreView, IsLeftBy, with_entry, over, state_from}
use Rattle.tx_core.specs.Refusals.{refusal_in}
use Rattle.session_driver.specs.Driving.{shown_of}
use Rattle.session_driver.specs.declared.doing.Doing.TheVariants as doing
use Rattle.session_driver.proofs.Driven.{book_same, line_steps, line_refuses, then_done, then_begun}
use Rattle.session_driver.proofs.Left.{left_done, begun_none, failed_none, entries_same, grown_refused, grown_on, grown_one, grown_failed, failed_attempt}
use Rattle.session_driver.proofs.driver.attempt.Goals as goal

same_three : {A B D E : Type 0} (f : A → B → D → E) {a p : A} {b q : B} {d r : D} → a ≡ p → b ≡ q → d ≡ r → f a b d ≡ f p q r
same_three f e h k = cc

pub returns-in-Ok-Answered-clause-line : goal.returns-in-Ok-Answered-clause-line
returns-in-Ok-Answered-clause-line g c = λ t stands.
    let m = g.C.TreeCall.meaning in
    let old = c.args.core.now in
    let new = c.attempt-answer.new.self in
    let a : Answer = answer.Answered c.in-Ok-Answered.reply in
    let e = c.in-Ok-Answered.ensures.ok
    ∙ ap (λ (z : Answer). over (with_entry old (entry c.args.session (event.Call c.args.call) (said.Call z))) new.base)
    (c.in-Ok-Answered.field-0-is ∙ ap answer.Answered (sym c.in-Ok-Answered.reply-is)) in
    left_done old new c.args.out.now.items c.say.new.out.items _ (state_from m t new)
    (line_steps g.C.TreeCall.is_valid m g.B.NodeRead.contents old new c.args.session (doing.Call c.args.call) (said.Call a) c.args.out.now.items c.say.new.out.items tt e
    c.is_legal.ensures.book c.say.ensures t stands)

pub returns-in-Ok-Waits-clause-line : goal.returns-in-Ok-Waits-clause-line
returns-in-Ok-Waits-clause-line g c = λ t stands.
    let m = g.C.TreeCall.meaning in
    let old = c.args.core.now in
    let new = c.attempt-answer.new.self in
    let a : Answer = answer.Waits c.in-Ok-Waits.resource c.in-Ok-Waits.asks c.in-Ok-Waits.holders in
    let e = c.in-Ok-Waits.ensures.ok
    ∙ ap (λ (z : Answer). over (with_entry old (entry c.args.session (event.Call c.args.call) (said.Call z))) new.base)
    (c.in-Ok-Waits.field-0-is ∙ sym (same_three answer.Waits c.in-Ok-Waits.resource-is c.in-Ok-Waits.asks-is c.in-Ok-Waits.holders-is)) in
    left_done old new c.args.out.now.items c.say-in-Ok-Waits.new.out.items _ (state_from m t new)
    (line_steps g.C.TreeCall.is_valid m g.B.NodeRead.contents old new c.args.session (doing.Call c.args.call) (said.Call a) c.args.out.now.items c.say-in-Ok-Waits.new.out.items tt e
    c.is_legal.ensures.book c.say-in-Ok-Waits.ensures t stands)

pub returns-in-Ok-Deadlock-clause-line : goal.returns-in-Ok-Deadlock-clause-line
returns-in-Ok-Deadlock-clause-line g c =
    let m = g.C.TreeCall.meaning in
    let told = g.B.NodeRead.contents in
    let old = c.args.core.now in
    let mid = c.attempt-answer.new.self in
    let a : Answer = answer.Deadlock c.in-Ok-Deadlock.cycle in
    let n = entry c.args.session (event.Call c.args.call) (said.Call a) in
    let e = c.in-Ok-Deadlock.ensures.ok
    ∙ ap (λ (z : Answer). over (with_entry old (entry c.args.session (event.Call c.args.call) (said.Call z))) mid.base)
    (c.in-Ok-Deadlock.field-0-is ∙ ap answer.Deadlock (sym c.in-Ok-Deadlock.cycle-is)) in
    IfOk-weaker c.retry_all.result _ _
    (λ u done. λ t stands. then_done g.C.TreeCall.is_valid m told old mid c.retry_all.new.core c.args.out.now.items c.say-in-Ok-Deadlock.new.out.items c.retry_all.new.out.items
    (ap (λ (v : CoreView _ _). v.opening) e) _ t stands
    (line_steps g.C.TreeCall.is_valid m told old mid c.args.session (doing.Call c.args.call) (said.Call a) c.args.out.now.items c.say-in-Ok-Deadlock.new.out.items tt e c.is_legal.ensures.book
    c.say-in-Ok-Deadlock.ensures t stands) done)
    c.retry_all.ensures.ok

pub returns-in-Ok-Deadlock-clause-begun : goal.returns-in-Ok-Deadlock-clause-begun
returns-in-Ok-Deadlock-clause-begun g c =
    let m = g.C.TreeCall.meaning in
    let told = g.B.NodeRead.contents in
    let old = c.args.core.now in
    let mid = c.attempt-answer.new.self in
    let a : Answer = answer.Deadlock c.in-Ok-Deadlock.cycle in
    let n = entry c.args.session (event.Call c.args.call) (said.Call a) in
    let e = c.in-Ok-Deadlock.ensures.ok
    ∙ ap (λ (z : Answer). over (with_entry old (entry c.args.session (event.Call c.args.call) (said.Call z))) mid.base)
    (c.in-Ok-Deadlock.field-0-is ∙ ap answer.Deadlock (sym c.in-Ok-Deadlock.cycle-is)) in
    on_err_weaker c.retry_all.result
    (λ begun. λ t stands. then_begun g.C.TreeCall.is_valid m told old mid c.retry_all.new.core c.args.out.now.items c.say-in-Ok-Deadlock.new.out.items c.retry_all.new.out.items
    (ap (λ (v : CoreView _ _). v.opening) e) _ t stands
    (line_steps g.C.TreeCall.is_valid m told old mid c.args.session (doing.Call c.args.call) (said.Call a) c.args.out.now.items c.say-in-Ok-Deadlock.new.out.items tt e c.is_legal.ensures.book
    c.say-in-Ok-Deadlock.ensures t stands) begun)
    c.retry_all.ensures.err

pub returns-in-Session-clause-line : goal.returns-in-Session-clause-line
returns-in-Session-clause-line g c =
    let old = c.args.core.now in
    let new = c.attempt-answer.new.self in
    let same : new ≡ old = subst (λ x. IsLeftBy g.B.NodeRead.count old c.args.session c.args.call x new) c.in-Session.is c.in-Err.ensures.err in
    IfOk-weaker c.refuse.result _ _
    (λ u is. line_refuses g.C.TreeCall.is_valid g.C.TreeCall.meaning g.B.NodeRead.contents old new c.args.session (doing.Call c.args.call) is.0 c.args.out.now.items c.refuse.new.out.items
    (book_same old new same) c.is_legal.ensures.book (ap shown_of (sym c.in-Err.ensures.refused ∙ ap refusal_in c.in-Session.is) ∙ is.1) is.2)
    c.refuse.ensures.ok

pub returns-in-Session-clause-begun : goal.returns-in-Session-clause-begun
returns-in-Session-clause-begun g c =
    let old = c.args.core.now in
    let new = c.attempt-answer.new.self in
    let same : new ≡ old = subst (λ x. IsLeftBy g.B.NodeRead.count old c.args.session c.args.call x new) c.in-Session.is c.in-Err.ensures.err in
    on_err_weaker c.refuse.result
    (λ is. λ t stands. begun_none old new c.args.out.now.items c.refuse.new.out.items _ (failed_none old new (entries_same old new same)) is.1)
    c.refuse.ensures.err

pub returns-in-Session-clause-later : goal.returns-in-Session-clause-later
returns-in-Session-clause-later g c =
    let old = c.args.core.now in
    let new = c.attempt-answer.new.self in
    let same : new ≡ old = subst (λ x. IsLeftBy g.B.NodeRead.count old c.args.session c.args.call x new) c.in-Session.is c.in-Err.ensures.err in
    grown_refused old new c.args.out.now.items c.refuse.new.out.items c.refuse.result (entries_same old new same) (IfOk-weaker c.refuse.result _ _ (λ u is. (_, is.2)) c.refuse.ensures.ok) (on_err_weaker c.refuse.result (λ is. is.1) c.refuse.ensures.err)

pub returns-in-DiskFault-clause-begun : goal.returns-in-DiskFault-clause-begun
returns-in-DiskFault-clause-begun g c = λ t stands.
    begun_none c.args.core.now c.attempt-answer.new.self c.args.out.now.items c.args.out.now.items _ (failed_attempt g.B.NodeRead.count c.args.core.now c.attempt-answer.new.self c.args.session c.args.call c.in-Err.error c.in-Err.ensures.err) refl

pub returns-in-DiskFault-clause-later : goal.returns-in-DiskFault-clause-later
returns-in-DiskFault-clause-later g c =
    grown_failed c.args.core.now c.attempt-answer.new.self c.args.out.now.items c.args.out.now.items (failed_attempt g.B.NodeRead.count c.args.core.now c.attempt-answer.new.self c.args.session c.args.call c.in-Err.error c.in-Err.ensures.err) refl

pub returns-in-NoMemory-clause-begun : goal.returns-in-NoMemory-clause-begun
returns-in-NoMemory-clause-begun g c = λ t stands.
    begun_none c.args.core.now c.attempt-answer.new.self c.args.out.now.items c.args.out.now.items _ (failed_attempt g.B.NodeRead.count c.args.core.now c.attempt-answer.new.self c.args.session c.args.call c.in-Err.error c.in-Err.ensures.err) refl

pub returns-in-NoMemory-clause-later : goal.returns-in-NoMemory-clause-later
returns-in-NoMemory-clause-later g c =
    grown_failed c.args.core.now c.attempt-answer.new.self c.args.out.now.items c.args.out.now.items (failed_attempt g.B.NodeRead.count c.args.core.now c.attempt-answer.new.self c.args.session c.args.call c.in-Err.error c.in-Err.ensures.err) refl

pub returns-in-Ok-Answered-clause-later : goal.returns-in-Ok-Answered-clause-later
returns-in-Ok-Answered-clause-later g c =
    let new = c.attempt-answer.new.self in
    let a : Answer = answer.Answered c.in-Ok-Answered.reply in
    let e = c.in-Ok-Answered.ensures.ok
    ∙ ap (λ (z : Answer). over (with_entry c.args.core.now (entry c.args.session (event.Call c.args.call) (said.Call z))) new.base)
    (c.in-Ok-Answered.field-0-is ∙ ap answer.Answered (sym c.in-Ok-Answered.reply-is)) in
    grown_one c.args.core.now new (entry c.args.session (event.Call c.args.call) (said.Call a)) _ c.args.out.now.items c.say.new.out.items e refl c.say.ensures

pub returns-in-Ok-Waits-clause-later : goal.returns-in-Ok-Waits-clause-later
returns-in-Ok-Waits-clause-later g c =
    let new = c.attempt-answer.new.self in
    let a : Answer = answer.Waits c.in-Ok-Waits.resource c.in-Ok-Waits.asks c.in-Ok-Waits.holders in
    let e = c.in-Ok-Waits.ensures.ok
    ∙ ap (λ (z : Answer). over (with_entry c.args.core.now (entry c.args.session (event.Call c.args.call) (said.Call z))) new.base)
    (c.in-Ok-Waits.field-0-is ∙ sym (same_three answer.Waits c.in-Ok-Waits.resource-is c.in-Ok-Waits.asks-is c.in-Ok-Waits.holders-is)) in
    grown_one c.args.core.now new (entry c.args.session (event.Call c.args.call) (said.Call a)) _ c.args.out.now.items c.say-in-Ok-Waits.new.out.items e refl c.say-in-Ok-Waits.ensures

pub returns-in-Ok-Deadlock-clause-later : goal.returns-in-Ok-Deadlock-clause-later
returns-in-Ok-Deadlock-clause-later g c =
    let old = c.args.core.now in
    let mid = c.attempt-answer.new.self in
    let a : Answer = answer.Deadlock c.in-Ok-Deadlock.cycle in
    let e = c.in-Ok-Deadlock.ensures.ok
    ∙ ap (λ (z : Answer). over (with_entry old (entry c.args.session (event.Call c.args.call) (said.Call z))) mid.base)
    (c.in-Ok-Deadlock.field-0-is ∙ ap answer.Deadlock (sym c.in-Ok-Deadlock.cycle-is)) in
    grown_on old mid c.retry_all.new.core c.args.out.now.items c.say-in-Ok-Deadlock.new.out.items c.retry_all.new.out.items
    (grown_one old mid (entry c.args.session (event.Call c.args.call) (said.Call a)) _ c.args.out.now.items c.say-in-Ok-Deadlock.new.out.items e refl c.say-in-Ok-Deadlock.ensures) c.retry_all.ensures.later
