use Rattle.std.proofs.Common.{true, ◌∷◌, [], ◌++◌, sym, ap, subst, ◌∙◌}
use Rattle.std.proofs.lemmas.List.{append-nil}
use Rattle.call_contract.specs.declared.events.Answer.{Answer}
use Rattle.call_contract.specs.declared.events.Answer.TheVariants as answer
use Rattle.command_lines.specs.declared.line_reply.LineAnswer.TheVariants as line_answer
use Rattle.command_lines.specs.declared.line_reply.LineReply.TheVariants.{Said}
use Rattle.tx_core.specs.Retries.{HasRetried}
use Rattle.session_driver.proofs.Left.{entries_none, grown_none}
use Rattle.session_driver.proofs.Retried.{retry_left, retry_grown, retry_queue}
use Rattle.session_driver.proofs.retries.retry_one.Goals as goal

pub returns-then-is_err-clause-later : goal.returns-then-is_err-clause-later
returns-then-is_err-clause-later g c = grown_none c.args.core.now c.args.core.now c.args.out.now.items c.reserve.new.self.items (entries_none c.args.core.now) c.reserve.ensures.items

-- ---- one that waits again

pub returns-in-Waits-clause-ok : goal.returns-in-Waits-clause-ok
returns-in-Waits-clause-ok g c =
    let a : Answer = answer.Waits c.in-Waits.resource c.in-Waits.asks c.in-Waits.holders in
    let m = g.C.TreeCall.meaning in
    let told = g.B.NodeRead.contents in
    retry_left m told c.args.core.now c.retry.new.self c.args.session a c.args.out.now.items c.reserve.new.self.items
    (subst (λ (x : Answer). HasRetried m told c.args.core.now c.args.session x c.retry.new.self) c.in-Waits.is c.in_ok-retry.ensures.ok)
    (c.reserve.ensures.items ∙ sym (append-nil c.args.out.now.items))

pub returns-in-Waits-clause-queue : goal.returns-in-Waits-clause-queue
returns-in-Waits-clause-queue g c =
    let a : Answer = answer.Waits c.in-Waits.resource c.in-Waits.asks c.in-Waits.holders in
    let m = g.C.TreeCall.meaning in
    let told = g.B.NodeRead.contents in
    retry_queue m told c.args.core.now c.retry.new.self c.args.session a
    (subst (λ (x : Answer). HasRetried m told c.args.core.now c.args.session x c.retry.new.self) c.in-Waits.is c.in_ok-retry.ensures.ok)

pub returns-in-Waits-clause-later : goal.returns-in-Waits-clause-later
returns-in-Waits-clause-later g c =
    let a : Answer = answer.Waits c.in-Waits.resource c.in-Waits.asks c.in-Waits.holders in
    let m = g.C.TreeCall.meaning in
    let told = g.B.NodeRead.contents in
    retry_grown m told c.args.core.now c.retry.new.self c.args.session a c.args.out.now.items c.reserve.new.self.items
    (subst (λ (x : Answer). HasRetried m told c.args.core.now c.args.session x c.retry.new.self) c.in-Waits.is c.in_ok-retry.ensures.ok)
    (c.reserve.ensures.items ∙ sym (append-nil c.args.out.now.items))

-- ---- one that is answered

pub returns-in-Answered-clause-ok : goal.returns-in-Answered-clause-ok
returns-in-Answered-clause-ok g c =
    let a : Answer = answer.Answered c.in-Answered.reply in
    let m = g.C.TreeCall.meaning in
    let told = g.B.NodeRead.contents in
    retry_left m told c.args.core.now c.retry.new.self c.args.session a c.args.out.now.items c.say.new.out.items
    (subst (λ (x : Answer). HasRetried m told c.args.core.now c.args.session x c.retry.new.self) c.in-Answered.is c.in_ok-retry.ensures.ok)
    (c.say.ensures ∙ ap (λ xs. xs ++ Said c.args.session true (line_answer.Reply c.in-Answered.reply) ∷ []) c.reserve.ensures.items)

pub returns-in-Answered-clause-queue : goal.returns-in-Answered-clause-queue
returns-in-Answered-clause-queue g c =
    let a : Answer = answer.Answered c.in-Answered.reply in
    let m = g.C.TreeCall.meaning in
    let told = g.B.NodeRead.contents in
    retry_queue m told c.args.core.now c.retry.new.self c.args.session a
    (subst (λ (x : Answer). HasRetried m told c.args.core.now c.args.session x c.retry.new.self) c.in-Answered.is c.in_ok-retry.ensures.ok)

-- ---- a deadlock

pub returns-clause-ok : goal.returns-clause-ok
returns-clause-ok g c =
    let a : Answer = answer.Deadlock c.in-Deadlock.cycle in
    let m = g.C.TreeCall.meaning in
    let told = g.B.NodeRead.contents in
    retry_left m told c.args.core.now c.retry.new.self c.args.session a c.args.out.now.items c.say-in-Deadlock.new.out.items
    (subst (λ (x : Answer). HasRetried m told c.args.core.now c.args.session x c.retry.new.self) c.in-Deadlock.is c.in_ok-retry.ensures.ok)
    (c.say-in-Deadlock.ensures ∙ ap (λ xs. xs ++ Said c.args.session true (line_answer.Deadlock c.in-Deadlock.cycle) ∷ []) c.reserve.ensures.items)

pub returns-clause-queue : goal.returns-clause-queue
returns-clause-queue g c =
    let a : Answer = answer.Deadlock c.in-Deadlock.cycle in
    let m = g.C.TreeCall.meaning in
    let told = g.B.NodeRead.contents in
    retry_queue m told c.args.core.now c.retry.new.self c.args.session a
    (subst (λ (x : Answer). HasRetried m told c.args.core.now c.args.session x c.retry.new.self) c.in-Deadlock.is c.in_ok-retry.ensures.ok)
