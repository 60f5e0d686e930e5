use Rattle.std.proofs.Common.{ℕ, ◌+◌, false, ◌∷◌, [], ◌++◌, ap, ◌∙◌}
use Rattle.std.proofs.lemmas.Result.{IfOk-weaker, on_err_weaker}
use Rattle.tree_model.specs.declared.reply.Reply.TheVariants as reply
use Rattle.call_contract.specs.Books.{entry}
use Rattle.call_contract.specs.declared.events.Event.TheVariants as event
use Rattle.call_contract.specs.declared.events.EventAnswer.TheVariants as said
use Rattle.command_lines.specs.declared.line_reply.LineAnswer.TheVariants as line_answer
use Rattle.command_lines.specs.declared.line_reply.LineReply.TheVariants.{Said}
use Rattle.call_contract.specs.Sessions.{commits_in}
use Rattle.tx_core.specs.Commits.{pending_of}
use Rattle.tx_core.specs.Cores.{CoreView, drained, with_committed, with_entry, with_pending, next_number}
use Rattle.tx_core.specs.Drains.{Undrained}
use Rattle.session_driver.proofs.Driven.{commit_steps, then_done, then_begun}
use Rattle.session_driver.proofs.Left.{adds_commit, grown_anew, grown_from}
use Rattle.session_driver.proofs.driver.finish_commit.Goals as goal

pub returns-clause-line : goal.returns-clause-line
returns-clause-line g c =
    let m = g.C.TreeCall.meaning in
    let told = g.B.NodeRead.contents in
    let old = c.args.core.now in
    let mid = c.drain.new.self in
    let a = said.Number c.commit-number.result in
    let n = entry c.args.session event.Commit a in
    let e = adds_commit old c.commit-number.new.self mid n (pending_of c.args.prepared) c.commit-number.ensures.committed c.drain.ensures.none_waits in
    IfOk-weaker c.retry_all.result _ _
    (λ u done. λ t stands free. then_done g.C.TreeCall.is_valid m told old mid c.retry_all.new.core c.args.out.now.items c.say.new.out.items c.retry_all.new.out.items
    (ap (λ (v : CoreView _ _). v.opening) e) _ t stands
    (commit_steps g.C.TreeCall.is_valid m told old mid c.args.session a c.args.out.now.items c.say.new.out.items e c.is_legal.ensures.book c.say.ensures t stands free) done)
    c.retry_all.ensures.ok

pub returns-clause-begun : goal.returns-clause-begun
returns-clause-begun g c =
    let m = g.C.TreeCall.meaning in
    let told = g.B.NodeRead.contents in
    let old = c.args.core.now in
    let mid = c.drain.new.self in
    let a = said.Number c.commit-number.result in
    let n = entry c.args.session event.Commit a in
    let e = adds_commit old c.commit-number.new.self mid n (pending_of c.args.prepared) c.commit-number.ensures.committed c.drain.ensures.none_waits in
    on_err_weaker c.retry_all.result
    (λ begun. λ t stands free. then_begun g.C.TreeCall.is_valid m told old mid c.retry_all.new.core c.args.out.now.items c.say.new.out.items c.retry_all.new.out.items
    (ap (λ (v : CoreView _ _). v.opening) e) _ t stands
    (commit_steps g.C.TreeCall.is_valid m told old mid c.args.session a c.args.out.now.items c.say.new.out.items e c.is_legal.ensures.book c.say.ensures t stands free) begun)
    c.retry_all.ensures.err

pub returns-clause-made : goal.returns-clause-made
returns-clause-made g c =
    let old = c.args.core.now in
    let committed = c.commit-number.new.self.committed in
    let so : ℕ → CoreView _ _ = λ k. drained (with_committed (with_pending (with_entry old (entry c.args.session event.Commit (said.Number k))) (pending_of c.args.prepared)) committed) in
    let made = with_entry old (entry c.args.session event.Commit (said.Number (next_number old))) in
    let none : Undrained = record { after = old.number + commits_in made.book; waiting = [] } in
    let out = c.args.out.now.items ++ Said c.args.session false (line_answer.Reply (reply.Number (next_number old))) ∷ [] in
    grown_anew made c.retry_all.new.core committed none out c.retry_all.new.out.items
    (grown_from c.drain.new.self (record made { committed = committed; undrained = none }) c.retry_all.new.core c.say.new.out.items out c.retry_all.new.out.items
    (c.drain.ensures.none_waits ∙ ap (λ (v : CoreView _ _). drained v) c.commit-number.ensures.committed ∙ ap so c.commit-number.ensures.number)
    (c.say.ensures ∙ ap (λ (k : ℕ). c.args.out.now.items ++ Said c.args.session false (line_answer.Reply (reply.Number k)) ∷ []) c.commit-number.ensures.number)
    c.retry_all.ensures.later)
