use Rattle.std.proofs.Common.{sym, ap, ◌∙◌}
use Rattle.shared_store.specs.Sessions.{SessionView}
use Rattle.group_callers.proofs.Members.{called, seen_on, still_durable}
use Rattle.group_callers.proofs.two_members.commit_and_end.Goals as goal

pub abort-ended-requires : goal.abort-ended-requires
abort-ended-requires g c = ap (λ (v : SessionView _ _). v.lock) c.commit_one-answer.ensures.more.session ∙ (c.requires.0.0 ∙ sym c.store.ensures)

pub returns : goal.returns
returns g c =
    let before = c.commit_one-answer.new.member in
    let after = c.abort-ended.new.self in record {
      more = seen_on c.args.member before after c.commit_one-answer.ensures.more (called before after c.abort-ended.ensures.done.same c.abort-ended.ensures.pass);
      durable = still_durable before after c.commit_one-answer.result c.abort-ended.ensures.pass c.commit_one-answer.ensures.durable;
      ended = c.abort-ended.ensures.ended;
    }
