use Rattle.std.proofs.Common.{sym, ◌∙◌}
use Rattle.call_tests.proofs.MadeToys.{refused_changes}
use Rattle.call_tests.proofs.made_toys.LookThenClearTreeCall.apply.Goals as goal

pub returns-then-is_refused-clause-changes : goal.returns-then-is_refused-clause-changes
returns-then-is_refused-clause-changes g c = λ t stands.
    c.requires
    ∙ refused_changes (c.args.self.now.look.at, c.args.self.now.clear.at) t stands.valid c.in_ok-reply.reply (c.in_ok-reply.ensures.reply t stands) (sym c.is_refused.ensures ∙ c.if-is_refused.true)
