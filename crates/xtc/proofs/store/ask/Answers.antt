use Rattle.std.proofs.Common.{◌++◌, List, ap, ◌∙◌}
use Rattle.command_lines.specs.declared.line_reply.LineReply.{LineReply}
use Rattle.durable_sessions.specs.Asked.{asked_from}
use Rattle.store_calls.specs.StoreCalls.{store_meaning}
use Rattle.xtc.specs.Book.{replies_text}
use Rattle.xtc.proofs.store.ask.Goals as goal

pub returns-clause-state : goal.returns-clause-state
returns-clause-state g c = λ s stands. (c.in_ok-answer.ensures.does s stands).state

pub returns-clause-text : goal.returns-clause-text
returns-clause-text g c = λ s stands.
    c.in_ok-write_replies.ensures
    ∙ ap (λ (l : List LineReply). c.args.out.now.items ++ replies_text l)
    (c.as_slice.ensures.value ∙ (c.in_ok-answer.ensures.does s stands).replies ∙ ap (λ (l : List LineReply). l ++ (asked_from store_meaning s c.args.session c.args.doing).lines) c.clear.ensures.items)

pub returns-clause-takes : goal.returns-clause-takes
returns-clause-takes g c = c.in_ok-answer.ensures.goes_on.takes

pub returns-clause-grown : goal.returns-clause-grown
returns-clause-grown g c = c.in_ok-answer.ensures.goes_on.grown

pub returns-clause-book : goal.returns-clause-book
returns-clause-book g c = λ s stands. (c.in_ok-answer.ensures.does s stands).book
