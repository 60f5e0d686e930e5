use Rattle.std.proofs.Common.{◌++◌, Some, None, ap, ◌∙◌}
use Rattle.std.proofs.lemmas.Result.{on_ok_weaker}
use Rattle.serde_json.specs.Written.{has_float, compact_text}
use Rattle.command_lines.specs.Replies.{answer_value}
use Rattle.command_lines.specs.inside.SaidText.{around}
use Rattle.command_lines.proofs.Floats.{no_float_answer}
use Rattle.command_lines.proofs.writing.write_said.Goals as goal

pub returns-in-Some-clause-ok : goal.returns-in-Some-clause-ok
returns-in-Some-clause-ok c =
    let a = c.args.answer.now in
    let seen = c.in_ok-answer_value.ensures in
    let value = c.in_ok-value.ensures.text (ap has_float seen ∙ no_float_answer a) ∙ ap compact_text seen in
    let line = ap (λ v. around (Some c.in-Some.start.now) v c.args.session c.args.woke) value ∙ ap (λ o. around o (compact_text (answer_value a)) c.args.session c.args.woke) c.in-Some.ensures in
    on_ok_weaker c.write_key_first.result (λ e. e ∙ ap (λ s. c.args.out.now ++ s) line) c.write_key_first.ensures.ok

pub returns-in-None-clause-ok : goal.returns-in-None-clause-ok
returns-in-None-clause-ok c =
    let a = c.args.answer.now in
    let seen = c.in_ok-answer_value.ensures in
    let value = c.in_ok-value.ensures.text (ap has_float seen ∙ no_float_answer a) ∙ ap compact_text seen in
    let line = ap (λ v. around None v c.args.session c.args.woke) value ∙ ap (λ o. around o (compact_text (answer_value a)) c.args.session c.args.woke) c.in-None.ensures in
    on_ok_weaker c.write_wait.result (λ e. e ∙ ap (λ s. c.args.out.now ++ s) line) c.write_wait.ensures.ok
