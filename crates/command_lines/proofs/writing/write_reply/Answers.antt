use Rattle.std.proofs.Common.{◌++◌, ap, sym, ◌∙◌}
use Rattle.std.proofs.lemmas.Result.{on_ok_weaker}
use Rattle.serde_json.specs.Written.{has_float}
use Rattle.command_lines.specs.Replies.{reply_text}
use Rattle.command_lines.proofs.Floats.{no_float_order}
use Rattle.command_lines.proofs.SaidTexts.{has_pieces}
use Rattle.command_lines.proofs.writing.write_reply.Goals as goal

pub write_value-requires-in-Order : goal.write_value-requires-in-Order
write_value-requires-in-Order c = ap has_float c.in_ok-order_value-in-Order.ensures ∙ no_float_order c.in-Order.commits

pub returns-in-Said-clause-ok : goal.returns-in-Said-clause-ok
unfolding reply_text
returns-in-Said-clause-ok c =
    let line = sym (has_pieces c.in-Said.session c.in-Said.woke c.in-Said.answer) ∙ ap reply_text (sym c.in-Said.is) in
    on_ok_weaker c.write_said.result (λ e. e ∙ ap (λ s. c.args.out.now ++ s) line) c.write_said.ensures.ok
