use Rattle.std.proofs.Common.{◌++◌, ◌∷◌, [], ap, ◌∙◌}
use Rattle.std.proofs.lemmas.Result.{on_ok_weaker}
use Rattle.serde_json.specs.Written.{has_float, compact_text}
use Rattle.command_lines.proofs.Floats.{no_float_reply}
use Rattle.command_lines.proofs.writing.write_answer.Goals as goal

pub write_value-requires : goal.write_value-requires
write_value-requires c = ap has_float c.in_ok-reply_value.ensures ∙ no_float_reply c.args.reply.now

pub returns-clause-ok : goal.returns-clause-ok
returns-clause-ok c =
    on_ok_weaker c.write_value.result (λ e. e ∙ ap (λ v. c.args.out.now ++ (compact_text v ++ 10 ∷ [])) c.in_ok-reply_value.ensures) c.write_value.ensures.ok
