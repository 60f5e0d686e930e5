use Rattle.std.proofs.Common.{◌∙◌, sym, ap, map, take, arith}
use Rattle.std.proofs.lemmas.List.{map_more}
use Rattle.clap.specs.Simple.{with_rule}
use Rattle.clap.specs.Words.{rule_of}
use Rattle.command_words.specs.inside.Apps.{options_app}
use Rattle.command_words.proofs.ClapRules.{with_one_option}
use Rattle.command_words.proofs.arguments.clap_command.Goals as goal

pub loop-name-preserved : goal.loop-name-preserved
loop-name-preserved c =
    let so_far = map (λ o. o.now) (take c.loop-name.name-index c.args.options.now) in
    c.in_ok-command.ensures.shape c.option.ensures.one ∙ ap (λ a. with_rule a (rule_of c.option.result)) c.loop-name.invariant ∙ ap (with_rule (options_app so_far)) c.option.ensures.rule
    ∙ with_one_option so_far _ ∙ sym (ap options_app (map_more (λ o. o.now) c.args.options.now c.loop-name.name-index _ (omega arith)))
