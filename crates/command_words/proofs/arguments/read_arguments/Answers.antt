use Rattle.std.proofs.Common.{rules, map, string_bytes}
use Rattle.clap.specs.Words.{app_of}
use Rattle.command_words.proofs.ClapReads.{are_utf8, err_none, ok_read}
use Rattle.command_words.proofs.arguments.read_arguments.Goals as goal

pub returns-in-Ok-clause-ok : goal.returns-in-Ok-clause-ok
returns-in-Ok-clause-ok c = ok_read (map (λ o. o.now) c.args.options.now) c.requires (app_of c.in_ok-command.command) c.in_ok-command.ensures (map string_bytes c.args.words.now) (are_utf8 c.args.words.now)
    c.in-Ok.found c.in-Ok.ensures.matches c.in-Ok.ensures.kinds

pub returns-clause-usage : goal.returns-clause-usage
returns-clause-usage c = λ _. err_none (map (λ o. o.now) c.args.options.now) c.requires (app_of c.in_ok-command.command) c.in_ok-command.ensures (map string_bytes c.args.words.now) (are_utf8 c.args.words.now)
    c.kind.result (λ free. rw c.kind.ensures (c.in-Err.ensures.kinds free)) (search rules)
