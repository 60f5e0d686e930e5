use Rattle.std.proofs.Common.{◌∙◌, ap}
use Rattle.command_words.specs.Commands.{command_by}
use Rattle.command_words.proofs.commands.command_in.Goals as goal

pub returns-in-Some-clause-command : goal.returns-in-Some-clause-command
returns-in-Some-clause-command c = λ parts tells. c.command_by.ensures.command ∙ ap (command_by c.args.word.now) (c.in-Some.ensures parts tells)

pub returns-in-None-clause-command : goal.returns-in-None-clause-command
returns-in-None-clause-command c = λ parts tells. c.command_by-in-None.ensures.command ∙ ap (command_by c.args.word.now) (c.in-None.ensures parts tells)
