use Rattle.std.proofs.Common.{◌∙◌, ap}
use Rattle.command_words.specs.Commands.{checkpoint_in}
use Rattle.command_words.proofs.commands.checkpoint_in.Goals as goal

pub returns-in-Some : goal.returns-in-Some
returns-in-Some c = λ parts tells. c.number_in.ensures.number ∙ ap checkpoint_in (c.in-Some.ensures parts tells)

pub returns-in-None : goal.returns-in-None
returns-in-None c = λ parts tells. ap checkpoint_in (c.in-None.ensures parts tells)
