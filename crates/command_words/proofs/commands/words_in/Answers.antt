use Rattle.std.proofs.Common.{◌∙◌, ap, ap₂, Some}
use Rattle.std.specs.Prelude.{option_and_then, option_map}
use Rattle.command_words.specs.Arguments.{text_of}
use Rattle.command_words.specs.Commands.{checkpoint_in, checkpoint_name, command_by, frames_in, frames_name, told, with_options}
use Rattle.command_words.proofs.commands.words_in.Goals as goal

pub returns-in_err-command-clause-words : goal.returns-in_err-command-clause-words
returns-in_err-command-clause-words c = λ parts tells.
    ap (λ o. option_map told o) c.from_residual.ensures
    ∙ ap (option_and_then (with_options (frames_in (text_of frames_name parts)) (checkpoint_in (text_of checkpoint_name parts)))) (c.in_err-command.ensures.command parts tells)

pub returns-in_err-frames-clause-words : goal.returns-in_err-frames-clause-words
returns-in_err-frames-clause-words c = λ parts tells.
    ap (λ o. option_map told o) c.from_residual-in_err-frames.ensures
    ∙ ap₂ (λ frames command. option_and_then (with_options frames (checkpoint_in (text_of checkpoint_name parts))) command) (c.in_err-frames.ensures.frames parts tells) (c.in_ok-command.ensures.command parts tells)

pub returns-in_err-checkpoint-clause-words : goal.returns-in_err-checkpoint-clause-words
returns-in_err-checkpoint-clause-words c = λ parts tells.
    ap (λ o. option_map told o) c.from_residual-in_err-checkpoint.ensures
    ∙ ap₂ (λ command checkpoint. option_and_then (with_options (Some c.in_ok-frames.frames) checkpoint) command) (c.in_ok-command.ensures.command parts tells) (c.in_err-checkpoint.ensures parts tells)
    ∙ ap (λ frames. option_and_then (with_options frames (checkpoint_in (text_of checkpoint_name parts))) (command_by c.args.word.now parts.plain)) (c.in_ok-frames.ensures.frames parts tells)

pub returns-clause-words : goal.returns-clause-words
returns-clause-words c = λ parts tells.
    ap₂ (λ command checkpoint. option_and_then (with_options (Some c.in_ok-frames.frames) checkpoint) command) (c.in_ok-command.ensures.command parts tells) (c.in_ok-checkpoint.ensures parts tells)
    ∙ ap (λ frames. option_and_then (with_options frames (checkpoint_in (text_of checkpoint_name parts))) (command_by c.args.word.now parts.plain)) (c.in_ok-frames.ensures.frames parts tells)
