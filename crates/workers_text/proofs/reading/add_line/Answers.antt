use Rattle.std.specs.Prelude.{IfSome, Ok}
use Rattle.std.proofs.Common.{◌≡◌, ◌∙◌, ap, subst}
use Rattle.command_lines.specs.Lines.{line_of}
use Rattle.command_lines.specs.ValidCommands.{IsValidCommand}
use Rattle.workers_text.proofs.Sessions.{session_of_line}
use Rattle.workers_text.proofs.reading.add_line.Goals as goal

pub add-requires : goal.add-requires
add-requires c =
    let read = c.in-Ok-Some in
    let is : line_of c.args.line.now ≡ Ok read.field-0 = read.ensures.line in
    let valid : IfSome read.field-0 IsValidCommand = read.ensures.valid in
    record { valid = subst (λ o. IfSome o IsValidCommand) read.field-0-is valid; session = session_of_line c.args.line.now read.command (is ∙ ap Ok read.field-0-is) }
