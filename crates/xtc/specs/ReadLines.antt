-- A line that was read, as the line that its bytes are.
use Rattle.xtc.specs.ScriptLine.{Line, nothing, bad, asked}
use Rattle.xtc.specs.declared.line.ReadLine.{ReadLine}
use Rattle.xtc.specs.declared.line.ReadLine.TheVariants as read

abbrev pub line_in : ReadLine → Line
line_in read.Nothing = nothing
line_in (read.Bad why) = bad why
line_in (read.Asked session doing) = asked (record { session = session; doing = doing })
