-- What the generator's script asks of a store, and the line that is written of its replies (docs/PROFILE.md, "The generator").
use Rattle.std.specs.Prelude.{ℕ, List, [], ◌∷◌, ◌++◌}
use Rattle.call_contract.specs.States.{State}
use Rattle.session_driver.specs.Asking.{BookCall}
use Rattle.session_driver.specs.Lines.{Asked}
use Rattle.workload_gen.specs.LineTexts.{line_text}
use Rattle.workload_gen.specs.Scripts.{script}
use Rattle.workload_gen.specs.Summaries.{after_line, nothing_yet, summary_text}
use Rattle.workload_gen.specs.declared.line.Line.{Line as Generated}
use Rattle.workload_gen.specs.declared.summary.Summary.{Summary}
use Rattle.xtc.specs.Book.{after_asked}
use Rattle.xtc.specs.ScriptLine.{Line, nothing, bad, asked, line_of}

abbrev pub asked_in : Line → List (Asked BookCall)
asked_in nothing = []
asked_in (bad why) = []
asked_in (asked a) = a ∷ []

-- what one of its lines asks: what a line of a script with its text does
abbrev pub generated_line : Generated → List (Asked BookCall)
generated_line line = asked_in (line_of (line_text line))

-- what its lines ask, in turn
abbrev pub generated : List Generated → List (Asked BookCall)
generated [] = []
generated (line ∷ lines) = generated_line line ++ generated lines

-- what is counted of these lines and of their replies from a state on, behind what was counted before
abbrev pub counted : State BookCall → Summary → List Generated → Summary
counted st before [] = before
counted st before (line ∷ lines) =
    counted (after_asked st (generated_line line)).state (after_line before line.step (after_asked st (generated_line line)).lines) lines

-- the summary of the whole script from a state on, and LF
abbrev pub summary_line : State BookCall → ℕ → ℕ → List ℕ
summary_line st seed count = summary_text (counted st (nothing_yet count) (script seed count)) ++ 10 ∷ []
