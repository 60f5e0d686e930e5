-- The numbers that the program ends with, and what it prints of a status (docs/MANUAL.md, "Statuses").
use Rattle.std.specs.Prelude.{ℕ, List, [], ◌++◌, codes, decimal}
use Rattle.command_words.specs.declared.words_error.WordsError.{WordsError}
use Rattle.command_words.specs.declared.words_error.WordsError.TheVariants as words
use Rattle.node_records.specs.declared.open_error.File.{File}
use Rattle.node_records.specs.declared.open_error.File.TheVariants as file
use Rattle.node_records.specs.declared.open_error.OpenError.{OpenError}
use Rattle.node_records.specs.declared.open_error.OpenError.TheVariants as error
use Rattle.jsonml_io.specs.declared.fragment_error.FragmentError.{FragmentError}
use Rattle.jsonml_io.specs.declared.fragment_error.FragmentError.TheVariants as fragment
use Rattle.script_runs.specs.declared.halt.Halt.TheVariants as halt
use Rattle.script_runs.specs.declared.running.End.{End}
use Rattle.script_runs.specs.declared.running.End.TheVariants as end
use Rattle.script_runs.specs.declared.whole.GatherError.{GatherError}
use Rattle.script_runs.specs.declared.whole.GatherError.TheVariants as gathering
use Rattle.workers_text.specs.declared.script_error.ScriptError.{ScriptError}
use Rattle.workers_text.specs.declared.script_error.ScriptError.TheVariants as script
use Rattle.xpath_parser.specs.declared.path_error.PathError.{PathError}
use Rattle.xpath_parser.specs.declared.path_error.PathError.TheVariants as path
use Rattle.durable_sessions.specs.declared.in_turn.Stop.{Stop}
use Rattle.durable_sessions.specs.declared.in_turn.Stop.TheVariants as stop
use Rattle.durable_sessions.specs.declared.reasons.Reason.TheVariants.{Path}
use Rattle.xtc.specs.declared.status.Status.{Status}
use Rattle.xtc.specs.declared.status.Status.TheVariants.{Done, Usage, LineTooLong, Damaged, ReadFault, WriteFault, DiskFault, NoMemory, NotJsonMl, DocumentRefused}

abbrev pub status_number : Status → ℕ
status_number Done = 0
status_number Usage = 2
status_number (LineTooLong line) = 3
status_number (Damaged place) = 4
status_number ReadFault = 5
status_number WriteFault = 6
status_number DiskFault = 7
status_number NoMemory = 8
status_number (NotJsonMl why) = 9
status_number (DocumentRefused why) = 10

-- what a status calls the file of a place
abbrev pub file_text : File → List ℕ
file_text file.Journal = codes "journal"
file_text file.Pages = codes "pages"
file_text file.Tree = codes "tree"

-- what is printed on standard error
abbrev pub status_text : Status → List ℕ
status_text Done = []
status_text Usage = codes "xtc: usage"
status_text (LineTooLong line) = codes "xtc: line " ++ decimal line ++ codes " is too long"
status_text (Damaged place) = codes "xtc: damaged " ++ file_text place.file ++ codes " at " ++ decimal place.at
status_text ReadFault = codes "xtc: input failed"
status_text WriteFault = codes "xtc: output failed"
status_text DiskFault = codes "xtc: disk failed"
status_text NoMemory = codes "xtc: no memory"
status_text (NotJsonMl why) = codes "xtc: not JsonML"
status_text (DocumentRefused why) = codes "xtc: refused"

-- the status of words that give no command
abbrev pub status_of_words : WordsError → Status
status_of_words words.Usage = Usage
status_of_words words.NoMemory = NoMemory

-- the status of a store that isn't opened
abbrev pub status_of : OpenError → Status
status_of (error.Damaged place) = Damaged place
status_of error.DiskFault = DiskFault
status_of error.NoMemory = NoMemory

-- the status of a script that ran
abbrev pub status_of_end : End → Status
status_of_end end.Done = Done
status_of_end (end.LineTooLong line) = LineTooLong line
status_of_end end.ReadFault = ReadFault
status_of_end end.WriteFault = WriteFault
status_of_end (end.Halted halt.DiskFault) = DiskFault
status_of_end (end.Halted halt.NoMemory) = NoMemory
status_of_end (end.Halted (halt.Damaged place)) = Damaged place

-- the status of a whole input that can't be had
abbrev pub status_of_gathering : GatherError → Status
status_of_gathering gathering.TooLong = LineTooLong 0
status_of_gathering gathering.ReadFault = ReadFault
status_of_gathering gathering.NoMemory = NoMemory

-- the status of a whole script that can't be had
abbrev pub status_of_script : ScriptError → Status
status_of_script (script.TooLong line) = LineTooLong line
status_of_script script.ReadFault = ReadFault
status_of_script script.NoMemory = NoMemory

-- the status of an input that isn't an element
abbrev pub status_of_fragment : FragmentError → Status
status_of_fragment fragment.NoMemory = NoMemory
status_of_fragment why = NotJsonMl why

-- the status of a path that is none
abbrev pub status_of_path : PathError → Status
status_of_path path.NoMemory = NoMemory
status_of_path why = DocumentRefused (Path why)

-- the status of sessions that are asked no more
abbrev pub status_of_stop : Stop → Status
status_of_stop (stop.Refused why) = DocumentRefused why
status_of_stop stop.DiskFault = DiskFault
status_of_stop stop.NoMemory = NoMemory
