-- Where a script is between two pieces of its input, and what a step that takes a piece leaves.
use Rattle.std.specs.Prelude.{◌≡◌, ℕ, suc, ◌+◌, ◌≤◌, ◌<◌, ◌≢◌, List, [], ◌∷◌, ◌++◌, length, take, drop, Option, Some, None, Result, Ok, Err, OnOk}
use Rattle.std.specs.List.{AllByRecursion}
use Rattle.outside_traits.specs.Bytes.{TookAllBut, TookPrefix}
use Rattle.outside_traits.specs.DiskPairs.{PairsHave, PairsLeave}
use Rattle.script_runs.specs.Lines.{ended, unended, last_line, AllShort}
use Rattle.script_runs.specs.Machine.{Machine, IsSettled}
use Rattle.script_runs.specs.Runs.{HoldsFrom, IsPrompt}
use Rattle.script_runs.specs.Texts.{answers, state_after}
use Rattle.script_runs.specs.declared.feeding.Stop.{Stop}
use Rattle.script_runs.specs.declared.feeding.Stop.TheVariants.{LineTooLong, WriteFault, Halted}
use Rattle.script_runs.specs.declared.running.Input.{Input}
use Rattle.script_runs.specs.declared.running.End.{End}

-- what a script keeps: its machine, how many lines have ended, what has come of the next one, and the replies that aren't written yet
pub record Script (M : Type 0) : Type 0 where
  pub machine : M
  pub lines : ℕ
  pub unended : List ℕ
  pub pending : List ℕ

-- the same with the machine's state in place of the machine
pub record Standing {M : Type 0} (m : Machine M) : Type 0 where
  pub state : m.State
  pub lines : ℕ
  pub unended : List ℕ
  pub pending : List ℕ

abbrev pub start : {M : Type 0} (m : Machine M) → m.State → Standing m
start m s = record { state = s; lines = 0; unended = []; pending = [] }

abbrev pub with_state : {M : Type 0} (m : Machine M) → Script M → m.State → Standing m
with_state m k s = record { state = s; lines = k.lines; unended = k.unended; pending = k.pending }

-- a script before its first byte
pub record IsNew {M : Type 0} (k : Script M) : Type 0 where
  pub lines : k.lines ≡ 0
  pub unended : k.unended ≡ []
  pub pending : k.pending ≡ []

-- no line ends in the bytes
abbrev pub IsInLine : List ℕ → Type 0
IsInLine [] = Unit {0}
IsInLine (b ∷ bytes) = (b ≢ 10) × IsInLine bytes

-- the first end of a line stands at place i
pub record EndsAt (bytes : List ℕ) (i : ℕ) : Type 0 where
  pub cut : bytes ≡ take i bytes ++ 10 ∷ drop (suc i) bytes
  pub in_line : IsInLine (take i bytes)
  pub within : i < length bytes

abbrev pub IsFirstEnd : List ℕ → Option ℕ → Type 0
IsFirstEnd bytes None = IsInLine bytes
IsFirstEnd bytes (Some i) = EndsAt bytes i

-- the replies that the bytes bring
abbrev pub brought : {M : Type 0} (m : Machine M) → Standing m → List ℕ → List ℕ
brought m s bytes = answers m s.state s.lines (ended s.unended bytes)

-- the bytes were taken, and of what was pending and what they brought the sink took all but what is pending now
pub record Fed {M : Type 0} (m : Machine M) (limit : ℕ) (old new : Standing m) (before now : Option (List ℕ)) (bytes : List ℕ) : Type 0 where
  pub state : new.state ≡ state_after m old.state (ended old.unended bytes)
  pub lines : new.lines ≡ old.lines + length (ended old.unended bytes)
  pub unended : new.unended ≡ unended old.unended bytes
  pub short : AllShort limit (ended old.unended bytes)
  pub wrote : TookAllBut before now (old.pending ++ brought m old bytes) new.pending

-- the bytes were taken up to a line of more than `limit` bytes
pub record Overran {M : Type 0} (m : Machine M) (limit : ℕ) (old new : Standing m) (before now : Option (List ℕ)) (bytes : List ℕ) : Type 0 where
  pub done : List ℕ
  pub part : List ℕ
  pub more : List ℕ
  pub cut : bytes ≡ done ++ part ++ more
  pub fed : Fed m limit old new before now done
  pub in_line : IsInLine part
  pub long : limit < length (new.unended ++ part)

-- the bytes were taken from a state, and the machine stands in the state after them
abbrev pub FedFrom : {M : Type 0} (m : Machine M) → ℕ → m.State → Script M → Script M → Option (List ℕ) → Option (List ℕ) → List ℕ → Type 0
FedFrom m limit s old new before now bytes = (t : m.State) × m.stands new.machine t × Fed m limit (with_state m old s) (with_state m new t) before now bytes

-- the bytes were taken from whichever state the machine stood in, and the sink took nothing
abbrev pub FedWithoutWriting : {M : Type 0} (m : Machine M) → ℕ → Script M → Script M → List ℕ → Type 0
FedWithoutWriting m limit old new bytes = (held : Option (List ℕ)) (s : m.State) → m.stands old.machine s → FedFrom m limit s old new held held bytes

-- where the script stands, by the answer of a step that was to take these bytes; after a stop for good nowhere
abbrev pub ComesFrom : {M : Type 0} (m : Machine M) → ℕ → m.State → Script M → Script M → Option (List ℕ) → Option (List ℕ) → List ℕ → Result (Unit {0}) Stop → Type 0
ComesFrom m limit s old new before now bytes (Ok done) = FedFrom m limit s old new before now bytes
ComesFrom m limit s old new before now bytes (Err LineTooLong) = (t : m.State) × m.stands new.machine t × Overran m limit (with_state m old s) (with_state m new t) before now bytes
ComesFrom m limit s old new before now bytes (Err stop) = Unit {0}

-- where a step didn't stop for good this holds: it took its bytes, or came to a line that is too long
abbrev pub IfGoesOn : Type 0 → Result (Unit {0}) Stop → Type 0
IfGoesOn P (Ok done) = P
IfGoesOn P (Err LineTooLong) = P
IfGoesOn P (Err stop) = Unit {0}

-- ---- what the disks are left with

-- how many lines more than those that are done a crash may find committed
abbrev pub slack_of : Result (Unit {0}) Stop → ℕ
slack_of (Ok done) = 0
slack_of (Err LineTooLong) = 0
slack_of (Err WriteFault) = 0
slack_of (Err (Halted halt)) = 1

-- of the lines that a step was to do it did so many, all of them short and valid; the sink took a prefix of what these are answered, and the files stand for these, and for one more at most where the machine stopped within it
pub record DoneFrom {M : Type 0} (m : Machine M) (limit : ℕ) (old : Standing m) (before now : Option (List ℕ)) (from : M) (new : Script M) (lines : List (List ℕ)) (result : Result (Unit {0}) Stop) : Type 0 where
  pub done : ℕ
  pub within : done ≤ length lines
  pub whole : OnOk result (done ≡ length lines)
  pub counted : IfGoesOn (new.lines ≡ old.lines + done) result
  pub fixed : m.fixed new.machine ≡ m.fixed from
  pub short : AllShort limit (take done lines)
  pub valid : AllByRecursion m.valid (take done lines)
  pub wrote : TookPrefix before now (old.pending ++ answers m old.state old.lines (take done lines))
  pub any_moment : IsSettled m from old.state → PairsLeave (HoldsFrom m 0 (done + slack_of result) old.state lines) (m.disks from) (m.disks new.machine)
  pub kept : IsSettled m from old.state → IfGoesOn (m.settled new.machine) result
  pub left : IsSettled m from old.state → PairsHave (HoldsFrom m done (done + slack_of result) old.state lines) (m.disks new.machine)

-- what a step that was to take these bytes leaves, from a state
pub record LeavesFrom {M : Type 0} (m : Machine M) (limit : ℕ) (s : m.State) (old new : Script M) (before now : Option (List ℕ)) (bytes : List ℕ) (result : Result (Unit {0}) Stop) : Type 0 where
  pub comes : ComesFrom m limit s old new before now bytes result
  pub does : DoneFrom m limit (with_state m old s) before now old.machine new (ended old.unended bytes) result

-- from whichever state the machine stands in
abbrev pub Leaves : {M : Type 0} (m : Machine M) → ℕ → Script M → Script M → Option (List ℕ) → Option (List ℕ) → List ℕ → Result (Unit {0}) Stop → Type 0
Leaves m limit old new before now bytes result = (s : m.State) → m.stands old.machine s → LeavesFrom m limit s old new before now bytes result

-- what the end of the input leaves, from a state
pub record EndsFrom {M : Type 0} (m : Machine M) (limit : ℕ) (s : m.State) (old new : Script M) (before now : Option (List ℕ)) (result : Result (Unit {0}) Stop) : Type 0 where
  pub wrote : OnOk result (TookAllBut before now (old.pending ++ answers m s old.lines (last_line old.unended)) [])
  pub stands : OnOk result (m.stands new.machine (state_after m s (last_line old.unended)))
  pub does : DoneFrom m limit (with_state m old s) before now old.machine new (last_line old.unended) result

abbrev pub Ends : {M : Type 0} (m : Machine M) → ℕ → Script M → Script M → Option (List ℕ) → Option (List ℕ) → Result (Unit {0}) Stop → Type 0
Ends m limit old new before now result = (s : m.State) → m.stands old.machine s → EndsFrom m limit s old new before now result

-- ---- a whole input

-- what a step that was to take an input leaves, of which these bytes were read, the first `asked` of them before the last read was asked for
pub record TakesFrom {M : Type 0} (m : Machine M) (limit : ℕ) (s : m.State) (old new : Script M) (before now : Option (List ℕ)) (read : List ℕ) (asked : ℕ) (result : Result (Unit {0}) Stop) : Type 0 where
  pub leaves : LeavesFrom m limit s old new before now read result
  pub prompt : IsPrompt m limit s (take asked read) before now

-- whatever an input came to its end by
abbrev pub went : Result Input Stop → Result (Unit {0}) Stop
went (Ok input) = Ok tt
went (Err stop) = Err stop

-- the end of a run that stopped within its lines; a line that is too long has an end of its own
abbrev pub stopped : Stop → End
stopped LineTooLong = End.LineTooLong 0
stopped WriteFault = End.WriteFault
stopped (Halted halt) = End.Halted halt
