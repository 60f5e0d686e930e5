-- What a run of a script leaves, by its end.
use Rattle.std.specs.Prelude.{◌≡◌, ◌⊎◌, ℕ, ◌+◌, ◌-◌, ◌≤◌, List, [], ◌++◌, length, take, Option, Some, IfSome}
use Rattle.std.specs.List.{AllByRecursion}
use Rattle.outside_kinds.specs.Bounds.{input_limit}
use Rattle.outside_traits.specs.Bytes.{Took, TookPrefix}
use Rattle.outside_traits.specs.DiskPairs.{PairsHave, PairsLeave}
use Rattle.script_runs.specs.Counts.{CountedWhere, DisksCountedWhere, ReadCountedWhere, Tally}
use Rattle.script_runs.specs.Lines.{line_limit, ended, lines_of, first_long, AllShort}
use Rattle.script_runs.specs.Machine.{Machine, IsSettled}
use Rattle.script_runs.specs.Reads.{GaveSome}
use Rattle.script_runs.specs.Texts.{state_after, text_of, script_text}
use Rattle.script_runs.specs.declared.halt.Halt.TheVariants.{DiskFault}
use Rattle.script_runs.specs.declared.running.End.{End}
use Rattle.script_runs.specs.declared.running.End.TheVariants.{Done, LineTooLong, ReadFault, WriteFault, Halted}

-- the lines that a run was to do: those that have ended, and at the end of the input the last one too
abbrev pub AskedLines : Option (List ℕ) → List ℕ → List (List ℕ) → Type 0
AskedLines left read lines = (lines ≡ ended [] read) ⊎ (IfSome left (λ rest. rest ≡ []) × (lines ≡ lines_of read))

-- two files stand for what is committed after some of these lines, `least` at least and `most` at most
pub record HoldsFrom {M : Type 0} (m : Machine M) (least most : ℕ) (s : m.State) (lines : List (List ℕ)) (journal pages : List ℕ) : Type 0 where
  pub count : ℕ
  pub enough : least ≤ count
  pub bound : count ≤ most
  pub within : count ≤ length lines
  pub holds : m.holds (state_after m s (take count lines)) journal pages

-- how many lines more than those that are done a crash may find committed
abbrev pub slack_at : End → ℕ
slack_at (Halted halt) = 1
slack_at end = 0

-- the sink took this text, and maybe more behind it
abbrev pub TookAtLeast : Option (List ℕ) → Option (List ℕ) → List ℕ → Type 0
TookAtLeast before now text = (more : List ℕ) × Took before now (text ++ more)

-- what holds where a read is asked for behind these bytes: the lines that ended are answered and their answers written, and none is too long, nor is what has come of the next
pub record IsPrompt {M : Type 0} (m : Machine M) (limit : ℕ) (s : m.State) (bytes : List ℕ) (before now : Option (List ℕ)) : Type 0 where
  pub wrote : TookAtLeast before now (text_of m s (ended [] bytes))
  pub short : AllShort limit (lines_of bytes)

-- what is known besides, by the end
abbrev pub IsExact : {M : Type 0} (m : Machine M) → ℕ → m.State → End → List ℕ → Option (List ℕ) → Option (List ℕ) → List (List ℕ) → ℕ → Type 0
IsExact m limit s Done read before now lines done = (done ≡ length lines) × (lines ≡ lines_of read) × Took before now (script_text m s read)
IsExact m limit s (LineTooLong n) read before now lines done = (n ≡ done + 1) × (first_long limit 1 (lines_of read) ≡ Some n) × Took before now (text_of m s (take done lines))
IsExact m limit s ReadFault read before now lines done = (done ≡ length lines) × (lines ≡ ended [] read) × Took before now (text_of m s lines) × AllShort limit (lines_of read)
IsExact m limit s end read before now lines done = Unit {0}

-- where a run ends with its lines done and answered, this holds
abbrev pub IfAnswered : End → Type 0 → Type 0
IfAnswered Done P = P
IfAnswered (LineTooLong n) P = P
IfAnswered ReadFault P = P
IfAnswered end P = Unit {0}

-- where a run ends with the whole input, this holds
abbrev pub IfDone : End → Type 0 → Type 0
IfDone Done P = P
IfDone end P = Unit {0}

-- each end that a fault brings has its count that rose, and no count rose at another end: the source's, the sink's, and those of the machine's disks
pub record FaultsCounted (end : End) (before now : Tally) : Type 0 where
  pub read : ReadCountedWhere (end ≡ ReadFault) input_limit before.read now.read before.given now.given
  pub write : CountedWhere (end ≡ WriteFault) before.write now.write
  pub disk : DisksCountedWhere (end ≡ Halted DiskFault) before.disks now.disks

-- `FaultsCounted` of a run: `given` and `faults` are the source's, and `write_faults` the sink's
abbrev pub CountsRunFaults : {S K M : Type 0} (m : Machine M) → (S → ℕ) → (S → ℕ) → (K → ℕ) → M → M → S → S → K → K → End → Type 0
CountsRunFaults m given faults write_faults old new source source_now sink sink_now how =
    FaultsCounted how
    (record { read = faults source; given = given source; write = write_faults sink; disks = m.faults old })
    (record { read = faults source_now; given = given source_now; write = write_faults sink_now; disks = m.faults new })

-- A run from this state, of which these bytes were read, the first `asked` of them before the last read was asked for.
-- Of the lines that it was to do it did so many, all short and valid; the sink took a prefix of what these are answered;
-- and the files stand for these, and for one more at most where the machine stopped within it.
pub record Ran {M : Type 0} (m : Machine M) (limit : ℕ) (s : m.State) (end : End) (read : List ℕ) (asked : ℕ) (left_now : Option (List ℕ)) (before now : Option (List ℕ)) (old new : M) : Type 0 where
  pub lines : List (List ℕ)
  pub asked_for : AskedLines left_now read lines
  pub done : ℕ
  pub within : done ≤ length lines
  pub short : AllShort limit (take done lines)
  pub valid : AllByRecursion m.valid (take done lines)
  pub wrote : TookPrefix before now (text_of m s (take done lines))
  pub exact : IsExact m limit s end read before now lines done
  pub prompt : IsPrompt m limit s (take asked read) before now
  pub any_moment : IsSettled m old s → PairsLeave (HoldsFrom m 0 (done + slack_at end) s lines) (m.disks old) (m.disks new)
  pub left : IsSettled m old s → PairsHave (HoldsFrom m done (done + slack_at end) s lines) (m.disks new)
  pub settled : IsSettled m old s → IfAnswered end (m.settled new)
  pub fixed : m.fixed new ≡ m.fixed old
  pub stands : IfDone end (m.stands new (state_after m s lines))

-- The source gave bytes, and they were run as a script from whichever state the machine stood in.
-- `left`, `given` and `asked` are the source's, and `held` is the sink's.
abbrev pub RunsInput : {S K M : Type 0} (m : Machine M) → (S → Option (List ℕ)) → (S → ℕ) → (S → ℕ) → (K → Option (List ℕ)) → M → M → S → S → K → K → End → Type 0
RunsInput m left given asked held old new source source_now sink sink_now how =
    GaveSome left given source source_now (λ read. (s : m.State) → m.stands old s
    → Ran m line_limit s how read (asked source_now - given source) (left source_now) (held sink) (held sink_now) old new)
