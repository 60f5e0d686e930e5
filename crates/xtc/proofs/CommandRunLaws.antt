-- What a command that ran over a store that was opened leaves, by what its parts leave.
use Rattle.std.proofs.Common.{List, ◌≡◌, ◌≤◌, ◌+◌, ◌-◌, ℕ, Bool, false, [], refl, sym, ap, subst, ◌∙◌, add-zero, arith, length}
use Rattle.std.specs.Prelude.{Option, Some, Result, Ok, Err, IfOk, IfErr, IfSome, OnOk, IsTrue}
use Rattle.outside_kinds.specs.Bounds.{input_limit}
use Rattle.outside_traits.specs.DiskPairs.{Pair}
use Rattle.outside_traits.proofs.Laws.{gave_none}
use Rattle.tree_model.specs.Entries.{Entries}
use Rattle.tree_model.specs.Tree.{Tree}
use Rattle.node_seq.specs.Trees.{StandsFor}
use Rattle.script_runs.specs.Counts as counts
use Rattle.script_runs.specs.Counts.{CountedWhere, DisksCountedWhere, ReadCountedWhere, counted}
use Rattle.script_runs.specs.Whole.{piece}
use Rattle.script_runs.specs.declared.halt.Halt.TheVariants as halt
use Rattle.script_runs.specs.declared.running.End.{End}
use Rattle.script_runs.specs.declared.running.End.TheVariants as end
use Rattle.command_words.specs.Commands.{Command, run}
use Rattle.xtc.specs.Commands.{reads_input}
use Rattle.xtc.specs.Statuses.{status_of_end}
use Rattle.xtc.specs.TopCall.{CommandRan, IsOfOpened, IsSilent, Outcome, tx_limit, whole_limit}
use Rattle.xtc.specs.declared.status.Status.{Status}
use Rattle.xtc.specs.declared.status.Status.TheVariants.{Done, Usage, LineTooLong, Damaged, ReadFault, WriteFault, DiskFault, NoMemory, NotJsonMl, DocumentRefused}
use Rattle.xtc.specs.inside.Asking.{IsQuiet, IsUnwritten, IsWriteEnd}
use Rattle.xtc.specs.Outside.{Input, Output, Disks}
use Rattle.xtc.specs.inside.CommandRuns.{RanOver, RanWith, RunsCommand, StandSettled}
use Rattle.node_records.specs.declared.open_error.Place.{Place}
use Rattle.xtc.specs.Checkpoints.{may_lose, tries}
use Rattle.xtc.proofs.StatusLaws.{LosesOnly, of_document, of_workers, script_not_silent, script_opened, silent_damaged}

-- ---- the counts of faults

-- where one thing is so exactly where another is, a fault is counted for either
counted_as : {P Q : Type 0} → (P → Q) → (Q → P) → (before now : ℕ) → CountedWhere Q before now → CountedWhere P before now
counted_as there back before now c = record { counted = λ p. c.counted (there p); exact = λ no. c.exact (λ q. no (back q)) }

disks_counted_as : {P Q : Type 0} → (P → Q) → (Q → P) → (before now : counts.Counts) → DisksCountedWhere Q before now → DisksCountedWhere P before now
disks_counted_as there back before now c = record { counted = λ p. c.counted (there p); exact = λ no. c.exact (λ q. no (back q)) }

read_counted_as : {P Q : Type 0} → (P → Q) → (Q → P) → (most before now given given_now : ℕ) → ReadCountedWhere Q most before now given given_now → ReadCountedWhere P most before now given given_now
read_counted_as there back most before now given given_now c = record { cause = λ p. c.cause (there p); exact = λ no. c.exact (λ q. no (back q)) }

-- no read failed, and none was made
pub read_never : {P : Type 0} (most faults given : ℕ) → (P → ⊥) → ReadCountedWhere P most faults faults given given
read_never most faults given never = record { cause = λ p. absurd (never p); exact = λ no. refl }

-- the counts are told by other values
pub disks_moved : {P : Type 0} (before before_now now now_now : counts.Counts) → before_now ≡ before → now_now ≡ now → DisksCountedWhere P before_now now → DisksCountedWhere P before now_now
disks_moved {P} before before_now now now_now first last c = subst (λ (x : counts.Counts × counts.Counts). DisksCountedWhere P x.0 x.1) (λ i. (first i, sym last i)) c

-- ---- a script

done_end : (e : End) → status_of_end e ≡ Done → e ≡ end.Done
done_end end.Done it = refl
done_end (end.LineTooLong line) it = absurd cc
done_end end.ReadFault it = absurd cc
done_end end.WriteFault it = absurd cc
done_end (end.Halted halt.DiskFault) it = absurd cc
done_end (end.Halted halt.NoMemory) it = absurd cc
done_end (end.Halted (halt.Damaged place)) it = absurd cc

read_end : (e : End) → status_of_end e ≡ ReadFault → e ≡ end.ReadFault
read_end end.Done it = absurd cc
read_end (end.LineTooLong line) it = absurd cc
read_end end.ReadFault it = refl
read_end end.WriteFault it = absurd cc
read_end (end.Halted halt.DiskFault) it = absurd cc
read_end (end.Halted halt.NoMemory) it = absurd cc
read_end (end.Halted (halt.Damaged place)) it = absurd cc

write_end : (e : End) → status_of_end e ≡ WriteFault → e ≡ end.WriteFault
write_end end.Done it = absurd cc
write_end (end.LineTooLong line) it = absurd cc
write_end end.ReadFault it = absurd cc
write_end end.WriteFault it = refl
write_end (end.Halted halt.DiskFault) it = absurd cc
write_end (end.Halted halt.NoMemory) it = absurd cc
write_end (end.Halted (halt.Damaged place)) it = absurd cc

disk_end : (e : End) → status_of_end e ≡ DiskFault → e ≡ end.Halted halt.DiskFault
disk_end end.Done it = absurd cc
disk_end (end.LineTooLong line) it = absurd cc
disk_end end.ReadFault it = absurd cc
disk_end end.WriteFault it = absurd cc
disk_end (end.Halted halt.DiskFault) it = refl
disk_end (end.Halted halt.NoMemory) it = absurd cc
disk_end (end.Halted (halt.Damaged place)) it = absurd cc

-- the script's end is the status
pub script_runs : (journal_known pages_known : Bool) (map : Option Entries) (number every : ℕ) (e : End) (input input_now : Input) (output output_now : Output) (disks disks_now : Disks)
    → RanOver journal_known pages_known map number run every (status_of_end e) input input_now output output_now disks.files disks_now.files
    → (e ≡ end.Done → IfSome input_now.left (λ rest. rest ≡ []))
    → input_now.given ≤ input.given + input_limit
    → ReadCountedWhere (e ≡ end.ReadFault) input_limit input.faults input_now.faults input.given input_now.given
    → CountedWhere (e ≡ end.WriteFault) output.faults output_now.faults
    → DisksCountedWhere (e ≡ end.Halted halt.DiskFault) disks.faults disks_now.faults
    → LosesOnly (may_lose (Some run) every pages_known) e
    → RunsCommand journal_known pages_known map number run every (status_of_end e) input input_now output output_now disks disks_now
script_runs journal_known pages_known map number every e input input_now output output_now disks disks_now ran whole bound read write disk loses = record {
  ran = ran;
  whole = λ reads is. whole (done_end e is);
  bound = bound;
  silent = script_not_silent (may_lose (Some run) every pages_known) e _ loses;
  opened = script_opened (may_lose (Some run) every pages_known) e loses;
  read = read_counted_as (read_end e) (ap status_of_end) _ _ _ _ _ read;
  write = counted_as (write_end e) (ap status_of_end) _ _ write;
  disk = disks_counted_as (disk_end e) (ap status_of_end) _ _ disk;
}

-- there was no memory to begin, and nothing was read or written
pub nothing_runs : (journal_known pages_known : Bool) (map : Option Entries) (number every : ℕ) (input : Input) (output : Output) (disks disks_now : Disks)
    → (IsTrue journal_known → IsTrue pages_known → (t : Tree) → StandsFor map t → StandSettled disks.files t number → (old : Pair)
    → RanWith t number tx_limit run every NoMemory disks.files (record { read = []; asked = input.asked - input.given; left = input.left; before = output.held; now = output.held; old = old; new = disks_now.files }))
    → disks_now.faults ≡ disks.faults
    → RunsCommand journal_known pages_known map number run every NoMemory input input output output disks disks_now
nothing_runs journal_known pages_known map number every input output disks disks_now ran same = record {
  ran = ([], gave_none input.left, sym (add-zero input.given), ran);
  whole = λ reads is. absurd cc;
  bound = omega arith;
  silent = tt;
  opened = tt;
  read = read_never input_limit input.faults input.given (λ it. cc);
  write = record { counted = λ it. absurd cc; exact = λ no. refl };
  disk = record { counted = λ it. absurd cc; exact = λ no. same };
}

-- ---- a command of one document

-- an answer that there is no text
abbrev pub as_error : (T : Type 0) → Status → Result T Status
as_error T e = Err e

-- where nothing was written
silent_as : (c : Command) (lost : Bool) (status : Status) (P : Type 0) → P → IsSilent (Some c) lost status P
silent_as c lost Done P p = tt
silent_as c lost WriteFault P p = tt
silent_as c lost DiskFault P p = of_workers (Some c) P p
silent_as c lost NoMemory P p = of_workers (Some c) P p
silent_as c lost Usage P p = p
silent_as c lost (Damaged place) P p = silent_damaged (Some c) lost place P p
silent_as c lost (NotJsonMl why) P p = p
silent_as c lost (DocumentRefused why) P p = p
silent_as c lost (LineTooLong line) P p = of_document (Some c) P p
silent_as c lost ReadFault P p = of_document (Some c) P p

-- a status with which writing ends asks for no silence, and a store was opened
write_end_is : (c : Command) (lost : Bool) (status : Status) (P : Type 0) → IsWriteEnd status → IsSilent (Some c) lost status P × IsOfOpened lost status
write_end_is c lost Done P is = (tt, tt)
write_end_is c lost WriteFault P is = (tt, tt)
write_end_is c lost Usage P is = absurd is
write_end_is c lost (LineTooLong line) P is = absurd is
write_end_is c lost (Damaged place) P is = absurd is
write_end_is c lost ReadFault P is = absurd is
write_end_is c lost DiskFault P is = absurd is
write_end_is c lost NoMemory P is = absurd is
write_end_is c lost (NotJsonMl why) P is = absurd is
write_end_is c lost (DocumentRefused why) P is = absurd is

-- a status with which there is nothing to write is one of a store that was opened
unwritten_opened : (lost : Bool) (status : Status) → IsQuiet status → ((place : Place) → status ≡ Damaged place → IsTrue lost) → IsOfOpened lost status
unwritten_opened lost Done is loses = tt
unwritten_opened lost WriteFault is loses = tt
unwritten_opened lost Usage is loses = is
unwritten_opened lost (Damaged place) is loses = loses place refl
unwritten_opened lost (LineTooLong line) is loses = tt
unwritten_opened lost ReadFault is loses = tt
unwritten_opened lost DiskFault is loses = tt
unwritten_opened lost NoMemory is loses = tt
unwritten_opened lost (NotJsonMl why) is loses = tt
unwritten_opened lost (DocumentRefused why) is loses = tt

-- how a command ends, by the text that there is to write: as writing it ends, or as there is none
abbrev pub EndsBy : {T : Type 0} → Result T Status → Status → Type 0 → Type 0
EndsBy (Ok text) status silent = IsWriteEnd status
EndsBy (Err why) status silent = IsQuiet why × (status ≡ why) × silent

pub ends_by : {T : Type 0} (r : Result T Status) (status : Status) (silent : Type 0) (W : T → Type 0)
    → IfErr r IsQuiet → IfOk r (λ text. IsWriteEnd status × W text) → IfErr r (λ why. (status ≡ why) × silent) → EndsBy r status silent
ends_by (Ok text) status silent W unwritten written none = written.0
ends_by (Err why) status silent W unwritten written none = (unwritten, none.0, none.1)

ends_silent : {T : Type 0} (c : Command) (lost : Bool) (r : Result T Status) (status : Status) (P : Type 0) → EndsBy r status P → IsSilent (Some c) lost status P
ends_silent c lost (Ok text) status P is = (write_end_is c lost status P is).0
ends_silent c lost (Err why) status P is = silent_as c lost status P is.2

-- it ends as damage only where a file may be lost
abbrev pub LosesOnlyAt : {T : Type 0} → Bool → Result T Status → Type 0
LosesOnlyAt {T} lost r = (place : Place) → r ≡ as_error T (Damaged place) → IsTrue lost

ends_opened : {T : Type 0} (c : Command) (lost : Bool) (r : Result T Status) (status : Status) (P : Type 0) → EndsBy r status P → LosesOnlyAt lost r → IsOfOpened lost status
ends_opened c lost (Ok text) status P is loses = (write_end_is c lost status P is).1
ends_opened {T} c lost (Err why) status P is loses = subst (IsOfOpened lost) (sym is.1) (unwritten_opened lost why is.0 (λ place it. loses place (ap (as_error T) it)))

-- what is unwritten is quiet, and no damage
quiet : (status : Status) → IsUnwritten status → IsQuiet status
quiet Done is = is
quiet WriteFault is = is
quiet Usage is = is
quiet (Damaged place) is = tt
quiet (LineTooLong line) is = tt
quiet ReadFault is = tt
quiet DiskFault is = tt
quiet NoMemory is = tt
quiet (NotJsonMl why) is = tt
quiet (DocumentRefused why) is = tt

pub quiets : {T : Type 0} (r : Result T Status) → IfErr r IsUnwritten → IfErr r IsQuiet
quiets (Ok text) is = tt
quiets (Err why) is = quiet why is

pub not_lost : {T : Type 0} (r : Result T Status) → IfErr r IsUnwritten → (place : Place) → r ≡ as_error T (Damaged place) → ⊥
not_lost {T} r is place it = let no : IfErr (as_error T (Damaged place)) IsUnwritten = subst (λ (x : Result T Status). IfErr x IsUnwritten) it is in no

-- what holds where there is a text holds at the end of the command
ends_done : {T : Type 0} (r : Result T Status) (status : Status) (P W : Type 0) → EndsBy r status P → OnOk r W → status ≡ Done → W
ends_done (Ok text) status P W is holds done = holds
ends_done (Err why) status P W is holds done = absurd (subst IsQuiet (sym is.1 ∙ done) is.0)

error_of : {T : Type 0} {e f : Status} → as_error T e ≡ as_error T f → e ≡ f
error_of it = cc

-- a status with which no writing ends is that of a text that isn't there
ends_there : {T : Type 0} (r : Result T Status) (status x : Status) (P : Type 0) → (IsWriteEnd x → ⊥) → EndsBy r status P → status ≡ x → r ≡ Err x
ends_there (Ok text) status x P apart is it = absurd (apart (subst IsWriteEnd it is))
ends_there {T} (Err why) status x P apart is it = ap (as_error T) (sym is.1 ∙ it)

ends_back : {T : Type 0} (r : Result T Status) (status x : Status) (P : Type 0) → EndsBy r status P → r ≡ Err x → status ≡ x
ends_back (Ok text) status x P is it = absurd cc
ends_back (Err why) status x P is it = is.1 ∙ error_of it

-- what an input of a command of one document may give is within what one run takes
pub put_within : (given given_now : ℕ) (read : List ℕ) → given_now ≡ given + length read → length read ≤ whole_limit + piece → given_now ≤ given + input_limit
put_within given given_now read sum within = omega (arith, sum, within)

-- the count of a source's faults alone says why a read failed
pub by_count : {P : Type 0} (most before now given given_now : ℕ) → CountedWhere P before now → ReadCountedWhere P most before now given given_now
by_count most before now given given_now c = record { cause = λ p. counted (c.counted p); exact = c.exact }

pub document_runs : {T : Type 0} (journal_known pages_known : Bool) (map : Option Entries) (number : ℕ) (c : Command) (every : ℕ) (r : Result T Status) (status : Status)
    (input input_now : Input) (output output_now : Output) (disks disks_now : Disks)
    → EndsBy r status (output_now.held ≡ output.held)
    → LosesOnlyAt (may_lose (Some c) every pages_known) r
    → RanOver journal_known pages_known map number c every status input input_now output output_now disks.files disks_now.files
    → (IsTrue (reads_input (Some c)) → OnOk r (IfSome input_now.left (λ rest. rest ≡ [])))
    → input_now.given ≤ input.given + input_limit
    → ReadCountedWhere (r ≡ Err ReadFault) input_limit input.faults input_now.faults input.given input_now.given
    → CountedWhere (status ≡ WriteFault) output.faults output_now.faults
    → DisksCountedWhere (r ≡ Err DiskFault) disks.faults disks_now.faults
    → RunsCommand journal_known pages_known map number c every status input input_now output output_now disks disks_now
document_runs journal_known pages_known map number c every r status input input_now output output_now disks disks_now ends loses ran whole bound read write counts =
    let P : Type 0 = output_now.held ≡ output.held in
    let lost : Bool = may_lose (Some c) every pages_known in
    record {
      ran = ran;
      whole = λ reads is. ends_done r status P _ ends (whole reads) is;
      bound = bound;
      silent = ends_silent c lost r status P ends;
      opened = ends_opened c lost r status P ends loses;
      read = read_counted_as (ends_there r status ReadFault P (λ no. no) ends) (ends_back r status ReadFault P ends) _ _ _ _ _ read;
      write = write;
      disk = disks_counted_as (ends_there r status DiskFault P (λ no. no) ends) (ends_back r status DiskFault P ends) _ _ counts;
    }

-- ---- a command that makes no checkpoints

-- nothing is lost, and the pages aren't written
pub without_checkpoints : (t : Tree) (n limit : ℕ) (c : Command) (every : ℕ) (status : Status) (opening : Pair) (o : Outcome) → tries (Some c) every ≡ false → CommandRan t n limit (Some c) status opening o → IsOfOpened false status → o.new.pages ≡ opening.pages
    → RanWith t n limit c every status opening o
without_checkpoints t n limit c every status opening o none ran opened still = record {
  ran = ran;
  undamaged = opened;
  pages = λ no. still;
  made = λ done some. absurd (let no : IsTrue false = subst IsTrue none some in cc);
}

-- the end of such a command is no damage
pub ends_undamaged : {T : Type 0} (c : Command) (r : Result T Status) (status : Status) (P : Type 0) → EndsBy r status P → ((place : Place) → r ≡ as_error T (Damaged place) → ⊥) → IsOfOpened false status
ends_undamaged c r status P ends sound = ends_opened c false r status P ends (λ place it. absurd (sound place it))
