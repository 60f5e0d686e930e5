-- A script that was run by workers: what it leaves of the whole store, by its status.
use Rattle.std.proofs.Common.{◌≡◌, ◌≤◌, ◌⊎◌, ℕ, ◌+◌, Bool, false, IsTrue, List, [], length, inl, inr, refl, sym, subst}
use Rattle.std.specs.Prelude.{None, Some, Result, Ok, Err, IfOk, IfErr, IfSome, OnOk}
use Rattle.outside_traits.specs.Bytes.{Took, TookPrefix}
use Rattle.outside_traits.specs.CrashImages.{IsImage}
use Rattle.outside_traits.specs.DiskPairs.{Pair, PairsHave}
use Rattle.outside_traits.proofs.PairLaws.{none, pairs_now}
use Rattle.tree_model.specs.Tree.{Tree}
use Rattle.tree_model.specs.ValidTrees.{IsValidTree}
use Rattle.script_runs.specs.Whole.{piece}
use Rattle.call_contract.specs.Books.{Book, IsBookFrom}
use Rattle.session_driver.specs.Asking.{BookCall}
use Rattle.command_words.specs.Commands.{workers}
use Rattle.store_calls.specs.StoreCalls.{IsValidStoreCall, store_meaning}
use Rattle.workers_text.specs.Shown.{lines_in}
use Rattle.workers_text.specs.Entries.{Script, entries_of}
use Rattle.workers_text.specs.Limits.{IsReadScript, too_long}
use Rattle.workers_text.specs.declared.script_error.ScriptError.{ScriptError}
use Rattle.workers_text.specs.declared.script_error.ScriptError.TheVariants as script
use Rattle.workers_text.specs.WorkersText.{Line}
use Rattle.xtc.specs.Checkpoints.{AreMade, is_positive}
use Rattle.xtc.specs.Statuses.{status_of_script}
use Rattle.xtc.specs.TopCall.{IsOfOpened, IsWorkersEnd, IsWorkersOutput, NeedsWholeScript, OpenAfterCommits, Outcome, WroteWhole, durable_at, tx_limit, whole_limit}
use Rattle.xtc.specs.declared.status.Status.{Status}
use Rattle.xtc.specs.declared.status.Status.TheVariants.{Done, Usage, LineTooLong, Damaged, ReadFault, WriteFault, DiskFault, NoMemory, NotJsonMl, DocumentRefused}
use Rattle.xtc.specs.inside.Asking.{IsQuiet, IsWriteEnd}
use Rattle.xtc.specs.inside.CommandRuns.{RanWith, StandSettled}
use Rattle.xtc.specs.inside.Working.{IfWorked, InputFailed, InputWorked, IsWorkersFault, IsWorkersStop, LeavesCommits, ScriptDone, WorkedAll, WorkedSome}
use Rattle.xtc.proofs.CommandRunLaws.{LosesOnlyAt, as_error}
use Rattle.xtc.proofs.SoundBooks.{empty_legal, sound_book}
use Rattle.xtc.proofs.WorkersCommits.{images_have, opens_none}

-- ---- the whole command

module _ (t : Tree) (n every : ℕ) (formed : IsValidTree t) (old : Pair) (files : StandSettled old t n) (o : Outcome)
    (of_journal : IsImage o.new.journal.now o.new.journal.now.reads) (of_pages : IsImage o.new.pages.now o.new.pages.now.reads) (short : length o.read ≤ whole_limit + piece) where
  abbrev Whole : Type 0
  Whole = IfSome o.left (λ rest. rest ≡ [])

  abbrev Ran : Status → Type 0
  Ran status = RanWith t n tx_limit workers every status old o

  -- a crash at the start leaves none of a book's commits
  opening_has : (book : Book BookCall) → PairsHave (OpenAfterCommits t n 0 book) old
  opening_has book = images_have (OpenAfterCommits t n 0 book) old files.journal files.pages (opens_none t n book old.pages.now.reads old.journal.now.reads files.stand)

  -- lines were done, and the commits are found so
  with_book : (status : Status) (book : Book BookCall) → IsBookFrom IsValidStoreCall store_meaning t n tx_limit book → LeavesCommits t n every book old o.new → PairsHave (OpenAfterCommits t n (durable_at status book) book) o.new
      → IsWorkersOutput t n tx_limit status book o.read o.before o.now → IsWorkersEnd status o.read → NeedsWholeScript status book Whole → IsOfOpened false status
      → (status ≡ Done → IsTrue (is_positive every) → AreMade (Some workers) every t n book o.new.journal.now.reads o.new.pages.now.reads) → Ran status
  with_book status book legal leaves left output end whole undamaged made = record {
    ran = record {
      book = book;
      sound = sound_book t n tx_limit book legal;
      output = output;
      end = end;
      whole = whole;
      short = short;
      any_moment = leaves.moments;
      left = left;
      reads = left o.new.journal.now.reads o.new.pages.now.reads of_journal of_pages;
    };
    undamaged = undamaged;
    pages = leaves.still;
    made = made;
  }

  -- none was done
  with_none : (status : Status) → durable_at status [] ≡ 0 → IsWorkersOutput t n tx_limit status [] o.read o.before o.now → IsWorkersEnd status o.read → NeedsWholeScript status [] Whole → IsOfOpened false status → (status ≡ Done → ⊥)
      → o.new ≡ old → Ran status
  with_none status few output end whole undamaged other same =
      with_book status [] (empty_legal t n tx_limit formed)
      (subst (LeavesCommits t n every [] old) (sym same) (record { moments = none (OpenAfterCommits t n 0 []) old; still = λ no. refl }))
      (subst (λ (least : ℕ). PairsHave (OpenAfterCommits t n least []) o.new) (sym few) (subst (PairsHave (OpenAfterCommits t n 0 [])) (sym same) (opening_has [])))
      output end whole undamaged (λ done. absurd (other done))

  -- ---- by the answer

  abbrev lines : List (Line BookCall)
  lines = lines_in (entries_of o.read)

  all_worked : (status : Status) (text : List ℕ) → WorkedAll t n every lines old o.new text → too_long o.read ≡ None → Whole → IsWriteEnd status → WroteWhole status o.before o.now text → Ran status
  all_worked Done text all fits whole is wrote =
      with_book Done all.book all.legal all.leaves all.all.durable
      (record { text = all.text; shows = all.shows; wrote = subst (Took o.before o.now) all.bytes_are wrote }) fits whole tt (λ done some. all.all.made some)
  all_worked WriteFault text all fits whole is wrote =
      with_book WriteFault all.book all.legal all.leaves all.all.durable
      (record { text = all.text; shows = all.shows; wrote = subst (TookPrefix o.before o.now) all.bytes_are wrote }) fits whole tt (λ done. absurd cc)
  all_worked Usage text all fits whole is wrote = absurd is
  all_worked (LineTooLong line) text all fits whole is wrote = absurd is
  all_worked (Damaged place) text all fits whole is wrote = absurd is
  all_worked ReadFault text all fits whole is wrote = absurd is
  all_worked DiskFault text all fits whole is wrote = absurd is
  all_worked NoMemory text all fits whole is wrote = absurd is
  all_worked (NotJsonMl why) text all fits whole is wrote = absurd is
  all_worked (DocumentRefused why) text all fits whole is wrote = absurd is

  -- some were, and nothing is written
  left_of : (worked : WorkedSome t n every lines old o.new) → PairsHave (OpenAfterCommits t n 0 worked.book) o.new
  left_of worked = pairs_now (OpenAfterCommits t n 0 worked.book) old o.new worked.leaves.moments (opening_has worked.book)

  disk_failed : WorkedSome t n every lines old o.new → too_long o.read ≡ None → Whole → o.now ≡ o.before → Ran DiskFault
  disk_failed worked fits whole silent =
      with_book DiskFault worked.book worked.legal worked.leaves (left_of worked) (record { did = worked.did; silent = silent }) fits whole tt (λ done. absurd cc)

  memory_failed : (o.new ≡ old) ⊎ (Whole × WorkedSome t n every lines old o.new) → o.now ≡ o.before → Ran NoMemory
  memory_failed (inr it) silent =
      let worked = it.1 in
      with_book NoMemory worked.book worked.legal worked.leaves (left_of worked) (inl (record { did = worked.did; silent = silent })) tt (inr it.0) tt (λ done. absurd cc)
  memory_failed (inl same) silent = with_none NoMemory refl (inr (refl, silent)) tt (inl refl) tt (λ done. cc) same

  err_worked : (T : Type 0) (bytes : T → List ℕ) (e : Status) → InputWorked {T = T} t n every o.read Whole old o.new bytes (Err e) → IfWorked {T = T} (Err e) Whole → o.now ≡ o.before → Ran e
  err_worked T bytes DiskFault did whole silent = disk_failed did.1 did.0 whole silent
  err_worked T bytes (LineTooLong line) did whole silent = with_none (LineTooLong line) refl (refl, silent) did.0 tt tt (λ done. cc) did.1
  err_worked T bytes ReadFault did whole silent = with_none ReadFault refl (refl, silent) did.0 tt tt (λ done. cc) did.1
  err_worked T bytes NoMemory did whole silent = memory_failed did silent
  err_worked T bytes Done did whole silent = absurd did
  err_worked T bytes Usage did whole silent = absurd did
  err_worked T bytes (Damaged place) did whole silent = absurd did
  err_worked T bytes WriteFault did whole silent = absurd did
  err_worked T bytes (NotJsonMl why) did whole silent = absurd did
  err_worked T bytes (DocumentRefused why) did whole silent = absurd did

  pub workers_ran : {T : Type 0} (bytes : T → List ℕ) (r : Result T Status) (status : Status) → InputWorked t n every o.read Whole old o.new bytes r → IfWorked r Whole
      → IfOk r (λ text. IsWriteEnd status × WroteWhole status o.before o.now (bytes text)) → IfErr r (λ e. (status ≡ e) × (o.now ≡ o.before)) → Ran status
  workers_ran bytes (Ok text) status did whole written silent = all_worked status (bytes text) did.1 did.0 whole written.0 written.1
  workers_ran {T} bytes (Err e) status did whole written silent = subst Ran (sym silent.0) (err_worked T bytes e did whole silent.1)

-- ---- results

abbrev no_script : ScriptError → Result Script ScriptError
no_script error = Err error

-- damage is the only answer without a text that isn't unwritten
fault_quiet : (lost : Bool) (status : Status) → IsWorkersFault lost status → IsQuiet status
fault_quiet lost DiskFault is = tt
fault_quiet lost NoMemory is = tt
fault_quiet lost Done is = is
fault_quiet lost Usage is = is
fault_quiet lost (LineTooLong line) is = tt
fault_quiet lost (Damaged place) is = tt
fault_quiet lost ReadFault is = tt
fault_quiet lost WriteFault is = is
fault_quiet lost (NotJsonMl why) is = tt
fault_quiet lost (DocumentRefused why) is = tt

pub faults_quiet : {T : Type 0} (lost : Bool) (r : Result T Status) → IfErr r (IsWorkersFault lost) → IfErr r IsQuiet
faults_quiet lost (Ok text) is = tt
faults_quiet lost (Err why) is = fault_quiet lost why is

-- and it comes only where a page file may be lost
pub faults_lose : {T : Type 0} (lost : Bool) (r : Result T Status) → IfErr r (IsWorkersFault lost) → LosesOnlyAt lost r
faults_lose {T} lost r is place it = let here : IfErr (as_error T (Damaged place)) (IsWorkersFault lost) = subst (λ (x : Result T Status). IfErr x (IsWorkersFault lost)) it is in here

-- why it ended wrote nothing
stop_fault : (lost : Bool) (status : Status) → IsWorkersStop lost status → IsWorkersFault lost status
stop_fault lost DiskFault is = tt
stop_fault lost NoMemory is = tt
stop_fault lost Done is = is
stop_fault lost Usage is = is
stop_fault lost (LineTooLong line) is = tt
stop_fault lost (Damaged place) is = is
stop_fault lost ReadFault is = tt
stop_fault lost WriteFault is = is
stop_fault lost (NotJsonMl why) is = tt
stop_fault lost (DocumentRefused why) is = tt

pub stops_fault : {T : Type 0} (lost : Bool) (r : Result T Status) → IfErr r (IsWorkersStop lost) → IfErr r (IsWorkersFault lost)
stops_fault lost (Ok x) is = tt
stops_fault lost (Err e) is = stop_fault lost e is

-- with the input that was read
pub input_worked : {T : Type 0} (t : Tree) (n every : ℕ) (read : List ℕ) (asked : List (Line BookCall)) (whole : Type 0) (old new : Pair) (bytes : T → List ℕ) (r : Result T Status) → asked ≡ lines_in (entries_of read) → too_long read ≡ None
    → whole → ScriptDone t n every asked old new bytes r → InputWorked t n every read whole old new bytes r
input_worked t n every read asked whole old new bytes (Ok text) same fits end did = (fits, subst (λ (ls : List (Line BookCall)). WorkedAll t n every ls old new (bytes text)) same did)
input_worked t n every read asked whole old new bytes (Err DiskFault) same fits end did = (fits, subst (λ (ls : List (Line BookCall)). WorkedSome t n every ls old new) same did)
input_worked t n every read asked whole old new bytes (Err NoMemory) same fits end did = inr (end, subst (λ (ls : List (Line BookCall)). WorkedSome t n every ls old new) same did)
input_worked t n every read asked whole old new bytes (Err Done) same fits end did = did
input_worked t n every read asked whole old new bytes (Err Usage) same fits end did = did
input_worked t n every read asked whole old new bytes (Err (LineTooLong line)) same fits end did = absurd did
input_worked t n every read asked whole old new bytes (Err (Damaged place)) same fits end did = did
input_worked t n every read asked whole old new bytes (Err ReadFault) same fits end did = absurd did
input_worked t n every read asked whole old new bytes (Err WriteFault) same fits end did = did
input_worked t n every read asked whole old new bytes (Err (NotJsonMl why)) same fits end did = did
input_worked t n every read asked whole old new bytes (Err (DocumentRefused why)) same fits end did = did

-- it was read to its end where lines were done
pub worked_whole : {T : Type 0} (r : Result T Status) (P : Type 0) → P → IfWorked r P
worked_whole (Ok text) P p = p
worked_whole (Err DiskFault) P p = p
worked_whole (Err Done) P p = tt
worked_whole (Err Usage) P p = tt
worked_whole (Err (LineTooLong line)) P p = tt
worked_whole (Err (Damaged place)) P p = tt
worked_whole (Err ReadFault) P p = tt
worked_whole (Err WriteFault) P p = tt
worked_whole (Err NoMemory) P p = tt
worked_whole (Err (NotJsonMl why)) P p = tt
worked_whole (Err (DocumentRefused why)) P p = tt

pub whole_at_end : {T : Type 0} (r : Result T Status) (P : Type 0) → IfWorked r P → OnOk r P
whole_at_end (Ok text) P p = p
whole_at_end (Err e) P p = tt

-- no script was had
error_of : (error : ScriptError) (t : Tree) (n every : ℕ) (read : List ℕ) (whole : Type 0) (files : Pair) → IsReadScript read (no_script error) → InputFailed t n every read whole files files (status_of_script error)
unfolding too_long
error_of (script.TooLong line) t n every read whole files is = (is, refl)
error_of script.ReadFault t n every read whole files is = (is, refl)
error_of script.NoMemory t n every read whole files is = inl refl

pub error_worked : (error : ScriptError) (status : Status) (t : Tree) (n every : ℕ) (read : List ℕ) (whole : Type 0) (files : Pair) → status ≡ status_of_script error → IsReadScript read (no_script error) → InputFailed t n every read whole files files status
error_worked error status t n every read whole files same is = subst (InputFailed t n every read whole files files) (sym same) (error_of error t n every read whole files is)

-- why it isn't had
script_fault : (lost : Bool) (error : ScriptError) → IsWorkersFault lost (status_of_script error)
script_fault lost (script.TooLong line) = tt
script_fault lost script.ReadFault = tt
script_fault lost script.NoMemory = tt

pub error_fault : (lost : Bool) (error : ScriptError) (status : Status) → status ≡ status_of_script error → IsWorkersFault lost status
error_fault lost error status is = subst (IsWorkersFault lost) (sym is) (script_fault lost error)
