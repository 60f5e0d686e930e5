-- The generator's command: what it leaves of the whole store, by its status.
use Rattle.std.proofs.Common.{◌≡◌, ℕ, ◌≤◌, ◌+◌, Bool, true, false, not, ◌&&◌, IsTrue, List, [], ◌∷◌, ◌++◌, length, inl, ⊎_elim, refl, sym, ap, subst, ◌∙◌, append-nil, add-zero, arith}
use Rattle.std.specs.Prelude.{Option, Some, Result, Ok, Err, IfOk, IfErr, IfSome}
use Rattle.std.specs.Result.{IsErrAnd}
use Rattle.std.proofs.lemmas.List.{append_assoc, length-append}
use Rattle.outside_traits.specs.Bytes.{Took, TookPrefix}
use Rattle.outside_traits.specs.CrashImages.{IsImage}
use Rattle.outside_traits.specs.DiskPairs.{Pair, PairsHave, PairsLeave}
use Rattle.outside_traits.specs.Moments.{History}
use Rattle.outside_traits.proofs.Laws.{gave_none}
use Rattle.outside_traits.proofs.PairLaws.{none as unmoved, pairs_weaker}
use Rattle.tree_model.specs.Entries.{Entries}
use Rattle.tree_model.specs.Tree.{Tree, map_of}
use Rattle.tree_model.specs.ValidTrees.{IsValidTree}
use Rattle.tree_model.specs.declared.refusal.Refusal.TheVariants.{DocumentExists}
use Rattle.node_seq.specs.Trees.{StandsFor}
use Rattle.journal.specs.Appends.{groups_in}
use Rattle.checkpoint.specs.Bases.{contents_of}
use Rattle.checkpoint.specs.Renewals.{pages_of as base_pages}
use Rattle.checkpoint.specs.declared.base.Base.{Base}
use Rattle.call_contract.specs.Books.{Book, commits}
use Rattle.call_contract.specs.SerialRuns.{serial}
use Rattle.call_contract.specs.Sessions.{commits_in}
use Rattle.call_contract.specs.States.{State, start}
use Rattle.session_driver.specs.Asking.{BookCall}
use Rattle.command_words.specs.Commands.{Command, gen}
use Rattle.script_runs.specs.Counts.{Counts, CountedWhere, DisksCountedWhere}
use Rattle.session_driver.specs.Lines.{Asked}
use Rattle.store_calls.specs.StoreCalls.{store_meaning}
use Rattle.workload_gen.specs.Scripts.{script}
use Rattle.workload_gen.specs.Summaries.{nothing_yet, summary_text}
use Rattle.workload_gen.specs.declared.summary.Summary.{Summary}
use Rattle.durable_sessions.specs.Durable.{HoldState}
use Rattle.durable_sessions.specs.Reasons.{first_reason, limit_of}
use Rattle.durable_sessions.specs.declared.in_turn.Stop.{Stop}
use Rattle.durable_sessions.specs.declared.in_turn.Stop.TheVariants as stop
use Rattle.durable_sessions.specs.declared.reasons.Reason.TheVariants as reason
use Rattle.xtc.specs.Book.{after_asked}
use Rattle.xtc.specs.Checkpoints.{AreMade, HoldFirst, is_positive, is_tried, last_made, tries}
use Rattle.xtc.specs.Documents.{asks_of, end_by, end_of, gen_asks_of, has_documents, text_of}
use Rattle.xtc.specs.Generated.{generated}
use Rattle.xtc.specs.Statuses.{status_of_stop}
use Rattle.xtc.specs.StoreMachine.{HasRested, KeptStore, file_in, file_of}
use Rattle.xtc.specs.TopCall.{AreFirst, DocumentRan, IsDocumentEnd, IsOfOpened, IsWithin, OpenAfter, OpenAfterAsked, Outcome, WroteWhole, tx_limit}
use Rattle.xtc.specs.declared.status.Status.{Status}
use Rattle.xtc.specs.declared.status.Status.TheVariants.{Done, Usage, LineTooLong, Damaged, ReadFault, WriteFault, DiskFault, NoMemory, NotJsonMl, DocumentRefused}
use Rattle.xtc.specs.inside.Asking.{AreValidAsks, IsQuiet, IsWriteEnd, after, said}
use Rattle.xtc.specs.Outside.{Input, Output}
use Rattle.xtc.specs.inside.CommandRuns.{RanWith, RunsCommand}
use Rattle.xtc.specs.inside.Counting.{AllCounted, AnsweredOver, GoesOn, HoldFirstAsked, IsStopIf, StoppedOver}
use Rattle.xtc.specs.inside.Generating.{DoneOverFiles, FromTree, HasTextOver, WentOver}
use Rattle.xtc.specs.inside.Renewing.{ReadsGroups, StandFor, files_of}
use Rattle.xtc.specs.inside.Showing.{IsHalt}
use Rattle.xtc.proofs.AskedLaws.{asked_sound, opens_after_asked}
use Rattle.xtc.proofs.CheckpointLaws.{committed_counted}
use Rattle.xtc.proofs.CommandRunLaws.{document_runs, ends_by, read_never}
use Rattle.xtc.proofs.CountedLines.{standing_images, stopped_after}
use Rattle.xtc.proofs.CountingLaws.{script_asked}
use Rattle.xtc.proofs.DocumentLaws.{end_is, few_by, none_first, opens_first}
use Rattle.xtc.proofs.MadeLaws.{are_made}

-- ---- nothing is asked

module _ (s : State BookCall) (c : Command) (files : Pair) (stand : StandFor s files) where
  pub nothing_went : (status : Status) → IsDocumentEnd c s [] status [] → WentOver s c files files status
  nothing_went status end = record {
    answered = [];
    more = [];
    first = none_first (asks_of c s []);
    few = omega arith;
    valid = tt;
    stops = record { front = []; last = []; parts = refl; one = omega arith; unrefused = refl };
    end = end;
    moments = unmoved (HoldFirstAsked s []) files;
    left = λ j p is_j is_p. inl (standing_images s files stand j p is_j is_p);
  }

  -- a disk failed, or memory was wanting
  pub halted_went : (why : Stop) → IsHalt why → WentOver s c files files (status_of_stop why)
  halted_went (stop.Refused why) halts = absurd halts
  halted_went stop.DiskFault halts = nothing_went DiskFault tt
  halted_went stop.NoMemory halts = nothing_went NoMemory tt

-- a store with documents
pub documents_went : (s : State BookCall) (seed count : ℕ) (files : Pair) → StandFor s files → has_documents s.tree ≡ true → WentOver s (gen seed count) files files (DocumentRefused (reason.Call DocumentExists))
documents_went s seed count files stand some =
    nothing_went s (gen seed count) files stand (DocumentRefused (reason.Call DocumentExists)) (record {
      end = ap (λ (b : Bool). end_of (gen seed count) s (gen_asks_of b seed count)) some;
      behind = λ may. subst (λ (b : Bool). IfOk (gen_asks_of b seed count) (λ asks. end_of (gen seed count) s (Ok []) ≡ DocumentRefused (reason.Call DocumentExists))) (sym some) tt;
    })

-- ---- the script

module _ (s : State BookCall) (seed count : ℕ) (empty : has_documents s.tree ≡ false) where
  abbrev command : Command
  command = gen seed count

  abbrev all : List (Asked BookCall)
  all = generated (script seed count)

  asks : asks_of command s [] ≡ Ok all
  asks = script_asked s seed count empty

  -- it stopped
  pub stopped_went : (old new : Pair) (status : Status) → StoppedOver s all old new status → WentOver s command old new status
  stopped_went old new status h =
      subst (λ (x : Status). WentOver s command old new x) (sym h.named) (record {
        answered = h.answered;
        more = h.more;
        first = subst (AreFirst (h.answered ++ h.more)) (sym asks) (h.rest, append_assoc h.answered h.more h.rest ∙ h.parts);
        few = few_by false s command [] all asks (omega arith) old.journal new.journal h.stop (said s h.answered) h.more h.cause h.one;
        valid = h.valid;
        stops = h.stops;
        end = end_is false s command [] all asks (omega arith) old.journal new.journal h.stop h.answered h.more h.rest h.parts h.cause;
        moments = h.moments;
        left = h.left;
      })

  module _ {P : Type 0} (is_known : Bool) (history : P → History) (old new : KeptStore P) (h : AnsweredOver is_known history s all old new) where
    -- all was answered, and memory was wanting for the text
    pub unwritten_went : WentOver s command (files_of history old) (files_of history new) NoMemory
    unwritten_went =
        stopped_went (files_of history old) (files_of history new) NoMemory
        (stopped_after s all [] all (files_of history old) (files_of history new) stop.NoMemory (append-nil all) h.valid h.unrefused tt h.moments (standing_images (after s all) (files_of history new) h.files))

    whole : all ++ [] ≡ all
    whole = append-nil all

    -- or it went to its end
    abbrev all_went : WentOver s command (files_of history old) (files_of history new) Done
    all_went = record {
      answered = all;
      more = [];
      first = subst (AreFirst (all ++ [])) (sym asks) ([], append-nil (all ++ []) ∙ whole);
      few = omega arith;
      valid = subst AreValidAsks (sym whole) h.valid;
      stops = record { front = all; last = []; parts = refl; one = omega arith; unrefused = h.unrefused };
      end = (asks ∙ ap Ok (sym whole), ap (λ (l : List (Asked BookCall)). end_by (first_reason limit_of (said s l))) whole ∙ ap end_by h.unrefused);
      moments = subst (λ (l : List (Asked BookCall)). PairsLeave (HoldFirstAsked s l) (files_of history old) (files_of history new)) (sym whole) h.moments;
      left = λ j p is_j is_p. inl (standing_images (after s all) (files_of history new) h.files j p is_j is_p);
    }

-- ---- checkpoints

-- what the pages are asked at a command's end
record Options : Type 0 where
  every : ℕ
  number : ℕ
  book : Book BookCall
  count : ℕ
  pages : History

module _ {P : Type 0} (is_known : Bool) (history : P → History) (known : IsTrue is_known) (t : Tree) (n : ℕ) (formed : IsValidTree t) (m : KeptStore P) where
  -- the pages hold what the last checkpoint has made of them, and the journal the commits behind it
  pub made_at_end : (seed count every : ℕ) (asked : List (Asked BookCall)) → AreValidAsks asked → HasRested is_known history m → StandsFor (contents_of is_known history m.core.opening) t → m.core.number ≡ n → m.checkpoints.every ≡ every
      → m.core.book ≡ (after_asked (start t n tx_limit) asked).book → StandFor (after (start t n tx_limit) asked) (files_of history m) → ReadsGroups true m.journal → IsTrue (is_positive every)
      → AreMade (Some (gen seed count)) every t n (after_asked (start t n tx_limit) asked).book m.journal.history.now.reads (file_in history m).now.reads
  made_at_end seed count every asked valid rested stands number_is every_is book_is files reads some =
      let book : Book BookCall = (after_asked (start t n tx_limit) asked).book in
      let counted_is : length (commits m.core.book) ≡ commits_in m.core.book = committed_counted t m.core.number m.core.limit m.core.book (rested.answered.legal t stands) in
      let seen_is : m.checkpoints.seen ≡ length (commits book) = rested.all ∙ sym counted_is ∙ ap (λ (b : Book BookCall). length (commits b)) book_is in
      let pages_is : base_pages history m.core.base ≡ file_in history m = ap (λ (p : Option P). file_of history m.core.base p) (sym rested.answered.inside) in
      let held : IfSome (last_made (is_tried m.checkpoints.every) t m.core.number m.core.book m.checkpoints.seen) (λ k. HoldFirst t m.core.number m.core.book k (base_pages history m.core.base).now.reads)
      = rested.answered.made known (subst (λ (x : ℕ). IsTrue (is_positive x)) (sym every_is) some) t stands in
      let held_now : IfSome (last_made (is_tried every) t n book (length (commits book))) (λ k. HoldFirst t n book k (file_in history m).now.reads)
      = subst (λ (x : Options). IfSome (last_made (is_tried x.every) t x.number x.book x.count) (λ k. HoldFirst t x.number x.book k x.pages.now.reads))
      (λ i. record { every = every_is i; number = number_is i; book = book_is i; count = seen_is i; pages = pages_is i }) held in
      let opens : OpenAfter t n book m.journal.history.now.reads (file_in history m).now.reads
      = opens_after_asked t n tx_limit formed asked valid m.journal.history.now.reads (file_in history m).now.reads files.holds in
      let groups = reads refl rested.answered.may.usable.unfailed rested.answered.may.usable.unheld in
      are_made (gen seed count) every t n book m.journal.history.now.reads (file_in history m).now.reads (groups_in m.journal.history) groups.0 groups.1 (map_of (serial store_meaning (commits book) t).tree) opens.opens held_now

-- ---- the text

module _ {P : Type 0} (is_known : Bool) (history : P → History) (t : Tree) (n seed count every : ℕ) (empty : has_documents t ≡ false) (old new : KeptStore P) (summary : Summary)
    (ran : AllCounted is_known history (start t n tx_limit) (script seed count) old new (nothing_yet count) summary) where
  abbrev asked : List (Asked BookCall)
  asked = generated (script seed count)

  pub has_text : (text : List ℕ) → text ≡ summary_text summary ++ 10 ∷ []
      → (IsTrue (is_positive every) → AreMade (Some (gen seed count)) every t n (after_asked (start t n tx_limit) asked).book new.journal.history.now.reads (file_in history new).now.reads)
      → HasTextOver t n (gen seed count) every (files_of history old) (files_of history new) text
  has_text text is made = record {
    went = all_went (start t n tx_limit) seed count empty is_known history old new ran.answered;
    shown = is ∙ ap (λ (m : Summary). summary_text m ++ 10 ∷ []) ran.counts;
    made = λ some. subst (λ (l : List (Asked BookCall)). AreMade (Some (gen seed count)) every t n (after_asked (start t n tx_limit) l).book new.journal.history.now.reads (file_in history new).now.reads) (sym (append-nil asked)) (made some);
  }

  -- where the store goes on from its opening, and its journal is read as commits
  pub goes_to_text : (text : List ℕ) → text ≡ summary_text summary ++ 10 ∷ [] → IsTrue is_known → StandsFor (contents_of is_known history old.core.opening) t → old.core.number ≡ n → old.core.book ≡ [] → old.checkpoints.every ≡ every
      → GoesOn is_known history old new → ReadsGroups true new.journal → HasTextOver t n (gen seed count) every (files_of history old) (files_of history new) text
  goes_to_text text is known stands number_is empty_book every_is on reads =
      has_text text is (made_at_end is_known history known t n stands.valid new seed count every asked ran.answered.valid on.rested
      (subst (λ (b : Base P). StandsFor (contents_of is_known history b) t) (sym on.opening) stands) (on.number ∙ number_is) (on.every ∙ every_is)
      (ran.answered.book ∙ ap (λ (b : Book BookCall). b ++ (after_asked (start t n tx_limit) asked).book) empty_book) ran.answered.files reads)

-- an error that is answered for this status
pub done_failed : {T : Type 0} (r : Result T Status) (status : Status) (t : Tree) (n : ℕ) (c : Command) (every : ℕ) (old new : Pair) (bytes : T → List ℕ)
    → IsErrAnd r (λ e. e ≡ status) → WentOver (start t n tx_limit) c old new status → DoneOverFiles t n c every old new bytes r
done_failed (Ok x) status t n c every old new bytes none went = absurd none
done_failed (Err e) status t n c every old new bytes is went = subst (WentOver (start t n tx_limit) c old new) (sym is) went

-- ---- what is written

-- a command that went, with what it wrote
record WentAndWrote (t : Tree) (n : ℕ) (c : Command) (every : ℕ) (old new : Pair) (status : Status) (before now : Option (List ℕ)) : Type 0 where
  went : WentOver (start t n tx_limit) c old new status
  short : IsWithin status 0
  opened : IsOfOpened false status
  wrote : WroteWhole status before now (text_of c (start t n tx_limit) (went.answered ++ went.more))
  made : status ≡ Done → IsTrue (tries (Some c) every) → AreMade (Some c) every t n (after_asked (start t n tx_limit) (went.answered ++ went.more)).book new.journal.now.reads new.pages.now.reads

module _ (t : Tree) (n : ℕ) (c : Command) (every : ℕ) (old new : Pair) (before now : Option (List ℕ)) where
  abbrev opened : State BookCall
  opened = start t n tx_limit

  text_wrote : (status : Status) (text : List ℕ) → HasTextOver t n c every old new text → IsWriteEnd status → WroteWhole status before now text → WentAndWrote t n c every old new status before now
  text_wrote Done text h is wrote = record { went = h.went; short = omega arith; opened = tt; wrote = subst (Took before now) h.shown wrote; made = λ done. h.made }
  text_wrote WriteFault text h is wrote = record {
    went = record {
      answered = h.went.answered;
      more = h.went.more;
      first = h.went.first;
      few = h.went.few;
      valid = h.went.valid;
      stops = h.went.stops;
      end = h.went.end;
      moments = h.went.moments;
      left = h.went.left;
    };
    short = omega arith;
    opened = tt;
    wrote = subst (TookPrefix before now) h.shown wrote;
    made = λ done. absurd cc;
  }
  text_wrote Usage text h is wrote = absurd is
  text_wrote (LineTooLong line) text h is wrote = absurd is
  text_wrote (Damaged place) text h is wrote = absurd is
  text_wrote ReadFault text h is wrote = absurd is
  text_wrote DiskFault text h is wrote = absurd is
  text_wrote NoMemory text h is wrote = absurd is
  text_wrote (NotJsonMl why) text h is wrote = absurd is
  text_wrote (DocumentRefused why) text h is wrote = absurd is

  stop_wrote : (lost : Bool) (status : Status) → WentOver opened c old new status → IsStopIf lost status → now ≡ before → WentAndWrote t n c every old new status before now
  stop_wrote lost (DocumentRefused why) went is same = record { went = went; short = omega arith; opened = tt; wrote = same; made = λ done. absurd cc }
  stop_wrote lost DiskFault went is same = record { went = went; short = omega arith; opened = tt; wrote = same; made = λ done. absurd cc }
  stop_wrote lost NoMemory went is same = record { went = went; short = omega arith; opened = tt; wrote = same; made = λ done. absurd cc }
  stop_wrote lost (Damaged place) went is same = absurd went.end
  stop_wrote lost Done went is same = absurd is
  stop_wrote lost Usage went is same = absurd is
  stop_wrote lost (LineTooLong line) went is same = absurd is
  stop_wrote lost ReadFault went is same = absurd is
  stop_wrote lost WriteFault went is same = absurd is
  stop_wrote lost (NotJsonMl why) went is same = absurd is

  files_written : {T : Type 0} (bytes : T → List ℕ) (lost : Bool) (r : Result T Status) (status : Status) → DoneOverFiles t n c every old new bytes r → IfErr r (IsStopIf lost)
      → IfOk r (λ text. IsWriteEnd status × WroteWhole status before now (bytes text)) → IfErr r (λ e. (status ≡ e) × (now ≡ before)) → WentAndWrote t n c every old new status before now
  files_written bytes lost (Ok text) status done stops written none = text_wrote status (bytes text) done written.0 written.1
  files_written bytes lost (Err e) status done stops written none = subst (λ (x : Status). WentAndWrote t n c every old new x before now) (sym none.0) (stop_wrote lost e done stops none.1)

-- ---- the whole command

module _ (t : Tree) (n : ℕ) (formed : IsValidTree t) (seed count every asked_before : ℕ) (left before now : Option (List ℕ)) (first old new : Pair) (status : Status)
    (h : WentAndWrote t n (gen seed count) every old new status before now) (of_journal : IsImage new.journal.now new.journal.now.reads) (of_pages : IsImage new.pages.now new.pages.now.reads) where
  abbrev outcome : Outcome
  outcome = record { read = []; asked = asked_before; left = left; before = before; now = now; old = first; new = new }

  abbrev asks_all : List (Asked BookCall)
  asks_all = h.went.answered ++ h.went.more

  asks_sum : length asks_all ≡ length h.went.answered + length h.went.more
  asks_sum = length-append h.went.answered h.went.more

  opens : (least : ℕ) (xs ys : List (Asked BookCall)) → xs ++ ys ≡ asks_all → least ≤ length xs → (j p : List ℕ) → HoldState (after (start t n tx_limit) xs) j p → OpenAfterAsked t n tx_limit least asks_all j p
  opens least xs ys parts enough j p holds = opens_first t n tx_limit formed least asks_all xs ys j p p h.went.valid parts enough refl holds

  files_left : PairsHave (OpenAfterAsked t n tx_limit (length h.went.answered) asks_all) new
  files_left j p is_j is_p = ⊎_elim
      (λ (holds : HoldState (after (start t n tx_limit) h.went.answered) j p). opens (length h.went.answered) h.went.answered h.went.more refl (omega arith) j p holds)
      (λ (holds : HoldState (after (start t n tx_limit) asks_all) j p). opens (length h.went.answered) asks_all [] (append-nil asks_all) (omega (arith, asks_sum)) j p holds)
      (h.went.left j p is_j is_p)

  abbrev gen_ran : DocumentRan t n tx_limit (gen seed count) status old outcome
  gen_ran = record {
    asked = asks_all;
    first = h.went.first;
    stops = h.went.stops;
    answered = length h.went.answered;
    all_but = omega (arith, asks_sum, h.went.few);
    sound = asked_sound t n tx_limit formed asks_all h.went.valid;
    end = h.went.end;
    short = h.short;
    whole = λ reads. let no : IsTrue false = reads in absurd cc;
    unread = λ no. refl;
    unwritten = λ no. let other : true ≡ false = no in absurd cc;
    wrote = h.wrote;
    any_moment = pairs_weaker (HoldFirstAsked (start t n tx_limit) asks_all) (OpenAfterAsked t n tx_limit 0 asks_all) (λ j p g. opens 0 g.first g.rest g.parts (omega arith) j p g.holds) old new h.went.moments;
    left = files_left;
    reads = files_left new.journal.now.reads new.pages.now.reads of_journal of_pages;
  }

  gen_ran_with : (is_positive every ≡ false → new.pages ≡ old.pages) → RanWith t n tx_limit (gen seed count) every status old outcome
  gen_ran_with still = record { ran = gen_ran; undamaged = h.opened; pages = still; made = h.made }

stop_quiet : (lost : Bool) (status : Status) → IsStopIf lost status → IsQuiet status
stop_quiet lost (DocumentRefused why) is = tt
stop_quiet lost DiskFault is = tt
stop_quiet lost NoMemory is = tt
stop_quiet lost (Damaged place) is = tt
stop_quiet lost Done is = is
stop_quiet lost Usage is = is
stop_quiet lost (LineTooLong line) is = absurd is
stop_quiet lost ReadFault is = absurd is
stop_quiet lost WriteFault is = is
stop_quiet lost (NotJsonMl why) is = absurd is

pub stops_quiet : {T : Type 0} (lost : Bool) (r : Result T Status) → IfErr r (IsStopIf lost) → IfErr r IsQuiet
stops_quiet lost (Ok text) stops = tt
stops_quiet lost (Err status) stops = stop_quiet lost status stops

-- the premises tell of the text that there was, of writing it, and of the disks
pub gen_runs : {T : Type 0} (journal_known pages_known : Bool) (map : Option Entries) (number seed count every : ℕ) (text : Result T Status) (bytes : T → List ℕ) (status : Status)
    (input : Input) (output output_now : Output) (old now : Pair) (faults faults_now : Counts)
    → IfErr text (IsStopIf (is_positive every && not pages_known))
    → FromTree journal_known pages_known map number old (λ t. DoneOverFiles t number (gen seed count) every old now bytes text)
    → IfOk text (λ x. IsWriteEnd status × WroteWhole status output.held output_now.held (bytes x))
    → IfErr text (λ why. (status ≡ why) × (output_now.held ≡ output.held))
    → (IsTrue pages_known → is_positive every ≡ false → now.pages ≡ old.pages)
    → (IsTrue journal_known → IsImage now.journal.now now.journal.now.reads) × (IsTrue pages_known → IsImage now.pages.now now.pages.now.reads)
    → CountedWhere (status ≡ WriteFault) output.faults output_now.faults
    → DisksCountedWhere (text ≡ Err DiskFault) faults faults_now
    → RunsCommand journal_known pages_known map number (gen seed count) every status input input output output_now (record { files = old; faults = faults }) (record { files = now; faults = faults_now })
gen_runs {T} journal_known pages_known map number seed count every text bytes status input output output_now old now faults faults_now stops done written none still images write counted =
    let lost : Bool = is_positive every && not pages_known in
    document_runs journal_known pages_known map number (gen seed count) every text status input input output output_now (record { files = old; faults = faults }) (record { files = now; faults = faults_now })
    (ends_by text status (output_now.held ≡ output.held) (λ x. WroteWhole status output.held output_now.held (bytes x)) (stops_quiet lost text stops) written none)
    (λ place it. subst (λ (r : Result T Status). IfErr r (IsStopIf lost)) it stops) (
      [],
      gave_none input.left,
      sym (add-zero input.given),
      λ kj kp t is files first.
          let stand : StandFor (start t number tx_limit) old = record { journal = files.journal; pages = files.pages; holds = files.stand.opens } in
          gen_ran_with t number is.valid seed count every _ input.left output.held output_now.held first old now status
          (files_written t number (gen seed count) every old now output.held output_now.held bytes lost text status (done kj kp t is stand) stops written none)
          (images.0 kj) (images.1 kp) (still kp),
    )
    (λ reads. let no : IsTrue false = reads in absurd cc)
    (omega arith)
    (read_never _ _ _ (λ it. subst (λ (r : Result T Status). IfErr r (IsStopIf lost)) it stops))
    write
    counted
