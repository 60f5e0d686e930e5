-- A command of one document: what it leaves of the journal by its status, and of the whole store.
use Rattle.std.proofs.Common.{◌≡◌, ◌≤◌, ℕ, ◌+◌, Bool, false, IsTrue, List, [], ◌++◌, length, take, inl, inr, ⊎_elim, refl, sym, ap, subst, ◌∙◌, append-nil, arith}
use Rattle.std.specs.Prelude.{Option, None, Some, Result, Ok, Err, IfOk, IfErr, IfSome}
use Rattle.std.specs.Result.{IsErrAnd}
use Rattle.std.proofs.lemmas.List.{append_assoc, length-append}
use Rattle.std.proofs.Math.Seq.{take-append_seam}
use Rattle.outside_traits.specs.Bytes.{Took, TookPrefix}
use Rattle.outside_traits.specs.CrashImages.{IsImage}
use Rattle.outside_traits.specs.DiskPairs.{PairsHave, pair_of}
use Rattle.outside_traits.specs.Moments.{History, IsAllSynced}
use Rattle.outside_traits.proofs.MomentLaws.{started, weaker}
use Rattle.outside_traits.proofs.PairLaws.{journal_phase}
use Rattle.dewey_labels.specs.Labels.{Label}
use Rattle.tree_model.specs.Entries.{Entries}
use Rattle.tree_model.specs.Names.{Name}
use Rattle.tree_model.specs.Tree.{Tree, map_of}
use Rattle.tree_model.specs.ValidTrees.{IsValidTree}
use Rattle.tree_model.specs.declared.fragment.Fragment.{Fragment}
use Rattle.path_model.specs.declared.path.XPath.{XPath}
use Rattle.xpath_parser.specs.Parse.{parsed}
use Rattle.xpath_parser.specs.declared.path_error.PathError.{PathError}
use Rattle.script_runs.specs.Whole.{piece}
use Rattle.call_contract.specs.States.{State, start}
use Rattle.session_driver.specs.Asking.{BookCall}
use Rattle.command_lines.specs.declared.line_reply.LineReply.{LineReply}
use Rattle.session_driver.specs.Lines.{Asked}
use Rattle.tx_core.specs.Cores.{CoreView}
use Rattle.xtc.specs.Book.{after_asked}
use Rattle.command_words.specs.Commands.{Command, run, workers, put, get, query, gen}
use Rattle.xtc.specs.Commands.{may_commit, reads_input}
use Rattle.durable_sessions.specs.Durable.{HoldState, HoldsAll, HoldsEither}
use Rattle.durable_sessions.specs.InTurn.{AllAnswered, AskNoCommit, StopsBy}
use Rattle.durable_sessions.specs.Reasons.{first_reason}
use Rattle.durable_sessions.specs.declared.reasons.Reason.{Reason}
use Rattle.durable_sessions.specs.declared.in_turn.Stop.{Stop}
use Rattle.durable_sessions.specs.declared.in_turn.Stop.TheVariants as stop
use Rattle.durable_sessions.proofs.InTurnLaws.{image_holds}
use Rattle.durable_sessions.proofs.InTurnLists.{said_on, reason_stays, valid_first}
use Rattle.store_calls.specs.StoreCalls.{IsValidStoreCall, store_meaning}
use Rattle.xtc.specs.Documents.{asks_of, put_asks_of, query_asks_of, question_asks, show_asks, end_by, end_of, find_asks, label_in, stops_at, text_of}
use Rattle.xtc.specs.Statuses.{status_of_stop}
use Rattle.xtc.specs.declared.question.Question.{Question}
use Rattle.xtc.specs.declared.question.Question.TheVariants.{Whole, FoundBy}
use Rattle.xtc.specs.TopCall.{AreFirst, DocumentRan, IsDocumentEnd, IsWhole, IsWithin, NeedsWhole, OpenAfterAsked, OpenAfter, Outcome, WroteWhole, slack, whole_limit}
use Rattle.xtc.specs.declared.status.Status.{Status}
use Rattle.xtc.specs.declared.status.Status.TheVariants.{Done, Usage, LineTooLong, Damaged, ReadFault, WriteFault, DiskFault, NoMemory, NotJsonMl, DocumentRefused}
use Rattle.xtc.specs.inside.Asking.{AreValidAsks, after, said, HoldsFirst, LeavesFirst, Stopped, DocumentWent, DocumentDone, HasText, IfJudged, InputDone, IsReadElement, IsStop, IsUnwritten, IsWriteEnd, WentAndJudged}
use Rattle.xtc.proofs.AskedLaws.{asked_sound, opens_after_asked}
use Rattle.xtc.proofs.StoreMachineLaws.{image_same}

-- ---- by the status

-- an answer that there is no element
abbrev no_element : Status → Result Fragment Status
no_element e = Err e

pub none_first : (r : Result (List (Asked BookCall)) Status) → AreFirst [] r
none_first (Ok asks) = (asks, refl)
none_first (Err why) = refl

-- what is asked, where the input is no error
abbrev asks_in : Result (List (Asked BookCall)) Status → List (Asked BookCall)
asks_in (Ok asks) = asks
asks_in (Err why) = []

question_no_commit : (q : Question) (label : Option Label) → AskNoCommit (question_asks q label)
question_no_commit q None = tt
question_no_commit q (Some at) = ((λ is. cc), ((λ is. cc), tt))

show_no_commit : (s : State BookCall) (name : Name) (q : Question) → AskNoCommit (show_asks s name q)
show_no_commit s name q = ((λ it. cc), ((λ it. cc), question_no_commit q (label_in (said s (find_asks name)))))

query_no_commit : (path : Result XPath PathError) (s : State BookCall) (name : Name) (all : List (Asked BookCall)) → query_asks_of s name path ≡ Ok all → AskNoCommit all
query_no_commit (Ok path) s name all is = subst AskNoCommit (ap asks_in is) (show_no_commit s name (FoundBy path))
query_no_commit (Err why) s name all is = absurd cc

-- a command that may not commit asks for no commit
asks_no_commit : (c : Command) (s : State BookCall) (read : List ℕ) (all : List (Asked BookCall)) → asks_of c s read ≡ Ok all → may_commit (Some c) ≡ false → AskNoCommit all
asks_no_commit run s read all is commits_none = absurd cc
asks_no_commit workers s read all is commits_none = absurd cc
asks_no_commit (gen seed count) s read all is commits_none = absurd cc
asks_no_commit (put name) s read all is commits_none = absurd cc
asks_no_commit (get name) s read all is commits_none = subst AskNoCommit (ap asks_in is) (show_no_commit s name Whole)
asks_no_commit (query name path) s read all is commits_none = query_no_commit (parsed path) s name all is

-- such a command may not commit
never_commits : (c : Command) → may_commit (Some c) ≡ false → IsTrue (may_commit (Some c)) → ⊥
never_commits c none may = let no : IsTrue false = subst IsTrue none may in cc

module _ (is_known : Bool) (s : State BookCall) (c : Command) (read : List ℕ) where
  -- nothing was asked
  pub nothing_asked : (journal : History) (status : Status) → IsDocumentEnd c s read status [] → IsWithin status (length read) → DocumentWent is_known s c read journal journal status
  nothing_asked journal status end short = record {
    answered = [];
    more = [];
    first = none_first (asks_of c s read);
    few = omega arith;
    valid = tt;
    stops = record { front = []; last = []; parts = refl; one = omega arith; unrefused = refl };
    end = end;
    short = short;
    moments = λ known pages holds. started (HoldsFirst s [] pages) journal;
    left = λ known pages holds image is. inl (image_holds s pages journal holds image is);
    still = λ commits_none. refl;
  }

  -- nor judged
  pub nothing_judged : (whole : Type 0) (journal : History) (status : Status) → IsDocumentEnd c s read status [] → IsWithin status (length read) → NeedsWhole status [] whole
      → WentAndJudged is_known s c read whole journal journal status
  unfolding nothing_asked
  nothing_judged whole journal status end short judged = record { went = nothing_asked journal status end short; judged = judged }

  module _ (all : List (Asked BookCall)) (is : asks_of c s read ≡ Ok all) (short : length read ≤ whole_limit) (old new : History) where
    pub few_by : (why : Stop) (lines : List LineReply) (more : List (Asked BookCall)) → StopsBy (stops_at c) why lines more → length more ≤ 1 → length more ≤ slack (status_of_stop why)
    few_by (stop.Refused reason) lines more cause one = let none : length more ≡ 0 = ap length cause.1 in omega (arith, none)
    few_by stop.DiskFault lines more cause one = one
    few_by stop.NoMemory lines more cause one = one

    -- the reply that refuses it ends it, whatever is asked behind
    refused_behind : (answered further : List (Asked BookCall)) (reason : Reason) → first_reason (stops_at c) (said s answered) ≡ Some reason
        → end_by (first_reason (stops_at c) (said s (answered ++ further))) ≡ DocumentRefused reason
    refused_behind answered further reason refused =
        ap (λ (l : List LineReply). end_by (first_reason (stops_at c) l)) (said_on store_meaning s answered further)
        ∙ ap end_by (reason_stays (stops_at c) (said s answered) (said (after s answered) further) reason refused)

    pub end_is : (why : Stop) (answered more rest : List (Asked BookCall)) → answered ++ (more ++ rest) ≡ all → StopsBy (stops_at c) why (said s answered) more → IsDocumentEnd c s read (status_of_stop why) (answered ++ more)
    end_is (stop.Refused reason) answered more rest parts cause = record {
      end = ap (end_of c s) is
          ∙ ap (λ (l : List (Asked BookCall)). end_by (first_reason (stops_at c) (said s l))) (sym parts)
          ∙ refused_behind answered (more ++ rest) reason cause.0;
      behind = λ may. subst (λ (r : Result (List (Asked BookCall)) Status). IfOk r (λ asks. end_of c s (Ok (answered ++ more)) ≡ DocumentRefused reason)) (sym is)
          (refused_behind answered more reason cause.0);
    }
    end_is stop.DiskFault answered more rest parts cause = tt
    end_is stop.NoMemory answered more rest parts cause = tt

    within_by : (why : Stop) → IsWithin (status_of_stop why) (length read)
    within_by (stop.Refused reason) = short
    within_by stop.DiskFault = short
    within_by stop.NoMemory = omega (arith, short)

    -- it stopped
    pub document_stopped : (why : Stop) → Stopped (stops_at c) is_known s all old new why → DocumentWent is_known s c read old new (status_of_stop why)
    document_stopped why h = record {
      answered = h.answered;
      more = h.more;
      first = subst (AreFirst (h.answered ++ h.more)) (sym is) (h.rest, append_assoc h.answered h.more h.rest ∙ h.parts);
      few = few_by why (said s h.answered) h.more h.cause h.one;
      valid = h.valid;
      stops = h.stops;
      end = end_is why h.answered h.more h.rest h.parts h.cause;
      short = within_by why;
      moments = h.moments;
      left = h.left;
      still = λ commits_none. h.still (asks_no_commit c s read all is commits_none);
    }

    -- all was answered
    pub document_answered : {B : Type 0} (contents : B → Option Entries) (core : CoreView BookCall B) (now : List LineReply) (text : List ℕ) → AllAnswered IsValidStoreCall store_meaning contents (stops_at c) is_known s all old core new [] now → text ≡ text_of c s all → HasText is_known s c read old new text
    document_answered contents core now text h shown =
        let whole : all ++ [] ≡ all = append-nil all in
        record {
          went = record {
            answered = all;
            more = [];
            first = subst (AreFirst (all ++ [])) (sym is) ([], append-nil (all ++ []) ∙ whole);
            few = omega arith;
            valid = subst AreValidAsks (sym whole) h.valid;
            stops = record { front = all; last = []; parts = refl; one = omega arith; unrefused = h.unrefused };
            end = (is ∙ ap Ok (sym whole), ap (λ (l : List (Asked BookCall)). end_by (first_reason (stops_at c) (said s l))) whole ∙ ap end_by h.unrefused);
            short = short;
            moments = subst (λ (l : List (Asked BookCall)). LeavesFirst is_known s l old new) (sym whole) h.moments;
            left = λ known pages holds image is_image. inl (image_holds (after s all) pages new (h.leads.settled known pages holds) image is_image);
            still = λ commits_none. h.still (asks_no_commit c s read all is commits_none);
          };
          shown = shown ∙ ap (text_of c s) (sym whole);
        }

  -- all would be answered, and commits nothing: nothing is done to the journal
  pub document_alone : (all : List (Asked BookCall)) → asks_of c s read ≡ Ok all → length read ≤ whole_limit → (journal : History) (text : List ℕ) → AreValidAsks all
      → first_reason (stops_at c) (said s all) ≡ None → (after s all).tree ≡ s.tree → (after s all).number ≡ s.number → text ≡ text_of c s all → HasText is_known s c read journal journal text
  document_alone all is short journal text valid unrefused same_tree same_number shown =
      let whole : all ++ [] ≡ all = append-nil all in
      record {
        went = record {
          answered = all;
          more = [];
          first = subst (AreFirst (all ++ [])) (sym is) ([], append-nil (all ++ []) ∙ whole);
          few = omega arith;
          valid = subst AreValidAsks (sym whole) valid;
          stops = record { front = all; last = []; parts = refl; one = omega arith; unrefused = unrefused };
          end = (is ∙ ap Ok (sym whole), ap (λ (l : List (Asked BookCall)). end_by (first_reason (stops_at c) (said s l))) whole ∙ ap end_by unrefused);
          short = short;
          moments = λ known pages holds. started (HoldsFirst s (all ++ []) pages) journal;
          left = λ known pages holds image is_image. inl (image_holds (after s all) pages journal (record {
            synced = holds.synced;
            holds = holds.holds
                ∙ ap (λ (u : Tree). Ok (record { entries = map_of u; number = s.number })) (sym same_tree)
                ∙ ap (λ (m : ℕ). Ok (record { entries = map_of (after s all).tree; number = m })) (sym same_number);
          }) image is_image);
          still = λ commits_none. refl;
        };
        shown = shown ∙ ap (text_of c s) (sym whole);
      }

  -- the same where a reply refuses it, of a command that commits nothing
  pub document_refused : (all : List (Asked BookCall)) → asks_of c s read ≡ Ok all → length read ≤ whole_limit → may_commit (Some c) ≡ false → (journal : History) (why : Reason)
      → first_reason (stops_at c) (said s all) ≡ Some why → DocumentWent is_known s c read journal journal (DocumentRefused why)
  document_refused all is short none journal why refused =
      nothing_asked journal (DocumentRefused why) (record { end = ap (end_of c s) is ∙ ap end_by refused; behind = λ may. absurd (never_commits c none may) }) short

  -- where the text can't be written, it went as where it can
  pub write_failed : (old new : History) → DocumentWent is_known s c read old new Done → DocumentWent is_known s c read old new WriteFault
  write_failed old new h = record {
    answered = h.answered;
    more = h.more;
    first = h.first;
    few = h.few;
    valid = h.valid;
    stops = h.stops;
    end = h.end;
    short = h.short;
    moments = h.moments;
    left = h.left;
    still = h.still;
  }

-- ---- the files

module _ (t : Tree) (n limit : ℕ) (formed : IsValidTree t) where
  abbrev s : State BookCall
  s = start t n limit

  pub opens_first : (least : ℕ) (asked first rest : List (Asked BookCall)) (journal pages bytes : List ℕ) → AreValidAsks asked → first ++ rest ≡ asked → least ≤ length first → pages ≡ bytes → HoldState (after s first) journal bytes
      → OpenAfterAsked t n limit least asked journal pages
  opens_first least asked first rest journal pages bytes valid parts enough same holds =
      let taken : take (length first) asked ≡ first = ap (take (length first)) (sym parts) ∙ take-append_seam first rest in
      let front : AreValidAsks first = valid_first IsValidStoreCall first rest (subst AreValidAsks (sym parts) valid) in
      record {
        count = length first;
        enough = enough;
        within = let sum : length asked ≡ length first + length rest = ap length (sym parts) ∙ length-append first rest in omega (arith, sum);
        opens = subst (λ (l : List (Asked BookCall)). OpenAfter t n (after_asked s l).book journal pages) (sym taken)
            (opens_after_asked t n limit formed first front journal pages (subst (HoldState (after s first) journal) (sym same) holds));
      }

  -- a command over a store that was opened so, which wrote its text or nothing
  pub document_ran : (is_known : Bool) (c : Command) (o : Outcome) (journal pages : History) (status : Status) → IsTrue is_known → HoldsAll s pages.now.reads journal → IsAllSynced pages
      → (went : DocumentWent is_known s c o.read journal o.new.journal status) → o.new.pages ≡ pages → IsImage o.new.journal.now o.new.journal.now.reads → IsImage o.new.pages.now o.new.pages.now.reads
      → (reads_input (Some c) ≡ false → o.read ≡ []) → (IsTrue (reads_input (Some c)) → NeedsWhole status (went.answered ++ went.more) (IsWhole o.left o.read))
      → WroteWhole status o.before o.now (text_of c s (went.answered ++ went.more)) → DocumentRan t n limit c status (pair_of journal pages) o
  document_ran is_known c o journal pages status known settled synced went still of_journal of_pages unread judged wrote =
      let asked : List (Asked BookCall) = went.answered ++ went.more in
      let bytes : List ℕ = pages.now.reads in
      let same_now : (p : List ℕ) → IsImage o.new.pages.now p → p ≡ bytes = λ p is. image_same o.new.pages (subst IsAllSynced (sym still) synced) p is ∙ ap (λ (h : History). h.now.reads) still in
      let Left : List ℕ → List ℕ → Type 0 = OpenAfterAsked t n limit (length went.answered) asked in
      let either : (j p : List ℕ) → p ≡ bytes → HoldsEither (after s went.answered) (after s asked) bytes j → Left j p = λ j p same. ⊎_elim
      (λ holds. opens_first (length went.answered) asked went.answered went.more j p bytes went.valid refl (omega arith) same holds)
      (λ holds. opens_first (length went.answered) asked asked [] j p bytes went.valid (append-nil asked)
      (let sum : length asked ≡ length went.answered + length went.more = length-append went.answered went.more in omega (arith, sum)) same holds) in
      let left : PairsHave Left o.new = λ j p is_j is_p. either j p (same_now p is_p) (went.left known bytes settled j is_j) in
      record {
        asked = asked;
        first = went.first;
        stops = went.stops;
        answered = length went.answered;
        all_but = let sum : length asked ≡ length went.answered + length went.more = length-append went.answered went.more in omega (arith, sum, went.few);
        sound = asked_sound t n limit formed asked went.valid;
        end = went.end;
        short = went.short;
        whole = judged;
        unread = unread;
        unwritten = went.still;
        wrote = wrote;
        any_moment = journal_phase (OpenAfterAsked t n limit 0 asked) (pair_of journal pages) o.new (record {
          leaves = weaker (HoldsFirst s asked bytes) (λ j. (p : List ℕ) → IsImage pages.now p → OpenAfterAsked t n limit 0 asked j p) journal o.new.journal
              (λ j h p is_p. opens_first 0 asked h.first h.rest j p bytes went.valid h.parts (omega arith) (image_same pages synced p is_p) h.holds) (went.moments known bytes settled);
          still = still;
        });
        left = left;
        reads = left o.new.journal.now.reads o.new.pages.now.reads of_journal of_pages;
      }

-- ---- results

-- an error that is answered for this status
pub done_err : {T : Type 0} (r : Result T Status) (status : Status) (is_known : Bool) (s : State BookCall) (c : Command) (read : List ℕ) (old new : History) (bytes : T → List ℕ)
    → IsErrAnd r (λ e. e ≡ status) → DocumentWent is_known s c read old new status → DocumentDone is_known s c read old new bytes r
done_err (Ok x) status is_known s c read old new bytes none went = absurd none
done_err (Err e) status is_known s c read old new bytes is went = subst (DocumentWent is_known s c read old new) (sym is) went

-- a status with which it stops
pub stop_is : (why : Stop) → IsStop (status_of_stop why)
stop_is (stop.Refused reason) = tt
stop_is stop.DiskFault = tt
stop_is stop.NoMemory = tt

-- why an input isn't had
pub not_had : (name : Name) (s : State BookCall) (read : List ℕ) (status : Status) → IsReadElement read (Err status) → IsDocumentEnd (put name) s read status [] × IsWithin status (length read)
not_had name s read (NotJsonMl why) h = (ap (put_asks_of name) h.0, h.1)
not_had name s read (LineTooLong line) h = ((h.0, refl), h.1)
not_had name s read ReadFault h = ((refl, refl), h)
not_had name s read NoMemory h = (tt, h)
not_had name s read Done h = absurd h
not_had name s read Usage h = absurd h
not_had name s read (Damaged place) h = absurd h
not_had name s read WriteFault h = absurd h
not_had name s read DiskFault h = absurd h
not_had name s read (DocumentRefused why) h = absurd h

-- it was judged as a whole, if it was
pub not_judged : (read : List ℕ) (left : Option (List ℕ)) (status : Status) → IsReadElement read (Err status) → IfJudged (no_element status) (IfSome left (λ rest. rest ≡ []))
    → NeedsWhole status [] (IsWhole left read)
not_judged read left (NotJsonMl why) h whole = (whole, h.1)
not_judged read left (LineTooLong line) h whole = tt
not_judged read left ReadFault h whole = tt
not_judged read left NoMemory h whole = inl refl
not_judged read left Done h whole = absurd h
not_judged read left Usage h whole = absurd h
not_judged read left (Damaged place) h whole = absurd h
not_judged read left WriteFault h whole = absurd h
not_judged read left DiskFault h whole = absurd h
not_judged read left (DocumentRefused why) h whole = absurd h

-- what may be read of an input
pub read_within : (read : List ℕ) (r : Result Fragment Status) → IsReadElement read r → length read ≤ whole_limit + piece
read_within read (Ok element) h = omega (arith, h.1)
read_within read (Err (NotJsonMl why)) h = omega (arith, h.1)
read_within read (Err (LineTooLong line)) h = h.1.most
read_within read (Err ReadFault) h = omega (arith, h)
read_within read (Err NoMemory) h = h
read_within read (Err Done) h = absurd h
read_within read (Err Usage) h = absurd h
read_within read (Err (Damaged place)) h = absurd h
read_within read (Err WriteFault) h = absurd h
read_within read (Err DiskFault) h = absurd h
read_within read (Err (DocumentRefused why)) h = absurd h

-- ---- the whole input

-- where it was read, all is said of it
given_whole : (status : Status) (asked : List (Asked BookCall)) (W : Type 0) → W → NeedsWhole status asked W
given_whole Done asked W w = w
given_whole Usage asked W w = w
given_whole (LineTooLong line) asked W w = tt
given_whole (Damaged place) asked W w = w
given_whole ReadFault asked W w = tt
given_whole WriteFault asked W w = w
given_whole DiskFault asked W w = w
given_whole NoMemory asked W w = inr w
given_whole (NotJsonMl why) asked W w = w
given_whole (DocumentRefused why) asked W w = w

pub input_done : {T : Type 0} (r : Result T Status) (is_known : Bool) (s : State BookCall) (c : Command) (read : List ℕ) (W : Type 0) (old new : History) (bytes : T → List ℕ)
    → DocumentDone is_known s c read old new bytes r → W → InputDone is_known s c read W old new bytes r
input_done (Ok text) is_known s c read W old new bytes done w = (done, w)
input_done (Err status) is_known s c read W old new bytes went w = record { went = went; judged = given_whole status (went.answered ++ went.more) W w }

pub input_err : {T : Type 0} (r : Result T Status) (status : Status) (is_known : Bool) (s : State BookCall) (c : Command) (read : List ℕ) (W : Type 0) (old new : History) (bytes : T → List ℕ)
    → IsErrAnd r (λ e. e ≡ status) → WentAndJudged is_known s c read W old new status → InputDone is_known s c read W old new bytes r
input_err (Ok x) status is_known s c read W old new bytes none went = absurd none
input_err (Err e) status is_known s c read W old new bytes is went = subst (WentAndJudged is_known s c read W old new) (sym is) went

-- what was said of the one holds of the other
judged_as : (status : Status) (asked : List (Asked BookCall)) (V W : Type 0) → (V → W) → NeedsWhole status asked V → NeedsWhole status asked W
judged_as Done asked V W to v = to v
judged_as Usage asked V W to v = to v
judged_as (LineTooLong line) asked V W to v = tt
judged_as (Damaged place) asked V W to v = to v
judged_as ReadFault asked V W to v = tt
judged_as WriteFault asked V W to v = to v
judged_as DiskFault asked V W to v = to v
judged_as NoMemory asked V W to (inl none) = inl none
judged_as NoMemory asked V W to (inr v) = inr (to v)
judged_as (NotJsonMl why) asked V W to v = to v
judged_as (DocumentRefused why) asked V W to v = to v

-- ---- what is written

unwritten_is : (status : Status) (before now : Option (List ℕ)) (text : List ℕ) → IsUnwritten status → now ≡ before → WroteWhole status before now text
unwritten_is Done before now text is same = absurd is
unwritten_is WriteFault before now text is same = absurd is
unwritten_is Usage before now text is same = absurd is
unwritten_is (Damaged place) before now text is same = absurd is
unwritten_is (LineTooLong line) before now text is same = same
unwritten_is ReadFault before now text is same = same
unwritten_is DiskFault before now text is same = same
unwritten_is NoMemory before now text is same = same
unwritten_is (NotJsonMl why) before now text is same = same
unwritten_is (DocumentRefused why) before now text is same = same

-- a command that went, with what it wrote
pub record WentAndWrote (is_known : Bool) (s : State BookCall) (c : Command) (read : List ℕ) (whole : Type 0) (old new : History) (status : Status) (before now : Option (List ℕ)) : Type 0 where
  pub went : DocumentWent is_known s c read old new status
  pub judged : NeedsWhole status (went.answered ++ went.more) whole
  pub wrote : WroteWhole status before now (text_of c s (went.answered ++ went.more))

module _ {T : Type 0} (is_known : Bool) (s : State BookCall) (c : Command) (read : List ℕ) (W : Type 0) (old new : History) (bytes : T → List ℕ) (before now : Option (List ℕ)) where
  text_written : (status : Status) (text : List ℕ) → HasText is_known s c read old new text → W → IsWriteEnd status → WroteWhole status before now text
      → WentAndWrote is_known s c read W old new status before now
  unfolding write_failed
  text_written Done text h w is wrote = record { went = h.went; judged = w; wrote = subst (Took before now) h.shown wrote }
  text_written WriteFault text h w is wrote = record { went = write_failed is_known s c read old new h.went; judged = w; wrote = subst (TookPrefix before now) h.shown wrote }
  text_written Usage text h w is wrote = absurd is
  text_written (LineTooLong line) text h w is wrote = absurd is
  text_written (Damaged place) text h w is wrote = absurd is
  text_written ReadFault text h w is wrote = absurd is
  text_written DiskFault text h w is wrote = absurd is
  text_written NoMemory text h w is wrote = absurd is
  text_written (NotJsonMl why) text h w is wrote = absurd is
  text_written (DocumentRefused why) text h w is wrote = absurd is

  pub document_written : (r : Result T Status) (status : Status) → InputDone is_known s c read W old new bytes r → IfErr r IsUnwritten
      → IfOk r (λ text. IsWriteEnd status × WroteWhole status before now (bytes text)) → IfErr r (λ e. (status ≡ e) × (now ≡ before)) → WentAndWrote is_known s c read W old new status before now
  document_written (Ok text) status done unwritten written none = text_written status (bytes text) done.0 done.1 written.0 written.1
  document_written (Err e) status done unwritten written none = subst (λ (x : Status). WentAndWrote is_known s c read W old new x before now) (sym none.0)
      (record { went = done.went; judged = done.judged; wrote = unwritten_is e before now (text_of c s (done.went.answered ++ done.went.more)) unwritten none.1 })

-- ---- a command that didn't begin

-- a stop wrote nothing
stop_unwritten : (status : Status) → IsStop status → IsUnwritten status
stop_unwritten (DocumentRefused why) is = tt
stop_unwritten DiskFault is = tt
stop_unwritten NoMemory is = tt
stop_unwritten Done is = is
stop_unwritten Usage is = is
stop_unwritten (LineTooLong line) is = tt
stop_unwritten (Damaged place) is = is
stop_unwritten ReadFault is = tt
stop_unwritten WriteFault is = is
stop_unwritten (NotJsonMl why) is = tt

pub stops_unwritten : {T : Type 0} (r : Result T Status) → IfErr r IsStop → IfErr r IsUnwritten
stops_unwritten (Ok x) is = tt
stops_unwritten (Err e) is = stop_unwritten e is

-- ---- the whole command

pub document_finished : (t : Tree) (n limit : ℕ) (formed : IsValidTree t) (is_known : Bool) (c : Command) (o : Outcome) (W : Type 0) (journal pages mid : History) (status : Status) → IsTrue is_known → HoldsAll {C = BookCall} (start t n limit) pages.now.reads journal
    → IsAllSynced pages → WentAndWrote is_known (start t n limit) c o.read W journal mid status o.before o.now → o.new.journal ≡ mid → o.new.pages ≡ pages
    → IsImage o.new.journal.now o.new.journal.now.reads → IsImage o.new.pages.now o.new.pages.now.reads → (reads_input (Some c) ≡ false → o.read ≡ []) → (IsTrue (reads_input (Some c)) → W → IsWhole o.left o.read)
    → DocumentRan t n limit c status (pair_of journal pages) o
document_finished t n limit formed is_known c o W journal pages mid status known settled synced wrote same still of_journal of_pages unread whole =
    let all : WentAndWrote is_known (start t n limit) c o.read W journal o.new.journal status o.before o.now
    = subst (λ (h : History). WentAndWrote is_known (start t n limit) c o.read W journal h status o.before o.now) (sym same) wrote in
    document_ran t n limit formed is_known c o journal pages status known settled synced all.went still of_journal of_pages unread
    (λ reads. judged_as status (all.went.answered ++ all.went.more) W (IsWhole o.left o.read) (whole reads) all.judged) all.wrote
