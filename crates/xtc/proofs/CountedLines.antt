-- Lines of the generator's script, one behind another, with checkpoints behind them: what they leave of both files of a store.
use Rattle.std.proofs.Common.{◌≡◌, ℕ, Bool, IsTrue, List, [], ◌∷◌, ◌++◌, inl, refl, sym, ap, subst, ◌∙◌, append-nil, arith}
use Rattle.std.specs.Prelude.{None, Result, Ok, Err}
use Rattle.std.specs.Result.{IsErrAnd}
use Rattle.std.proofs.lemmas.List.{append_assoc}
use Rattle.outside_traits.specs.CrashImages.{IsImage}
use Rattle.outside_traits.specs.DiskPairs.{Pair, PairsHave, PairsLeave}
use Rattle.outside_traits.specs.Moments.{History, IsAllSynced}
use Rattle.outside_traits.proofs.MomentLaws.{weaker}
use Rattle.outside_traits.proofs.PairLaws.{journal_phase, none as unmoved, pairs_joined, pairs_now, pairs_weaker}
use Rattle.node_records.specs.declared.open_error.OpenError.{OpenError}
use Rattle.node_records.specs.declared.open_error.OpenError.TheVariants as error
use Rattle.node_records.specs.declared.open_error.Place.{Place}
use Rattle.checkpoint.specs.Bases.{contents_of}
use Rattle.checkpoint.specs.declared.base.Base.{Base}
use Rattle.call_contract.specs.Books.{Book}
use Rattle.call_contract.specs.States.{State}
use Rattle.session_driver.specs.Asking.{BookCall}
use Rattle.command_lines.specs.declared.line_reply.LineReply.{LineReply}
use Rattle.session_driver.specs.Lines.{Asked}
use Rattle.session_driver.specs.Progress.{Progress}
use Rattle.store_calls.specs.StoreCalls.{IsValidStoreCall, store_meaning}
use Rattle.tx_core.specs.Cores.{CoreView, over, with_committed}
use Rattle.workload_gen.specs.Summaries.{after_line}
use Rattle.workload_gen.specs.declared.line.Line.{Line}
use Rattle.workload_gen.specs.declared.summary.Summary.{Summary}
use Rattle.durable_sessions.specs.Durable.{HoldState, HoldsAll}
use Rattle.durable_sessions.specs.InTurn.{AllAnswered, StopsBy}
use Rattle.durable_sessions.specs.Reasons.{first_reason, limit_of}
use Rattle.durable_sessions.specs.declared.in_turn.Stop.{Stop}
use Rattle.durable_sessions.specs.declared.in_turn.Stop.TheVariants as stop
use Rattle.durable_sessions.proofs.InTurnLists.{after_on, asked_on, reason_behind, said_on, valid_on}
use Rattle.xtc.specs.Book.{after_asked}
use Rattle.xtc.specs.Generated.{generated, generated_line}
use Rattle.xtc.specs.StoreMachine.{KeptStore, Stands, file_in}
use Rattle.xtc.specs.Statuses.{status_of, status_of_stop}
use Rattle.xtc.specs.declared.status.Status.{Status}
use Rattle.xtc.specs.inside.Asking.{AreValidAsks, HoldsFirst, LeavesFirst, LeftEither, Stopped, after, said}
use Rattle.xtc.specs.inside.Counting.{AllCounted, AnsweredOver, HasRun, HoldFirstAsked, HoldOneOf, RanLines, StoppedOver}
use Rattle.xtc.specs.inside.Renewing.{LeftStanding, StandFor, files_of}
use Rattle.xtc.proofs.CountingLaws.{counted_on, generated_on, generated_one}
use Rattle.xtc.proofs.StoreMachineLaws.{image_same, images_hold}

-- ---- what files stand for

first_wider : (s : State BookCall) (xs ys : List (Asked BookCall)) (journal pages : List ℕ) → HoldFirstAsked s xs journal pages → HoldFirstAsked s (xs ++ ys) journal pages
first_wider s xs ys journal pages h = record {
  first = h.first;
  rest = h.rest ++ ys;
  parts = sym (append_assoc h.first h.rest ys) ∙ ap (λ (l : List (Asked BookCall)). l ++ ys) h.parts;
  holds = h.holds;
}

first_behind : (s : State BookCall) (xs ys : List (Asked BookCall)) (journal pages : List ℕ) → HoldFirstAsked (after s xs) ys journal pages → HoldFirstAsked s (xs ++ ys) journal pages
first_behind s xs ys journal pages h = record {
  first = xs ++ h.first;
  rest = h.rest;
  parts = append_assoc xs h.first h.rest ∙ ap (λ (l : List (Asked BookCall)). xs ++ l) h.parts;
  holds = subst (λ (u : State BookCall). HoldState u journal pages) (sym (after_on store_meaning s xs h.first)) h.holds;
}

all_first : (s : State BookCall) (xs : List (Asked BookCall)) (journal pages : List ℕ) → HoldState (after s xs) journal pages → HoldFirstAsked s xs journal pages
all_first s xs journal pages holds = record { first = xs; rest = []; parts = append-nil xs; holds = holds }

-- a crash of files that stand for a state leaves what is committed in it
pub standing_images : (s : State BookCall) (files : Pair) → StandFor s files → PairsHave (HoldState s) files
standing_images s files stand journal pages of_journal of_pages =
    images_hold s files.journal files.pages (record { synced = stand.journal; holds = stand.holds }) stand.pages journal pages of_journal of_pages

-- ---- calls of the journal, beside pages that stay

module _ (s : State BookCall) (old new : Pair) (stand : StandFor s old) (still : new.pages ≡ old.pages) (is_known : Bool) (known : IsTrue is_known) where
  settled : HoldsAll s old.pages.now.reads old.journal
  settled = record { synced = stand.journal; holds = stand.holds }

  line_moments : (asked : List (Asked BookCall)) → LeavesFirst is_known s asked old.journal new.journal → PairsLeave (HoldFirstAsked s asked) old new
  line_moments asked moments = journal_phase (HoldFirstAsked s asked) old new (record {
    leaves = weaker (HoldsFirst s asked old.pages.now.reads) (λ j. (p : List ℕ) → IsImage old.pages.now p → HoldFirstAsked s asked j p) old.journal new.journal
        (λ j h p is. subst (λ (b : List ℕ). HoldFirstAsked s asked j b) (sym (image_same old.pages stand.pages p is)) h) (moments known old.pages.now.reads settled);
    still = still;
  })

  line_files : (t : State BookCall) → ((pages : List ℕ) → HoldsAll s pages old.journal → HoldsAll t pages new.journal) → StandFor t new
  line_files t leads =
      let held : HoldsAll t old.pages.now.reads new.journal = leads old.pages.now.reads settled in
      record {
        journal = held.synced;
        pages = subst IsAllSynced (sym still) stand.pages;
        holds = subst (λ (h : History). HoldState t new.journal.now.reads h.now.reads) (sym still) held.holds;
      }

  line_left : (answered more : List (Asked BookCall)) → LeftEither is_known s answered more old.journal new.journal → PairsHave (HoldOneOf (after s answered) (after s (answered ++ more))) new
  line_left answered more left j p is_j is_p =
      let same : p ≡ old.pages.now.reads = image_same new.pages (subst IsAllSynced (sym still) stand.pages) p is_p ∙ ap (λ (h : History). h.now.reads) still in
      subst (λ (b : List ℕ). HoldOneOf (after s answered) (after s (answered ++ more)) j b) (sym same) (left known old.pages.now.reads settled j is_j)

-- ---- lines

-- before the first
pub none_run : {P : Type 0} (is_known : Bool) (history : P → History) (s : State BookCall) (lines : List Line) (k : KeptStore P) (summary : Summary) → Stands is_known history k.core s → StandFor s (files_of history k)
    → HasRun is_known history s lines lines k k summary summary
none_run is_known history s lines k summary stands files = record {
  front = [];
  parts = refl;
  done = record {
    answered = record {
      valid = tt;
      unrefused = refl;
      stands = stands;
      book = sym (append-nil k.core.book);
      moments = unmoved (HoldFirstAsked s []) (files_of history k);
      files = files;
    };
    counts = refl;
  };
}

-- what stops behind others stops in the whole
stops_behind : (before : List LineReply) → first_reason limit_of before ≡ None → (why : Stop) (lines : List LineReply) (more : List (Asked BookCall)) → StopsBy limit_of why lines more → StopsBy limit_of why (before ++ lines) more
stops_behind before none (stop.Refused reason) lines more cause = (reason_behind limit_of before lines none ∙ cause.0, cause.1)
stops_behind before none stop.DiskFault lines more cause = tt
stops_behind before none stop.NoMemory lines more cause = tt

-- one more
module _ {P : Type 0} (journal_known pages_known : Bool) (history : P → History) (known : IsTrue journal_known) (s : State BookCall) (lines rest : List Line) (line : Line) (old mid : KeptStore P) (before now : Summary)
    (run : HasRun pages_known history s lines (line ∷ rest) old mid before now) where
  -- the state in which the line is asked
  abbrev pub here : State BookCall
  here = after s (generated run.front)

  abbrev front : List (Asked BookCall)
  front = generated run.front

  abbrev asked : List (Asked BookCall)
  asked = generated_line line

  pub here_stands : Stands pages_known history mid.core here
  here_stands = run.done.answered.stands

  module _ (new : KeptStore P) (still : file_in history new ≡ file_in history mid) where
    moments_behind : (zs : List (Asked BookCall)) → LeavesFirst journal_known here zs mid.journal.history new.journal.history → PairsLeave (HoldFirstAsked s (front ++ zs)) (files_of history old) (files_of history new)
    moments_behind zs moments =
        pairs_joined (HoldFirstAsked s (front ++ zs)) (files_of history old) (files_of history mid) (files_of history new)
        (pairs_weaker (HoldFirstAsked s front) (HoldFirstAsked s (front ++ zs)) (first_wider s front zs) (files_of history old) (files_of history mid) run.done.answered.moments)
        (pairs_weaker (HoldFirstAsked here zs) (HoldFirstAsked s (front ++ zs)) (first_behind s front zs) (files_of history mid) (files_of history new)
        (line_moments here (files_of history mid) (files_of history new) run.done.answered.files still journal_known known zs moments))

    both_answered : (replies : List LineReply) → AllAnswered IsValidStoreCall store_meaning (contents_of pages_known history) limit_of journal_known here asked mid.journal.history new.core new.journal.history [] replies
        → new.core.book ≡ mid.core.book ++ (after_asked here asked).book → AnsweredOver pages_known history s (front ++ asked) old new
    both_answered replies two book =
        let one : AnsweredOver pages_known history s front old mid = run.done.answered in
        record {
          valid = valid_on IsValidStoreCall front asked one.valid two.valid;
          unrefused = ap (first_reason limit_of) (said_on store_meaning s front asked) ∙ reason_behind limit_of (said s front) (said here asked) one.unrefused ∙ two.unrefused;
          stands = subst (λ (u : State BookCall). Stands pages_known history new.core u) (sym (after_on store_meaning s front asked)) two.leads.stands;
          book = book
              ∙ ap (λ (b : Book BookCall). b ++ (after_asked here asked).book) one.book
              ∙ append_assoc old.core.book (after_asked s front).book (after_asked here asked).book
              ∙ ap (λ (b : Book BookCall). old.core.book ++ b) (sym (ap (λ (p : Progress BookCall). p.book) (asked_on store_meaning s front asked)));
          moments = moments_behind asked two.moments;
          files = subst (λ (u : State BookCall). StandFor u (files_of history new)) (sym (after_on store_meaning s front asked))
              (line_files here (files_of history mid) (files_of history new) one.files still journal_known known (after here asked) (two.leads.settled known));
        }

    pub run_on : (replies : List LineReply) (later : Summary) → AllAnswered IsValidStoreCall store_meaning (contents_of pages_known history) limit_of journal_known here asked mid.journal.history new.core new.journal.history [] replies
        → new.core.book ≡ mid.core.book ++ (after_asked here asked).book → later ≡ after_line now line.step replies → HasRun pages_known history s lines rest old new before later
    run_on replies later two book counts = record {
      front = run.front ++ line ∷ [];
      parts = append_assoc run.front (line ∷ []) rest ∙ run.parts;
      done = record {
        answered = subst (λ (l : List (Asked BookCall)). AnsweredOver pages_known history s l old new) (sym (generated_one run.front line)) (both_answered replies two book);
        counts = counts ∙ ap (λ (x : Summary × List LineReply). after_line x.0 line.step x.1) (λ i. (run.done.counts i, two.replies i)) ∙ sym (counted_on s before run.front (line ∷ []));
      };
    }

    -- what of a line was answered, more and the rest are all lines
    parts_of : (xs ys zs : List (Asked BookCall)) → xs ++ (ys ++ zs) ≡ asked → (front ++ xs) ++ (ys ++ (zs ++ generated rest)) ≡ generated lines
    parts_of xs ys zs is =
        append_assoc front xs (ys ++ (zs ++ generated rest))
        ∙ ap (λ (l : List (Asked BookCall)). front ++ (xs ++ l)) (sym (append_assoc ys zs (generated rest)))
        ∙ ap (λ (l : List (Asked BookCall)). front ++ l) (sym (append_assoc xs (ys ++ zs) (generated rest)))
        ∙ ap (λ (l : List (Asked BookCall)). front ++ (l ++ generated rest)) is
        ∙ sym (generated_on run.front (line ∷ rest))
        ∙ ap generated run.parts

    pub run_stops : (why : Stop) → Stopped limit_of journal_known here asked mid.journal.history new.journal.history why → StoppedOver s (generated lines) (files_of history old) (files_of history new) (status_of_stop why)
    run_stops why two =
        let one : AnsweredOver pages_known history s front old mid = run.done.answered in
        let whole : front ++ (two.answered ++ two.more) ≡ (front ++ two.answered) ++ two.more = sym (append_assoc front two.answered two.more) in
        record {
          stop = why;
          named = refl;
          answered = front ++ two.answered;
          more = two.more;
          rest = two.rest ++ generated rest;
          parts = parts_of two.answered two.more two.rest two.parts;
          one = two.one;
          valid = subst AreValidAsks whole (valid_on IsValidStoreCall front (two.answered ++ two.more) one.valid two.valid);
          stops = record {
            front = front ++ two.stops.front;
            last = two.stops.last;
            parts = append_assoc front two.stops.front two.stops.last ∙ ap (λ (l : List (Asked BookCall)). front ++ l) two.stops.parts ∙ whole;
            one = two.stops.one;
            unrefused = ap (first_reason limit_of) (said_on store_meaning s front two.stops.front) ∙ reason_behind limit_of (said s front) (said here two.stops.front) one.unrefused ∙ two.stops.unrefused;
          };
          cause = subst (λ (l : List LineReply). StopsBy limit_of why l two.more) (sym (said_on store_meaning s front two.answered)) (stops_behind (said s front) one.unrefused why (said here two.answered) two.more two.cause);
          moments = subst (λ (l : List (Asked BookCall)). PairsLeave (HoldFirstAsked s l) (files_of history old) (files_of history new)) whole (moments_behind (two.answered ++ two.more) two.moments);
          left = λ j p is_j is_p. subst (λ (u : State BookCall × State BookCall). HoldOneOf u.0 u.1 j p)
              (λ i. (sym (after_on store_meaning s front two.answered) i, (sym (after_on store_meaning s front (two.answered ++ two.more)) ∙ ap (after s) whole) i))
              (line_left here (files_of history mid) (files_of history new) one.files still journal_known known two.answered two.more two.left j p is_j is_p);
        }

-- ---- behind lines

-- no more is asked, where files were left that stand for what was committed
pub stopped_after : (s : State BookCall) (asked rest all : List (Asked BookCall)) (old new : Pair) (why : Stop) → asked ++ rest ≡ all → AreValidAsks asked → first_reason limit_of (said s asked) ≡ None → StopsBy {C = BookCall} limit_of why (said s asked) []
    → PairsLeave (HoldFirstAsked s asked) old new → PairsHave (HoldState (after s asked)) new → StoppedOver s all old new (status_of_stop why)
stopped_after s asked rest all old new why parts valid unrefused cause moments left =
    let whole : asked ++ [] ≡ asked = append-nil asked in
    record {
      stop = why;
      named = refl;
      answered = asked;
      more = [];
      rest = rest;
      parts = parts;
      one = omega arith;
      valid = subst AreValidAsks (sym whole) valid;
      stops = record { front = asked; last = []; parts = refl; one = omega arith; unrefused = unrefused };
      cause = cause;
      moments = subst (λ (l : List (Asked BookCall)). PairsLeave (HoldFirstAsked s l) old new) (sym whole) moments;
      left = λ j p is_j is_p. inl (left j p is_j is_p);
    }

module _ {P : Type 0} (is_known : Bool) (history : P → History) (s : State BookCall) (lines rest : List Line) (old mid : KeptStore P) (before now : Summary) (run : HasRun is_known history s lines rest old mid before now) where
  -- the state that was come to
  abbrev pub reached : State BookCall
  reached = after s (generated run.front)

  pub reached_stands : Stands is_known history mid.core reached
  reached_stands = run.done.answered.stands

  pub reached_files : StandFor reached (files_of history mid)
  reached_files = run.done.answered.files

  -- nothing is left
  pub run_ends : rest ≡ [] → AllCounted is_known history s lines old mid before now
  run_ends none =
      let all : run.front ≡ lines = sym (append-nil run.front) ∙ ap (λ (l : List Line). run.front ++ l) (sym none) ∙ run.parts in
      subst (λ (l : List Line). AllCounted is_known history s l old mid before now) all run.done

  -- a checkpoint was tried
  module _ (new : KeptStore P) (result : Result (Unit {0}) OpenError) (left : LeftStanding reached (files_of history mid) (files_of history new) result) where
    with_checkpoint : PairsLeave (HoldFirstAsked s (generated run.front)) (files_of history old) (files_of history new)
    with_checkpoint =
        pairs_joined (HoldFirstAsked s (generated run.front)) (files_of history old) (files_of history mid) (files_of history new) run.done.answered.moments
        (pairs_weaker (HoldState reached) (HoldFirstAsked s (generated run.front)) (all_first s (generated run.front)) (files_of history mid) (files_of history new) left.any_moment)

    pub run_checkpointed : new.core ≡ with_committed (over mid.core new.core.base) new.core.committed → StandFor reached (files_of history new) → HasRun is_known history s lines rest old new before now
    run_checkpointed core files =
        let one : AnsweredOver is_known history s (generated run.front) old mid = run.done.answered in
        record {
          front = run.front;
          parts = run.parts;
          done = record {
            answered = record {
              valid = one.valid;
              unrefused = one.unrefused;
              stands = subst (λ (c : CoreView BookCall (Base P)). Stands is_known history c reached) (sym core) (record { tree = one.stands.tree; opened = one.stands.opened; state = one.stands.state });
              book = ap (λ (c : CoreView BookCall (Base P)). c.book) core ∙ one.book;
              moments = with_checkpoint;
              files = files;
            };
            counts = run.done.counts;
          };
        }

    failed_by : (why : Stop) → StopsBy {C = BookCall} limit_of why (said s (generated run.front)) [] → StoppedOver s (generated lines) (files_of history old) (files_of history new) (status_of_stop why)
    failed_by why cause =
        stopped_after s (generated run.front) (generated rest) (generated lines) (files_of history old) (files_of history new) why (sym (generated_on run.front rest) ∙ ap generated run.parts)
        run.done.answered.valid run.done.answered.unrefused cause with_checkpoint
        (pairs_now (HoldState reached) (files_of history mid) (files_of history new) left.any_moment (standing_images reached (files_of history mid) run.done.answered.files))

    pub run_failed : (fault : OpenError) → ((place : Place) → fault ≡ error.Damaged place → ⊥) → StoppedOver s (generated lines) (files_of history old) (files_of history new) (status_of fault)
    run_failed error.DiskFault undamaged = failed_by stop.DiskFault tt
    run_failed error.NoMemory undamaged = failed_by stop.NoMemory tt
    run_failed (error.Damaged place) undamaged = absurd (undamaged place refl)

-- ---- by what is ensured from each state

module _ {P : Type 0} (journal_known pages_known : Bool) (history : P → History) (s : State BookCall) (lines rest : List Line) (line : Line) (old mid new : KeptStore P) (before now : Summary)
    (known : IsTrue journal_known) (run : HasRun pages_known history s lines (line ∷ rest) old mid before now) (still : file_in history new ≡ file_in history mid) where
  -- a line was done
  pub line_done_on : (replies : List LineReply) (later : Summary)
      → ((u : State BookCall) → Stands pages_known history mid.core u → AllAnswered IsValidStoreCall store_meaning (contents_of pages_known history) limit_of journal_known u (generated_line line) mid.journal.history new.core new.journal.history [] replies)
      → ((u : State BookCall) → Stands pages_known history mid.core u → new.core.book ≡ mid.core.book ++ (after_asked u (generated_line line)).book)
      → later ≡ after_line now line.step replies → HasRun pages_known history s lines rest old new before later
  line_done_on replies later asked book counts =
      let u : State BookCall = here journal_known pages_known history known s lines rest line old mid before now run in
      let stands : Stands pages_known history mid.core u = here_stands journal_known pages_known history known s lines rest line old mid before now run in
      run_on journal_known pages_known history known s lines rest line old mid before now run new still replies later (asked u stands) (book u stands) counts

  -- or it stopped
  pub line_stops_on : (why : Stop) → ((u : State BookCall) → Stands pages_known history mid.core u → Stopped limit_of journal_known u (generated_line line) mid.journal.history new.journal.history why)
      → StoppedOver s (generated lines) (files_of history old) (files_of history new) (status_of_stop why)
  line_stops_on why asked =
      let u : State BookCall = here journal_known pages_known history known s lines rest line old mid before now run in
      run_stops journal_known pages_known history known s lines rest line old mid before now run new still why (asked u (here_stands journal_known pages_known history known s lines rest line old mid before now run))

module _ {P : Type 0} (is_known : Bool) (history : P → History) (s : State BookCall) (lines rest : List Line) (old mid new : KeptStore P) (before now : Summary) (run : HasRun is_known history s lines rest old mid before now)
    (result : Result (Unit {0}) OpenError) (left : (u : State BookCall) → Stands is_known history mid.core u → StandFor u (files_of history mid) → LeftStanding u (files_of history mid) (files_of history new) result) where
  left_here : LeftStanding (reached is_known history s lines rest old mid before now run) (files_of history mid) (files_of history new) result
  left_here = left (reached is_known history s lines rest old mid before now run) (reached_stands is_known history s lines rest old mid before now run) (reached_files is_known history s lines rest old mid before now run)

  -- a checkpoint was tried behind it
  pub checkpoint_on : new.core ≡ with_committed (over mid.core new.core.base) new.core.committed
      → ((u : State BookCall) → Stands is_known history mid.core u → StandFor u (files_of history mid) → StandFor u (files_of history new)) → HasRun is_known history s lines rest old new before now
  checkpoint_on core at_end =
      run_checkpointed is_known history s lines rest old mid before now run new result left_here core
      (at_end (reached is_known history s lines rest old mid before now run) (reached_stands is_known history s lines rest old mid before now run) (reached_files is_known history s lines rest old mid before now run))

  -- or failed
  pub checkpoint_stops_on : (fault : OpenError) → ((place : Place) → fault ≡ error.Damaged place → ⊥) → StoppedOver s (generated lines) (files_of history old) (files_of history new) (status_of fault)
  checkpoint_stops_on fault undamaged = run_failed is_known history s lines rest old mid before now run new result left_here fault undamaged

-- it stopped
pub ran_err : {P T : Type 0} (is_known : Bool) (history : P → History) (r : Result T Status) (status : Status) (s : State BookCall) (lines : List Line) (old new : KeptStore P) (before now : Summary)
    → IsErrAnd r (λ e. e ≡ status) → StoppedOver s (generated lines) (files_of history old) (files_of history new) status → RanLines is_known history s lines old new before now r
ran_err is_known history (Ok x) status s lines old new before now none stopped = absurd none
ran_err is_known history (Err e) status s lines old new before now is stopped = subst (StoppedOver s (generated lines) (files_of history old) (files_of history new)) (sym is) stopped
