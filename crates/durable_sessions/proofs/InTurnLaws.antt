-- What asking in turn leaves of the core and the journal: step by step, and one list behind another.
use Rattle.std.proofs.Common.{◌≡◌, ◌≢◌, ℕ, Bool, List, [], ◌∷◌, ◌++◌, inl, inr, refl, sym, ap, subst, ◌∙◌, append-nil, arith}
use Rattle.std.specs.Prelude.{Option, None, Some, Result, Ok, Err}
use Rattle.std.specs.Result.{IsErrAnd}
use Rattle.std.proofs.lemmas.List.{append_assoc}
use Rattle.outside_traits.specs.CrashImages.{IsImage}
use Rattle.outside_traits.specs.Disks.{DiskState}
use Rattle.outside_traits.specs.Moments.{History, LeavesOnly}
use Rattle.outside_traits.proofs.ImageLaws.{image-all_synced}
use Rattle.outside_traits.proofs.MomentLaws.{started, joined, weaker, since_itself, image_since, leaves_all}
use Rattle.tree_model.specs.Entries.{Entries}
use Rattle.store_contents.specs.Contents.{contents_of_files}
use Rattle.call_contract.specs.Calls.{CallMeaning}
use Rattle.call_contract.specs.States.{State}
use Rattle.command_lines.specs.declared.line_reply.LineReply.{LineReply}
use Rattle.session_driver.specs.Lines.{Asked, AreValid, IsValidDoing, after_line}
use Rattle.session_driver.specs.declared.doing.Doing.TheVariants.{Commit}
use Rattle.tx_core.specs.Cores.{CoreView}
use Rattle.durable_sessions.specs.Asked.{LeadsTo, LeavesEither}
use Rattle.durable_sessions.specs.Durable.{HoldState, HoldsAll, HoldsEither}
use Rattle.durable_sessions.specs.InTurn.{after, said, stop_of, HoldsFirst, LeavesFirst, AllAnswered, Stopped, StopsBy, AskedInTurn}
use Rattle.durable_sessions.specs.Reasons.{first_reason}
use Rattle.durable_sessions.specs.Standing.{Stands}
use Rattle.durable_sessions.specs.declared.halt.Halt.{Halt}
use Rattle.durable_sessions.specs.declared.halt.Halt.TheVariants as halt
use Rattle.durable_sessions.specs.declared.in_turn.Stop.{Stop}
use Rattle.durable_sessions.specs.declared.in_turn.Stop.TheVariants.{Refused, DiskFault, NoMemory}
use Rattle.durable_sessions.specs.declared.reasons.Reason.{Reason}
use Rattle.durable_sessions.proofs.InTurnLists.{after_on, said_on, reason_behind, valid_on, no_commit_first, no_commit_rest}

-- ---- the journal

-- what calls leave at each moment, a crash now leaves
now_left : (P : List ℕ → Type 0) (old new : History) → LeavesOnly P old new → ((image : List ℕ) → IsImage old.now image → P image) → (image : List ℕ) → IsImage new.now image → P image
now_left P old new run at_start image is =
    leaves_all P old new run at_start image (image_since old new image (record { crash = new; since = record { more = run.more; states = run.states }; before = since_itself new; is = is }))

module _ {C : Type 0} where
  -- a crash of a journal that is all synced leaves what is committed
  pub image_holds : (s : State C) (pages : List ℕ) (journal : History) → HoldsAll s pages journal → (image : List ℕ) → IsImage journal.now image → HoldState s image pages
  image_holds s pages journal settled image is =
      ap (λ b. contents_of_files b pages) (image-all_synced journal.now.reads image (subst (λ (d : DiskState). IsImage d image) settled.synced is)) ∙ settled.holds

module _ {C : Type 0} (m : CallMeaning C) where
  first_wider : (s : State C) (xs ys : List (Asked C)) (pages image : List ℕ) → HoldsFirst m s xs pages image → HoldsFirst m s (xs ++ ys) pages image
  first_wider s xs ys pages image h = record {
    first = h.first;
    rest = h.rest ++ ys;
    parts = sym (append_assoc h.first h.rest ys) ∙ ap (λ (l : List (Asked C)). l ++ ys) h.parts;
    holds = h.holds;
  }

  first_behind : (s : State C) (xs ys : List (Asked C)) (pages image : List ℕ) → HoldsFirst m (after m s xs) ys pages image → HoldsFirst m s (xs ++ ys) pages image
  first_behind s xs ys pages image h = record {
    first = xs ++ h.first;
    rest = h.rest;
    parts = append_assoc xs h.first h.rest ∙ ap (λ (l : List (Asked C)). xs ++ l) h.parts;
    holds = subst (λ (u : State C). HoldState u image pages) (sym (after_on m s xs h.first)) h.holds;
  }

-- ---- one list behind another

module _ {C B : Type 0} (is_valid : C → Type 0) (m : CallMeaning C) (contents : B → Option Entries) (by : LineReply → Option Reason) (is_known : Bool) (s : State C) (xs ys : List (Asked C)) (old mid : History) (core : CoreView C B) (before now : List LineReply)
    (one : AllAnswered is_valid m contents by is_known s xs old core mid before now) where
  moments_on : (new : History) (zs : List (Asked C)) → LeavesFirst m is_known (after m s xs) zs mid new → LeavesFirst m is_known s (xs ++ zs) old new
  moments_on new zs two known pages holds =
      joined (HoldsFirst m s (xs ++ zs) pages) old mid new
      (weaker (HoldsFirst m s xs pages) (HoldsFirst m s (xs ++ zs) pages) old mid (first_wider m s xs zs pages) (one.moments known pages holds))
      (weaker (HoldsFirst m (after m s xs) zs pages) (HoldsFirst m s (xs ++ zs) pages) mid new (first_behind m s xs zs pages) (two known pages (one.leads.settled known pages holds)))

  pub answered_on : (last : CoreView C B) (new : History) (later : List LineReply) → AllAnswered is_valid m contents by is_known (after m s xs) ys mid last new now later → AllAnswered is_valid m contents by is_known s (xs ++ ys) old last new before later
  answered_on last new later two =
      let state : after m s (xs ++ ys) ≡ after m (after m s xs) ys = after_on m s xs ys in
      let lines : said m s (xs ++ ys) ≡ said m s xs ++ said m (after m s xs) ys = said_on m s xs ys in
      record {
        valid = valid_on is_valid xs ys one.valid two.valid;
        leads = record {
          stands = subst (Stands m contents last) (sym state) two.leads.stands;
          settled = λ known pages holds. subst (λ (u : State C). HoldsAll u pages new) (sym state) (two.leads.settled known pages (one.leads.settled known pages holds));
        };
        moments = moments_on new ys two.moments;
        still = λ none. two.still (no_commit_rest xs ys none) ∙ one.still (no_commit_first xs ys none);
        replies = two.replies ∙ ap (λ (l : List LineReply). l ++ said m (after m s xs) ys) one.replies ∙ append_assoc before (said m s xs) (said m (after m s xs) ys) ∙ ap (λ (l : List LineReply). before ++ l) (sym lines);
        unrefused = ap (first_reason by) lines ∙ reason_behind by (said m s xs) (said m (after m s xs) ys) one.unrefused ∙ two.unrefused;
      }

  -- what stops behind these stops in the whole
  stops_on : (stop : Stop) (lines : List LineReply) (more : List (Asked C)) → StopsBy by stop lines more → StopsBy by stop (said m s xs ++ lines) more
  stops_on (Refused why) lines more cause = (reason_behind by (said m s xs) lines one.unrefused ∙ cause.0, cause.1)
  stops_on DiskFault lines more cause = tt
  stops_on NoMemory lines more cause = tt

  pub stopped_on : (new : History) (stop : Stop) → Stopped is_valid m by is_known (after m s xs) ys mid new stop → Stopped is_valid m by is_known s (xs ++ ys) old new stop
  stopped_on new stop two =
      let whole : xs ++ (two.answered ++ two.more) ≡ (xs ++ two.answered) ++ two.more = sym (append_assoc xs two.answered two.more) in
      record {
        answered = xs ++ two.answered;
        more = two.more;
        rest = two.rest;
        parts = append_assoc xs two.answered (two.more ++ two.rest) ∙ ap (λ (l : List (Asked C)). xs ++ l) two.parts;
        one = two.one;
        valid = subst (AreValid is_valid) whole (valid_on is_valid xs (two.answered ++ two.more) one.valid two.valid);
        moments = subst (λ (l : List (Asked C)). LeavesFirst m is_known s l old new) whole (moments_on new (two.answered ++ two.more) two.moments);
        left = λ known pages holds image is.
            subst (λ (u : State C × State C). HoldsEither u.0 u.1 pages image)
            (λ i. (sym (after_on m s xs two.answered) i, (sym (after_on m s xs (two.answered ++ two.more)) ∙ ap (after m s) whole) i))
            (two.left known pages (one.leads.settled known pages holds) image is);
        still = λ none. two.still (no_commit_rest xs ys none) ∙ one.still (no_commit_first xs ys none);
        stops = record {
          front = xs ++ two.stops.front;
          last = two.stops.last;
          parts = append_assoc xs two.stops.front two.stops.last ∙ ap (λ (l : List (Asked C)). xs ++ l) two.stops.parts ∙ whole;
          one = two.stops.one;
          unrefused = ap (first_reason by) (said_on m s xs two.stops.front) ∙ reason_behind by (said m s xs) (said m (after m s xs) two.stops.front) one.unrefused ∙ two.stops.unrefused;
        };
        cause = subst (λ (l : List LineReply). StopsBy by stop l two.more) (sym (said_on m s xs two.answered)) (stops_on stop (said m (after m s xs) two.answered) two.more two.cause);
      }

-- ---- nothing is asked, or more

module _ {C : Type 0} (is_valid : C → Type 0) (m : CallMeaning C) (by : LineReply → Option Reason) where
  pub not_begun : (is_known : Bool) (s : State C) (all : List (Asked C)) (old new : History) → new ≡ old → Stopped is_valid m by is_known s all old new NoMemory
  not_begun is_known s all old new same = subst (λ (h : History). Stopped is_valid m by is_known s all old h NoMemory) (sym same) (record {
    answered = [];
    more = [];
    rest = all;
    parts = refl;
    one = omega arith;
    valid = tt;
    moments = λ known pages holds. started (HoldsFirst m s [] pages) old;
    left = λ known pages holds image is. inl (image_holds s pages old holds image is);
    still = λ none. refl;
    stops = record { front = []; last = []; parts = refl; one = omega arith; unrefused = refl };
    cause = tt;
  })

  -- more could have been asked
  pub stopped_wider : (is_known : Bool) (s : State C) (xs ys : List (Asked C)) (old new : History) (stop : Stop) → Stopped is_valid m by is_known s xs old new stop → Stopped is_valid m by is_known s (xs ++ ys) old new stop
  stopped_wider is_known s xs ys old new stop h = record {
    answered = h.answered;
    more = h.more;
    rest = h.rest ++ ys;
    parts = ap (λ (l : List (Asked C)). h.answered ++ l) (sym (append_assoc h.more h.rest ys)) ∙ sym (append_assoc h.answered (h.more ++ h.rest) ys) ∙ ap (λ (l : List (Asked C)). l ++ ys) h.parts;
    one = h.one;
    valid = h.valid;
    moments = h.moments;
    left = h.left;
    still = λ none. h.still (no_commit_first xs ys none);
    stops = h.stops;
    cause = h.cause;
  }

module _ {C B : Type 0} (is_valid : C → Type 0) (m : CallMeaning C) (contents : B → Option Entries) (by : LineReply → Option Reason) where
  pub none_asked : (is_known : Bool) (s : State C) (core : CoreView C B) (journal : History) (replies : List LineReply) → Stands m contents core s → AllAnswered is_valid m contents by is_known s [] journal core journal replies replies
  none_asked is_known s core journal replies stands = record {
    valid = tt;
    leads = record { stands = stands; settled = λ known pages holds. holds };
    moments = λ known pages holds. started (HoldsFirst m s [] pages) journal;
    still = λ none. refl;
    replies = sym (append-nil replies);
    unrefused = refl;
  }

  -- all were answered, and then memory was wanting
  pub stopped_behind : (is_known : Bool) (s : State C) (all : List (Asked C)) (old new : History) (core : CoreView C B) (before now : List LineReply)
      → AllAnswered is_valid m contents by is_known s all old core new before now → Stopped is_valid m by is_known s all old new NoMemory
  stopped_behind is_known s all old new core before now h =
      let whole : all ++ [] ≡ all = append-nil all in
      record {
        answered = all;
        more = [];
        rest = [];
        parts = whole;
        one = omega arith;
        valid = subst (AreValid is_valid) (sym whole) h.valid;
        moments = subst (λ (l : List (Asked C)). LeavesFirst m is_known s l old new) (sym whole) h.moments;
        left = λ known pages holds image is. inl (image_holds (after m s all) pages new (h.leads.settled known pages holds) image is);
        still = h.still;
        stops = record { front = all; last = []; parts = refl; one = omega arith; unrefused = h.unrefused };
        cause = tt;
      }

  -- an error that is answered so
  pub stopped_err : {T : Type 0} (r : Result T Stop) (stop : Stop) (is_known : Bool) (s : State C) (all : List (Asked C)) (old : History) (core : CoreView C B) (new : History) (before now : List LineReply)
      → IsErrAnd r (λ e. e ≡ stop) → Stopped is_valid m by is_known s all old new stop → AskedInTurn is_valid m contents by is_known s all old core new before now r
  stopped_err (Ok x) stop is_known s all old core new before now none stopped = absurd none
  stopped_err (Err e) stop is_known s all old core new before now is stopped = subst (Stopped is_valid m by is_known s all old new) (sym is) stopped

  -- what is asked behind what was answered
  pub asked_behind : {T : Type 0} (r : Result T Stop) (is_known : Bool) (s : State C) (xs ys : List (Asked C)) (old mid new : History) (core last : CoreView C B) (before now later : List LineReply)
      → AllAnswered is_valid m contents by is_known s xs old core mid before now → AskedInTurn is_valid m contents by is_known (after m s xs) ys mid last new now later r → AskedInTurn is_valid m contents by is_known s (xs ++ ys) old last new before later r
  asked_behind (Ok x) is_known s xs ys old mid new core last before now later one two = answered_on is_valid m contents by is_known s xs ys old mid core before now one last new later two
  asked_behind (Err e) is_known s xs ys old mid new core last before now later one two = stopped_on is_valid m contents by is_known s xs ys old mid core before now one new e two

-- ---- one step

module _ {C B : Type 0} (is_valid : C → Type 0) (m : CallMeaning C) (contents : B → Option Entries) (by : LineReply → Option Reason) (is_known : Bool) (s : State C) (a : Asked C) (valid : IsValidDoing is_valid a.doing) (old new : History) (still : a.doing ≢ Commit → new ≡ old) where
  abbrev one_asked : List (Asked C)
  one_asked = a ∷ []

  either_first : (pages image : List ℕ) → HoldsEither s (after_line m s a).state pages image → HoldsFirst m s one_asked pages image
  either_first pages image (inl holds) = record { first = []; rest = one_asked; parts = refl; holds = holds }
  either_first pages image (inr holds) = record { first = one_asked; rest = []; parts = refl; holds = holds }

  pub step_moments : LeavesEither is_known old new s (after_line m s a).state → LeavesFirst m is_known s one_asked old new
  step_moments leaves known pages holds = weaker (HoldsEither s (after_line m s a).state pages) (HoldsFirst m s one_asked pages) old new (either_first pages) (leaves known pages holds)

  pub step_lines : said m s one_asked ≡ (after_line m s a).lines
  step_lines = append-nil (after_line m s a).lines

  pub step_answered : (core : CoreView C B) (before now : List LineReply) → LeadsTo m contents is_known old core new s (after_line m s a).state → LeavesEither is_known old new s (after_line m s a).state
      → now ≡ before ++ (after_line m s a).lines → first_reason by before ≡ None → first_reason by now ≡ None → AllAnswered is_valid m contents by is_known s one_asked old core new before now
  step_answered core before now leads leaves replies unrefused none = record {
    valid = (valid, tt);
    leads = leads;
    moments = step_moments leaves;
    still = λ asks_none. still asks_none.0;
    replies = replies ∙ ap (λ (l : List LineReply). before ++ l) (sym step_lines);
    unrefused = ap (first_reason by) step_lines ∙ sym (reason_behind by before (after_line m s a).lines unrefused) ∙ ap (first_reason by) (sym replies) ∙ none;
  }

  pub step_refused : (core : CoreView C B) (before now : List LineReply) (rest : List (Asked C)) (why : Reason) → LeadsTo m contents is_known old core new s (after_line m s a).state → LeavesEither is_known old new s (after_line m s a).state
      → now ≡ before ++ (after_line m s a).lines → first_reason by before ≡ None → first_reason by now ≡ Some why → Stopped is_valid m by is_known s (a ∷ rest) old new (Refused why)
  step_refused core before now rest why leads leaves replies unrefused refused = record {
    answered = one_asked;
    more = [];
    rest = rest;
    parts = refl;
    one = omega arith;
    valid = (valid, tt);
    moments = step_moments leaves;
    left = λ known pages holds image is. inl (image_holds (after_line m s a).state pages new (leads.settled known pages holds) image is);
    still = λ asks_none. still asks_none.0;
    stops = record { front = []; last = one_asked; parts = refl; one = omega arith; unrefused = refl };
    cause = (ap (first_reason by) step_lines ∙ sym (reason_behind by before (after_line m s a).lines unrefused) ∙ ap (first_reason by) (sym replies) ∙ refused, refl);
  }

  halts : (h : Halt) (more : List (Asked C)) → StopsBy by (stop_of h) (said m s []) more
  halts halt.DiskFault more = tt
  halts halt.NoMemory more = tt

  pub step_stopped : (rest : List (Asked C)) (h : Halt) → LeavesEither is_known old new s (after_line m s a).state → Stopped is_valid m by is_known s (a ∷ rest) old new (stop_of h)
  step_stopped rest h leaves = record {
    answered = [];
    more = one_asked;
    rest = rest;
    parts = refl;
    one = omega arith;
    valid = (valid, tt);
    moments = step_moments leaves;
    left = λ known pages holds. now_left (HoldsEither s (after_line m s a).state pages) old new (leaves known pages holds) (λ image is. inl (image_holds s pages old holds image is));
    still = λ asks_none. still asks_none.0;
    stops = record { front = []; last = one_asked; parts = refl; one = omega arith; unrefused = refl };
    cause = halts h one_asked;
  }
