-- What the calls of the core do to the list behind the turn.
use Rattle.std.proofs.Common.{◌≡◌, ◌≢◌, ℕ, Bool, true, false, List, [], ◌∷◌, ◌++◌, ◌⊎◌, ◌+◌, ◌<◌, ◌≤◌, length, sym, refl, ap, ◌∙◌, subst, inl, inr, arith}
use Rattle.std.specs.Prelude.{Option, Some, None, Result, Ok, Err, IfOk, IfErr, OnErr, nat_lt, vec_capacity, if◌then◌else◌}
use Rattle.std.proofs.lemmas.List.{append-nil, length-append}
use Rattle.std.specs.declared.alloc.Global.{Global}
use Rattle.std.specs.declared.vec.Vec.{Vec}
use Rattle.node_records.specs.Pending.{FollowOn}
use Rattle.node_records.specs.declared.pending.Pending.{Pending}
use Rattle.tree_model.specs.Entries.{Entries}
use Rattle.tree_model.specs.Tree.{Tree}
use Rattle.node_seq.specs.Trees.{StandsFor}
use Rattle.call_contract.specs.Books.{Book, entry, fault_in, FaultsRise, IsAbove, last, last_fault}
use Rattle.call_contract.specs.Calls.{CallMeaning}
use Rattle.call_contract.specs.Sessions.{begins, begins_of, commits_in, live_in, queue_after}
use Rattle.call_contract.specs.States.{start}
use Rattle.call_contract.specs.declared.events.Answer.{Answer}
use Rattle.call_contract.specs.declared.events.Event.TheVariants as event
use Rattle.call_contract.specs.declared.events.EventAnswer.TheVariants as said
use Rattle.call_contract.specs.declared.events.Noted.{Noted}
use Rattle.call_contract.proofs.Appends.{commits_append, faults_rest}
use Rattle.tx_core.specs.Commits.{IsPastLimitIn}
use Rattle.tx_core.specs.Queues.{HasQueue, times}
use Rattle.tx_core.specs.Cores.{CoreView, count_told, drained, IsGivenUpBy, IsLeftBy, next_number, over, state_from, waits_in, with_committed, with_entry, with_pending}
use Rattle.tx_core.specs.Refusals.{refused_abort, refused_begin, refused_call}
use Rattle.tx_core.specs.Refusals as core
use Rattle.tx_core.specs.Retries.{HasRetried, IsRetried, with_retry as core_retry}
use Rattle.tx_core.specs.declared.commits.Prepared.{Prepared}
use Rattle.tx_core.specs.declared.errors.CallError.{CallError}
use Rattle.tx_core.specs.declared.errors.CallError.TheVariants as call_error
use Rattle.tx_core.specs.declared.errors.SessionError.{SessionError}
use Rattle.tx_core.specs.declared.errors.SessionError.TheVariants as session_error
use Rattle.turn_lock.specs.Turns.{has_number, is_own_or_none, AreOwn, GrewBy}
use Rattle.shared_store.specs.Bodies.{HasBodies}
use Rattle.shared_store.specs.Calls.{commit_refusal_in, HasAborted, HasBegun, HasCommitted, HasDrained, HasTried, HasTriedAgain, IsAnsweredAgain, IsGivenUp, IsLeft, NeverHalted, shown_refusal, with_noted, with_retry}
use Rattle.shared_store.specs.Lists.{book_of, drained_in, list_of, noted, number_of, SessionsFit, state_in}
use Rattle.shared_store.specs.declared.desk.Drain.{Drain}
use Rattle.shared_store.specs.declared.desk.Entry.{Entry}
use Rattle.shared_store.specs.declared.desk.Entry.TheVariants as kind
use Rattle.shared_store.specs.declared.errors.StoreError.{StoreError}
use Rattle.shared_store.specs.declared.errors.StoreError.TheVariants as store_error
use Rattle.shared_store.specs.inside.Desks.{AddsUnder, AreUnder, as_again, as_called, as_error, as_ended, as_refusal, IsDesk, last_drained, RiseTo}
use Rattle.shared_store.proofs.Bodies.{bodies_stay}
use Rattle.shared_store.proofs.Weaves.{last_snoc, list_book, list_drained, list_last, list_more, list_one, rise_more, rise_snoc}

-- ---- entries under a number

own_under : {C B : Type 0} (has : List Bool) (s : ℕ) → has_number has s ≡ true → (es : List (Entry C B)) → AreUnder s es → AreOwn number_of has es
own_under has s h [] u = tt
own_under has s h (e ∷ es) u = (subst (λ o. is_own_or_none has o ≡ true) (sym u.0) h, own_under has s h es u.1)

-- what was added under a number that a pass has is its own
pub grew : {C B : Type 0} (has : List Bool) (s : ℕ) (before after : List (Entry C B)) → has_number has s ≡ true → AddsUnder s before after → GrewBy number_of has before after
grew has s before after h a = (a.0, a.1, own_under has s h a.0 a.2)

abbrev AreOf : {C : Type 0} → ℕ → Book C → Type 0
AreOf s [] = Unit {0}
AreOf s (n ∷ ns) = (n.session ≡ s) × AreOf s ns

under_noted : (C B : Type 0) (s : ℕ) (ns : Book C) → AreOf s ns → AreUnder {C = C} {B = B} s (noted ns)
under_noted C B s [] of = tt
under_noted C B s (n ∷ ns) of = (ap Some of.0, under_noted C B s ns of.1)

fit_more : {C : Type 0} (s : ℕ) (xs ys : Book C) → s < 65 → SessionsFit xs → AreOf s ys → SessionsFit (xs ++ ys)
fit_more s [] [] small fit of = tt
fit_more s [] (y ∷ ys) small fit of = (omega (arith, small, of.0), fit_more s [] ys small tt of.1)
fit_more s (x ∷ xs) ys small fit of = (fit.0, fit_more s xs ys small fit.1 of)

-- ---- one call of the core

-- the book gained entries of one session, and what it was opened with stays
pub record Steps {C B : Type 0} (s : ℕ) (v w : CoreView C B) : Type 0 where
  pub added : Book C
  pub book : w.book ≡ v.book ++ added
  pub own : AreOf s added
  pub opening : w.opening ≡ v.opening
  pub number : w.number ≡ v.number
  pub limit : w.limit ≡ v.limit

-- and nothing is left to be handed out that wasn't before
pub record Keeps {C B : Type 0} (s : ℕ) (v w : CoreView C B) : Type 0 where
  pub steps : Steps s v w
  pub commits : commits_in w.book ≡ commits_in v.book
  pub after : w.undrained.after ≡ v.undrained.after
  pub waiting : w.undrained.waiting ≡ v.undrained.waiting

module _ {C B : Type 0} (s : ℕ) (v w : CoreView C B) where
  -- one entry more, which is no commit's
  pub keeps_entry : (n : Noted C) → n.session ≡ s → commits_in (n ∷ []) ≡ 0 → w ≡ over (with_entry v n) w.base → Keeps s v w
  keeps_entry n e none is =
      let book : w.book ≡ v.book ++ n ∷ [] = ap (λ (x : CoreView C B). x.book) is in
      record {
        steps = record {
          added = n ∷ [];
          book = book;
          own = (e, tt);
          opening = ap (λ (x : CoreView C B). x.opening) is;
          number = ap (λ (x : CoreView C B). x.number) is;
          limit = ap (λ (x : CoreView C B). x.limit) is;
        };
        commits = omega (arith, ap commits_in book, commits_append v.book (n ∷ []), none);
        after = ap (λ (x : CoreView C B). x.undrained.after) is;
        waiting = ap (λ (x : CoreView C B). x.undrained.waiting) is;
      }

  -- none
  pub keeps_all : w ≡ over v w.base → Keeps s v w
  keeps_all is = record {
    steps = record {
      added = [];
      book = ap (λ (x : CoreView C B). x.book) is ∙ sym (append-nil v.book);
      own = tt;
      opening = ap (λ (x : CoreView C B). x.opening) is;
      number = ap (λ (x : CoreView C B). x.number) is;
      limit = ap (λ (x : CoreView C B). x.limit) is;
    };
    commits = ap commits_in (ap (λ (x : CoreView C B). x.book) is);
    after = ap (λ (x : CoreView C B). x.undrained.after) is;
    waiting = ap (λ (x : CoreView C B). x.undrained.waiting) is;
  }

  on_base : (x : CoreView C B) → w ≡ x → w ≡ over x w.base
  on_base x is = is ∙ (λ i. over x (sym (ap (λ (y : CoreView C B). y.base) is) i))

  pub keeps_ended : {T : Type 0} (r : Result T SessionError) (n : T → Noted C) → ((x : T) → (n x).session ≡ s) → ((x : T) → commits_in (n x ∷ []) ≡ 0) → IfOk r (λ x. w ≡ with_entry v (n x)) → OnErr r (w ≡ v) → Keeps s v w
  keeps_ended (Ok x) n same none ok err = keeps_entry (n x) (same x) (none x) (on_base (with_entry v (n x)) ok)
  keeps_ended (Err e) n same none ok err = keeps_all (on_base v err)

  pub keeps_left : (count : B → ℕ) (c : C) (e : CallError) → IsLeftBy count v s c e w → Keeps s v w
  keeps_left count c (call_error.Session why) is = keeps_all (on_base v is)
  keeps_left count c call_error.NoMemory (inl is) = keeps_all is
  keeps_left count c call_error.NoMemory (inr (k, some, is)) = keeps_entry (entry s (event.Fail (Some c) k None) said.Nothing) refl refl is
  keeps_left count c call_error.DiskFault (k, is) = keeps_entry (entry s (event.Fail (Some c) k (Some (count w.base))) said.Nothing) refl refl is

  pub keeps_tried : (count : B → ℕ) (c : C) (r : Result Answer CallError) → IfOk r (λ a. w ≡ over (with_entry v (entry s (event.Call c) (said.Call a))) w.base) → IfErr r (λ e. IsLeftBy count v s c e w) → Keeps s v w
  keeps_tried count c (Ok a) ok err = keeps_entry (entry s (event.Call c) (said.Call a)) refl refl ok
  keeps_tried count c (Err e) ok err = keeps_left count c e err

pub base_left : {T C B : Type 0} (v w : CoreView C B) (r : Result T SessionError) (n : T → Noted C) → IfOk r (λ x. w ≡ with_entry v (n x)) → OnErr r (w ≡ v) → w.base ≡ v.base
base_left {C = C} {B = B} v w (Ok x) n ok err = ap (λ (y : CoreView C B). y.base) ok
base_left {C = C} {B = B} v w (Err e) n ok err = ap (λ (y : CoreView C B). y.base) err

-- ---- the desk

module _ {C B : Type 0} (unchanged : B → B → Type 0) (first v w : CoreView C B) (drains : Vec Drain Global) (desk : IsDesk unchanged v first drains) (s : ℕ) (small : s < 65) where
  pub adds : Steps s v w → AddsUnder s (list_of first v.book drains.items) (list_of first w.book drains.items)
  adds steps = (noted steps.added, list_more first v.book drains.items desk.rise w.book steps.added steps.book, under_noted C B s steps.added steps.own)

  pub stays_desk : unchanged first.base w.base → Keeps s v w → IsDesk unchanged w first drains
  stays_desk base is =
      let longer : length w.book ≡ length v.book + length is.steps.added = ap length is.steps.book ∙ length-append v.book is.steps.added in
      record {
        opening = is.steps.opening ∙ desk.opening;
        number = is.steps.number ∙ desk.number;
        limit = is.steps.limit ∙ desk.limit;
        base = base;
        rise = rise_more 0 (length v.book) (length w.book) drains.items (omega (arith, longer)) desk.rise;
        handed = is.after ∙ desk.handed;
        fit = subst SessionsFit (sym is.steps.book) (fit_more s v.book is.steps.added small desk.fit is.steps.own);
        room = λ waits. desk.room (omega (arith, waits, is.after, is.steps.number, is.commits));
      }

-- the commits that wait have the bodies that they had
pub keeps_bodies : {C B : Type 0} (m : CallMeaning C) (told : B → Option Entries) (s : ℕ) (v w : CoreView C B) → Keeps s v w → HasBodies m told v → HasBodies m told w
keeps_bodies m told s v w is h = bodies_stay m told v w is.steps.added is.steps.book none is.steps.opening is.waiting h
  where
    none : commits_in is.steps.added ≡ 0
    none = omega (arith, is.commits, ap commits_in is.steps.book, commits_append v.book is.steps.added)

-- ---- answers

shown_same : {T : Type 0} (r : Result T SessionError) → shown_refusal (as_ended r) ≡ core.shown_refusal r
shown_same (Ok x) = refl
shown_same (Err session_error.IsWaiting) = refl
shown_same (Err session_error.InTransaction) = refl
shown_same (Err session_error.NoTransaction) = refl
shown_same (Err session_error.TxLimit) = refl
shown_same (Err session_error.CommitLimit) = refl
shown_same (Err session_error.NoMemory) = refl

ended_ok : {T : Type 0} (P : T → Type 0) (r : Result T SessionError) → IfOk r P → IfOk (as_ended r) P
ended_ok P (Ok x) is = is
ended_ok P (Err e) is = tt

ended_err : {T : Type 0} (P : Type 0) (r : Result T SessionError) → OnErr r P → OnErr (as_ended r) P
ended_err P (Ok x) is = tt
ended_err P (Err e) is = is

ok_map : {T E : Type 0} (P Q : T → Type 0) (r : Result T E) → ((x : T) → P x → Q x) → IfOk r P → IfOk r Q
ok_map P Q (Ok x) f is = f x is
ok_map P Q (Err e) f is = tt

err_map : {T E : Type 0} (P Q : Type 0) (r : Result T E) → (P → Q) → OnErr r P → OnErr r Q
err_map P Q (Ok x) f is = tt
err_map P Q (Err e) f is = f is

no_fault : {T : Type 0} (r : Result T SessionError) → as_ended r ≡ Err store_error.DiskFault → ⊥
no_fault (Ok x) e = cc
no_fault (Err session_error.IsWaiting) e = cc
no_fault (Err session_error.InTransaction) e = cc
no_fault (Err session_error.NoTransaction) e = cc
no_fault (Err session_error.TxLimit) e = cc
no_fault (Err session_error.CommitLimit) e = cc
no_fault (Err session_error.NoMemory) e = cc

never_halted : {T : Type 0} (r : Result T SessionError) → NeverHalted (as_ended r)
never_halted (Ok x) = tt
never_halted (Err session_error.IsWaiting) = refl
never_halted (Err session_error.InTransaction) = refl
never_halted (Err session_error.NoTransaction) = refl
never_halted (Err session_error.TxLimit) = refl
never_halted (Err session_error.CommitLimit) = refl
never_halted (Err session_error.NoMemory) = refl

module _ {C B : Type 0} (unchanged : B → B → Type 0) (first v w : CoreView C B) (drains : Vec Drain Global) (desk : IsDesk unchanged v first drains) (s : ℕ) where
  abbrev L : Book C → List (Entry C B)
  L b = list_of first b drains.items

  told : {T : Type 0} (f : Book C → T) → f v.book ≡ f (book_of (L v.book))
  told f = ap f (sym (list_book first v.book drains.items desk.rise))

  one : (n : Noted C) → w.book ≡ v.book ++ n ∷ [] → L w.book ≡ with_noted (L v.book) n
  one n e = list_one first v.book drains.items desk.rise w.book n e

  same : w.book ≡ v.book → L w.book ≡ L v.book
  same e = ap L e

  pub begun : (r : Result ℕ SessionError) → IfOk r (λ x. w ≡ with_entry v (entry s event.Begin (said.Number x))) → IfOk r (λ x. x ≡ begins_of v.book s + 1) → OnErr r (w ≡ v)
      → core.shown_refusal r ≡ refused_begin (v.number + begins v.book) v.limit (live_in v.book s) → HasBegun (L v.book) s (as_ended r) (L w.book)
  begun r ok ordinal err why = record {
    ok = ended_ok _ r (ok_map _ _ r (λ x is. one (entry s event.Begin (said.Number x)) (ap (λ (y : CoreView C B). y.book) is)) ok);
    ordinal = ended_ok _ r (ok_map _ _ r (λ x is. is ∙ told (λ b. begins_of b s + 1)) ordinal);
    err = ended_err _ r (err_map _ _ r (λ is. same (ap (λ (y : CoreView C B). y.book) is)) err);
    refused = shown_same r ∙ why ∙ (λ i. refused_begin (desk.number i + told begins i) (desk.limit i) (told (λ b. live_in b s) i));
    fault = no_fault r;
    unhalted = never_halted r;
  }

  above : (count : B → ℕ) (f : ℕ) (n : Noted C) → fault_in n.event ≡ Some f → w.book ≡ v.book ++ n ∷ [] → w.opening ≡ v.opening → FaultsRise (Some (count w.opening)) w.book
      → IsAbove (last_fault (Some (count first.opening)) (book_of (L v.book))) (Some f)
  above count f n is book opening rise =
      let more : FaultsRise (Some (count first.opening)) (v.book ++ n ∷ []) = subst (λ (x : B × Book C). FaultsRise (Some (count x.0)) x.1) (λ i. ((opening ∙ desk.opening) i, book i)) rise in
      let rest = (faults_rest (Some (count first.opening)) v.book (n ∷ []) more).0 in
      subst (λ (x : Option ℕ × Option ℕ). IsAbove x.0 x.1) (λ i. (told (last_fault (Some (count first.opening))) i, is i)) rest

  left : (count : B → ℕ) (c : C) (e : CallError) → IsLeftBy count v s c e w → FaultsRise (Some (count w.opening)) w.book → IsLeft count (L v.book) s c (as_error e) (L w.book)
  left count c (call_error.Session why) is rise = same (ap (λ (y : CoreView C B). y.book) is)
  left count c call_error.NoMemory (inl is) rise = inl (same (ap (λ (y : CoreView C B). y.book) is))
  left count c call_error.NoMemory (inr (k, some, is)) rise = inr (k, some, one (entry s (event.Fail (Some c) k None) said.Nothing) (ap (λ (y : CoreView C B). y.book) is))
  left count c call_error.DiskFault (k, is) rise =
      let n = entry s (event.Fail (Some c) k (Some (count w.base))) said.Nothing in
      let book : w.book ≡ v.book ++ n ∷ [] = ap (λ (y : CoreView C B). y.book) is in
      (k, count w.base, one n book, above count (count w.base) n refl book (ap (λ (y : CoreView C B). y.opening) is) rise)

  pub tried : (count : B → ℕ) (c : C) (r : Result Answer CallError) → IfOk r (λ a. w ≡ over (with_entry v (entry s (event.Call c) (said.Call a))) w.base) → IfErr r (λ e. IsLeftBy count v s c e w)
      → core.shown_call_refusal r ≡ refused_call (live_in v.book s) → FaultsRise (Some (count w.opening)) w.book → HasTried count (L v.book) s c (as_called r) (L w.book)
  tried count c (Ok a) ok err why rise = record { ok = one (entry s (event.Call c) (said.Call a)) (ap (λ (y : CoreView C B). y.book) ok); err = tt; refused = why ∙ told (λ b. refused_call (live_in b s)) }
  tried count c (Err (call_error.Session e)) ok err why rise = record { ok = tt; err = left count c (call_error.Session e) err rise; refused = why ∙ told (λ b. refused_call (live_in b s)) }
  tried count c (Err call_error.DiskFault) ok err why rise = record { ok = tt; err = left count c call_error.DiskFault err rise; refused = why ∙ told (λ b. refused_call (live_in b s)) }
  tried count c (Err call_error.NoMemory) ok err why rise = record { ok = tt; err = left count c call_error.NoMemory err rise; refused = why ∙ told (λ b. refused_call (live_in b s)) }

  shown_error : (r : Result (Unit {0}) SessionError) → (r ≡ Err session_error.NoMemory → ⊥) → IfErr (as_ended r) (λ e. (why : SessionError) × (e ≡ store_error.Session why))
  shown_error (Ok x) other = tt
  shown_error (Err session_error.IsWaiting) other = (session_error.IsWaiting, refl)
  shown_error (Err session_error.InTransaction) other = (session_error.InTransaction, refl)
  shown_error (Err session_error.NoTransaction) other = (session_error.NoTransaction, refl)
  shown_error (Err session_error.TxLimit) other = (session_error.TxLimit, refl)
  shown_error (Err session_error.CommitLimit) other = (session_error.CommitLimit, refl)
  shown_error (Err session_error.NoMemory) other = absurd (other refl)

  pub aborted : (r : Result (Unit {0}) SessionError) → IfOk r (λ x. w ≡ with_entry v (entry s event.Abort said.Nothing)) → OnErr r (w ≡ v)
      → core.shown_refusal r ≡ refused_abort (live_in v.book s) → (r ≡ Err session_error.NoMemory → ⊥) → HasAborted (L v.book) s (as_ended r) (L w.book)
  aborted r ok err why other = record {
    ok = ended_ok _ r (ok_map _ _ r (λ x is. one (entry s event.Abort said.Nothing) (ap (λ (y : CoreView C B). y.book) is)) ok);
    err = ended_err _ r (err_map _ _ r (λ is. same (ap (λ (y : CoreView C B). y.book) is)) err);
    refused = shown_same r ∙ why ∙ told (λ b. refused_abort (live_in b s));
    shown = shown_error r other;
  }

  -- ---- retries

  given_up : (count : B → ℕ) (e : CallError) → core.refusal_in e ≡ None → IsGivenUpBy count v s e w → FaultsRise (Some (count w.opening)) w.book → IsGivenUp count (L v.book) s (as_error e) (L w.book)
  given_up count (call_error.Session why) none is rise = cc
  given_up count call_error.NoMemory none (k, is) rise = (k, one (entry s (event.Fail None k None) said.Nothing) (ap (λ (y : CoreView C B). y.book) is))
  given_up count call_error.DiskFault none (k, is) rise =
      let n = entry s (event.Fail None k (Some (count w.base))) said.Nothing in
      let book : w.book ≡ v.book ++ n ∷ [] = ap (λ (y : CoreView C B). y.book) is in
      (k, count w.base, one n book, above count (count w.base) n refl book (ap (λ (y : CoreView C B). y.opening) is) rise)

  retried : (m : CallMeaning C) (told_map : B → Option Entries) (a : Answer) → HasRetried m told_map v s a w → IsAnsweredAgain told_map m (L v.book) s a (L w.book)
  retried m told_map a is = record { noted = is.noted; may_be = is.may_be; list = go is.noted is.view; step = λ t opens. steps is.noted is.step t opens }
    where
      go : (noted : Bool) → w ≡ over (core_retry v s a noted) w.base → L w.book ≡ with_retry (L v.book) s a noted
      go true is = one (entry s event.Retry (said.Call a)) (ap (λ (y : CoreView C B). y.book) is)
      go false is = same (ap (λ (y : CoreView C B). y.book) is)

      steps : (noted : Bool) → ((t : Tree) → StandsFor (told_map v.opening) t → IsRetried m (state_from m t v) s a noted) → (t : Tree) → StandsFor (told_map first.opening) t → IsRetried m (state_in m t (L v.book)) s a noted
      steps noted step t opens =
          subst (λ (x : (ℕ × ℕ) × Book C). IsRetried m (last m (start t x.0.0 x.0.1) x.1) s a noted) (λ i. ((desk.number i, desk.limit i), told (λ b. b) i)) (step t (subst (λ o. StandsFor (told_map o) t) (sym desk.opening) opens))

  pub tried_again : (count : B → ℕ) (m : CallMeaning C) (told_map : B → Option Entries) (r : Result Answer CallError) → waits_in (live_in v.book s) ≡ true → IfOk r (λ a. HasRetried m told_map v s a w) → IfErr r (λ e. IsGivenUpBy count v s e w)
      → core.shown_call_refusal r ≡ None → FaultsRise (Some (count w.opening)) w.book → HasTriedAgain count told_map m (L v.book) s (as_again r) (L w.book)
  tried_again count m told_map (Ok a) waits ok err none rise = record { ok = (sym (told (λ b. waits_in (live_in b s))) ∙ waits, retried m told_map a ok); err = tt }
  tried_again count m told_map (Err e) waits ok err none rise = record { ok = tt; err = given_up count e none err rise }

  pub not_tried : (count : B → ℕ) (m : CallMeaning C) (told_map : B → Option Entries) → waits_in (live_in v.book s) ≡ false → HasTriedAgain count told_map m (L v.book) s (Ok None) (L v.book)
  not_tried count m told_map idle = record { ok = (sym (told (λ b. waits_in (live_in b s))) ∙ idle, refl); err = tt }

  pub keeps_retried : (m : CallMeaning C) (told_map : B → Option Entries) (count : B → ℕ) (r : Result Answer CallError) → IfOk r (λ a. HasRetried m told_map v s a w) → IfErr r (λ e. IsGivenUpBy count v s e w) → Keeps s v w
  keeps_retried m told_map count (Ok a) ok err = go ok.noted ok.view
    where
      go : (noted : Bool) → w ≡ over (core_retry v s a noted) w.base → Keeps s v w
      go true is = keeps_entry s v w (entry s event.Retry (said.Call a)) refl refl is
      go false is = keeps_all s v w is
  keeps_retried m told_map count (Err e) ok err = keeps_entry s v w (entry s (event.Fail None err.0 (count_told e (count w.base))) said.Nothing) refl refl err.1

  -- ---- commits

  shown_prepare : (e : SessionError) → commit_refusal_in (as_refusal e) ≡ core.shown_prepare_error e
  shown_prepare session_error.IsWaiting = refl
  shown_prepare session_error.InTransaction = refl
  shown_prepare session_error.NoTransaction = refl
  shown_prepare session_error.TxLimit = refl
  shown_prepare session_error.CommitLimit = refl
  shown_prepare session_error.NoMemory = refl

  is_limit : (e : SessionError) → as_refusal e ≡ store_error.Session session_error.CommitLimit → e ≡ session_error.CommitLimit
  is_limit session_error.IsWaiting is = cc
  is_limit session_error.InTransaction is = cc
  is_limit session_error.NoTransaction is = cc
  is_limit session_error.TxLimit is = cc
  is_limit session_error.CommitLimit is = refl
  is_limit session_error.NoMemory is = cc

  is_error : {T : Type 0} (a b : StoreError) → ◌≡◌ {A = Result T StoreError} (Err a) (Err b) → a ≡ b
  is_error a b e = cc

  -- nothing was committed
  pub uncommitted : (m : CallMeaning C) (told_map : B → Option Entries) (r : Result Prepared SessionError) (e : SessionError) → r ≡ Err e → OnErr r (w ≡ v) → core.shown_prepare_refusal r ≡ refused_call (live_in v.book s)
      → (r ≡ Err session_error.CommitLimit → (t : Tree) → StandsFor (told_map v.opening) t → IsPastLimitIn m (state_from m t v) s)
      → HasCommitted told_map m (L v.book) s (as_ended (Err e)) (L w.book)
  uncommitted m told_map r e is err why past = record {
    ok = tt;
    number = tt;
    err = same (ap (λ (y : CoreView C B). y.book) (subst (λ x. OnErr x (w ≡ v)) is err));
    refused = shown_prepare e ∙ (ap core.shown_prepare_refusal (sym is) ∙ why) ∙ told (λ b. refused_call (live_in b s));
    limit = λ at t opens.
        subst (λ (x : (ℕ × ℕ) × Book C). IsPastLimitIn m (last m (start t x.0.0 x.0.1) x.1) s) (λ i. ((desk.number i, desk.limit i), told (λ b. b) i))
        (past (is ∙ ap Err (is_limit e (is_error _ _ at))) t (subst (λ o. StandsFor (told_map o) t) (sym desk.opening) opens));
    fault = no_fault (Err e);
    unhalted = never_halted {T = ℕ} (Err e);
  }

  -- .. for want of memory
  pub unmade : (m : CallMeaning C) (told_map : B → Option Entries) → w.book ≡ v.book → None ≡ refused_call (live_in v.book s) → HasCommitted told_map m (L v.book) s (Err store_error.NoMemory) (L w.book)
  unmade m told_map book free = record {
    ok = tt;
    number = tt;
    err = same book;
    refused = free ∙ told (λ b. refused_call (live_in b s));
    limit = λ at. cc;
    fault = λ at. cc;
    unhalted = refl;
  }

  pub committed : (m : CallMeaning C) (told_map : B → Option Entries) (x : ℕ) → w.book ≡ v.book ++ entry s event.Commit (said.Number x) ∷ [] → x ≡ next_number v → None ≡ refused_call (live_in v.book s) → HasCommitted told_map m (L v.book) s (Ok x) (L w.book)
  committed m told_map x book next free = record {
    ok = one (entry s event.Commit (said.Number x)) book;
    number = next ∙ (λ i. desk.number i + told commits_in i + 1);
    err = tt;
    refused = free ∙ told (λ b. refused_call (live_in b s));
    limit = λ at. cc;
    fault = λ at. cc;
    unhalted = tt;
  }

-- who waits by the book is among those that wait
pub waits_among : {C : Type 0} (book : Book C) (s : ℕ) (waiting : List ℕ) → HasQueue book → waiting ≡ queue_after [] book → nat_lt 0 (times s waiting) ≡ waits_in (live_in book s)
waits_among book s waiting queue is = ap (λ (xs : List ℕ). nat_lt 0 (times s xs)) is ∙ ap (nat_lt 0) (queue s) ∙ go (waits_in (live_in book s))
  where
    go : (b : Bool) → nat_lt 0 (if b then 1 else 0) ≡ b
    go true = refl
    go false = refl

-- ---- the desk after a commit and after a drain

module _ {C B : Type 0} (unchanged : B → B → Type 0) (first v w : CoreView C B) (drains others : Vec Drain Global) (desk : IsDesk unchanged v first drains) where
  -- the core is as it was, but for what is prepared
  pub prepared_desk : (p : Option ℕ) → w ≡ record v { prepared = p } → others.items ≡ drains.items → vec_capacity drains ≤ vec_capacity others → IsDesk unchanged w first others
  prepared_desk p is items capacity = record {
    opening = ap (λ (x : CoreView C B). x.opening) is ∙ desk.opening;
    number = ap (λ (x : CoreView C B). x.number) is ∙ desk.number;
    limit = ap (λ (x : CoreView C B). x.limit) is ∙ desk.limit;
    base = subst (λ b. unchanged first.base b) (sym (ap (λ (x : CoreView C B). x.base) is)) desk.base;
    rise = subst (λ (x : Book C × List Drain). RiseTo 0 (length x.0) x.1) (λ i. (sym (ap (λ (x : CoreView C B). x.book) is) i, sym items i)) desk.rise;
    handed = ap (λ (x : CoreView C B). x.undrained.after) is ∙ desk.handed ∙ ap (last_drained first.undrained.after) (sym items);
    fit = subst SessionsFit (sym (ap (λ (x : CoreView C B). x.book) is)) desk.fit;
    room = λ waits. omega (arith, ap length items, capacity, desk.room (subst (λ (x : CoreView C B). x.undrained.after < x.number + commits_in x.book) is waits));
  }

  -- a commit, with room for the drain that hands it out
  pub commit_desk : (s : ℕ) → s < 65 → Steps s v w → w.base ≡ v.base → w.undrained.after ≡ v.undrained.after → others.items ≡ drains.items → length others.items < vec_capacity others → IsDesk unchanged w first others
  commit_desk s small steps base after items room =
      let longer : length w.book ≡ length v.book + length steps.added = ap length steps.book ∙ length-append v.book steps.added in
      record {
        opening = steps.opening ∙ desk.opening;
        number = steps.number ∙ desk.number;
        limit = steps.limit ∙ desk.limit;
        base = subst (λ b. unchanged first.base b) (sym base) desk.base;
        rise = subst (RiseTo 0 (length w.book)) (sym items) (rise_more 0 (length v.book) (length w.book) drains.items (omega (arith, longer)) desk.rise);
        handed = after ∙ desk.handed ∙ ap (last_drained first.undrained.after) (sym items);
        fit = subst SessionsFit (sym steps.book) (fit_more s v.book steps.added small desk.fit steps.own);
        room = λ waits. room;
      }

  -- all were handed out, and it is noted
  pub drained_desk : (d : Drain) → w ≡ drained v → others.items ≡ drains.items ++ d ∷ [] → d.at ≡ length v.book → d.number ≡ w.undrained.after → IsDesk unchanged w first others
  drained_desk d is items at number =
      let book = ap (λ (x : CoreView C B). x.book) is in
      record {
        opening = ap (λ (x : CoreView C B). x.opening) is ∙ desk.opening;
        number = ap (λ (x : CoreView C B). x.number) is ∙ desk.number;
        limit = ap (λ (x : CoreView C B). x.limit) is ∙ desk.limit;
        base = subst (λ b. unchanged first.base b) (sym (ap (λ (x : CoreView C B). x.base) is)) desk.base;
        rise = subst (λ (x : Book C × List Drain). RiseTo 0 (length x.0) x.1) (λ i. (sym book i, sym items i)) (rise_snoc 0 (length v.book) drains.items d at desk.rise);
        handed = sym (ap (last_drained first.undrained.after) items ∙ last_snoc first.undrained.after drains.items d ∙ number);
        fit = subst SessionsFit (sym book) desk.fit;
        room = λ waits. absurd (none_left (subst (λ (x : CoreView C B). x.undrained.after < x.number + commits_in x.book) is waits));
      }
    where
      none_left : v.number + commits_in v.book < v.number + commits_in v.book → ⊥
      none_left less = omega (arith, less)

  -- none were left
  pub still_desk : w ≡ drained v → others.items ≡ drains.items → v.number + commits_in v.book ≡ v.undrained.after → IsDesk unchanged w first others
  still_desk is items last =
      let book = ap (λ (x : CoreView C B). x.book) is in
      record {
        opening = ap (λ (x : CoreView C B). x.opening) is ∙ desk.opening;
        number = ap (λ (x : CoreView C B). x.number) is ∙ desk.number;
        limit = ap (λ (x : CoreView C B). x.limit) is ∙ desk.limit;
        base = subst (λ b. unchanged first.base b) (sym (ap (λ (x : CoreView C B). x.base) is)) desk.base;
        rise = subst (λ (x : Book C × List Drain). RiseTo 0 (length x.0) x.1) (λ i. (sym book i, sym items i)) desk.rise;
        handed = ap (λ (x : CoreView C B). x.undrained.after) is ∙ last ∙ desk.handed ∙ ap (last_drained first.undrained.after) (sym items);
        fit = subst SessionsFit (sym book) desk.fit;
        room = λ waits. absurd (none_left (subst (λ (x : CoreView C B). x.undrained.after < x.number + commits_in x.book) is waits));
      }
    where
      none_left : v.number + commits_in v.book < v.number + commits_in v.book → ⊥
      none_left less = omega (arith, less)

  from_old : drained_in (list_of first v.book drains.items) ≡ v.undrained.after
  from_old = list_last first v.book drains.items desk.rise ∙ sym desk.handed

  to_now : v.number + commits_in v.book ≡ first.number + commits_in (book_of (list_of first v.book drains.items))
  to_now = λ i. desk.number i + commits_in (sym (list_book first v.book drains.items desk.rise) i)

  abbrev Old : List (Entry C B)
  Old = list_of first v.book drains.items

  handed_out : (bodies : List Pending) (after : List (Entry C B)) → FollowOn v.undrained.after bodies → v.undrained.after + length bodies ≡ v.number + commits_in v.book
      → (((bodies ≡ []) × (after ≡ Old)) ⊎ ((bodies ≢ []) × (after ≡ Old ++ kind.Drained (first.number + commits_in (book_of Old)) ∷ []))) → HasDrained Old bodies after
  handed_out bodies after follow all list = record {
    follow = subst (λ (k : ℕ). FollowOn k bodies) (sym from_old) follow;
    all = (λ i. from_old i + length bodies) ∙ all ∙ to_now;
    list = list;
  }

  pub some_drained : (bodies : List Pending) (d : Drain) → FollowOn v.undrained.after bodies → v.undrained.after + length bodies ≡ v.number + commits_in v.book → w.book ≡ v.book → others.items ≡ drains.items ++ d ∷ [] → d.at ≡ length v.book
      → d.number ≡ v.number + commits_in v.book → bodies ≢ [] → HasDrained Old bodies (list_of first w.book others.items) × AddsUnder 0 Old (list_of first w.book others.items)
  some_drained bodies d follow all book items at number some =
      let list : list_of first w.book others.items ≡ Old ++ kind.Drained (first.number + commits_in (book_of Old)) ∷ [] =
      (λ i. list_of first (book i) (items i)) ∙ list_drained first v.book drains.items desk.rise d at ∙ ap (λ (k : ℕ). Old ++ kind.Drained k ∷ []) (number ∙ to_now) in
      (handed_out bodies (list_of first w.book others.items) follow all (inr (some, list)), (kind.Drained (first.number + commits_in (book_of Old)) ∷ [], list, (refl, tt)))

  pub none_drained : (bodies : List Pending) → FollowOn v.undrained.after bodies → v.undrained.after + length bodies ≡ v.number + commits_in v.book → w.book ≡ v.book → others.items ≡ drains.items → bodies ≡ []
      → HasDrained Old bodies (list_of first w.book others.items) × AddsUnder 0 Old (list_of first w.book others.items)
  none_drained bodies follow all book items none =
      let list : list_of first w.book others.items ≡ Old = λ i. list_of first (book i) (items i) in
      (handed_out bodies (list_of first w.book others.items) follow all (inl (none, list)), ([], list ∙ sym (append-nil Old), tt))

pub commits_one : {C B : Type 0} (s x : ℕ) (v p w : CoreView C B) (made : Pending) → p ≡ record v { prepared = Some s } → w ≡ with_committed (with_pending (with_entry p (entry s event.Commit (said.Number x))) made) w.committed
    → Steps s v w × (w.base ≡ v.base) × (w.undrained.after ≡ v.undrained.after) × (w.book ≡ v.book ++ entry s event.Commit (said.Number x) ∷ []) × (w.undrained.waiting ≡ v.undrained.waiting ++ made ∷ [])
commits_one {C = C} {B = B} s x v p w made ready is =
    let all = is ∙ ap (λ (y : CoreView C B). with_committed (with_pending (with_entry y (entry s event.Commit (said.Number x))) made) w.committed) ready in (
      record {
        added = entry s event.Commit (said.Number x) ∷ [];
        book = ap (λ (y : CoreView C B). y.book) all;
        own = (refl, tt);
        opening = ap (λ (y : CoreView C B). y.opening) all;
        number = ap (λ (y : CoreView C B). y.number) all;
        limit = ap (λ (y : CoreView C B). y.limit) all;
      },
      ap (λ (y : CoreView C B). y.base) all,
      ap (λ (y : CoreView C B). y.undrained.after) all,
      ap (λ (y : CoreView C B). y.book) all,
      ap (λ (y : CoreView C B). y.undrained.waiting) all,
    )

-- where bodies are handed out there was room for the drain
pub room_left : {C B : Type 0} (unchanged : B → B → Type 0) (first v : CoreView C B) (drains : Vec Drain Global) → IsDesk unchanged v first drains → (bodies : List Pending) → v.undrained.after + length bodies ≡ v.number + commits_in v.book → (bodies ≡ [] → ⊥)
    → length drains.items < vec_capacity drains
room_left unchanged first v drains desk [] all some = absurd (some refl)
room_left unchanged first v drains desk (p ∷ ps) all some = desk.room (omega (arith, all))

pub none_last : {C B : Type 0} (v : CoreView C B) (bodies : List Pending) → v.undrained.after + length bodies ≡ v.number + commits_in v.book → bodies ≡ [] → v.number + commits_in v.book ≡ v.undrained.after
none_last v bodies all none = omega (arith, all, ap length none)

-- a desk that was just made
pub new_desk : {C B : Type 0} (unchanged : B → B → Type 0) → ((b : B) → unchanged b b) → (first core : CoreView C B) (drains : Vec Drain Global) → first ≡ core → drains.items ≡ [] → length drains.items < vec_capacity drains → SessionsFit core.book → IsDesk unchanged core first drains
new_desk {C = C} {B = B} unchanged itself first core drains same none room fit = record {
  opening = ap (λ (x : CoreView C B). x.opening) (sym same);
  number = ap (λ (x : CoreView C B). x.number) (sym same);
  limit = ap (λ (x : CoreView C B). x.limit) (sym same);
  base = subst (λ b. unchanged b core.base) (sym (ap (λ (x : CoreView C B). x.base) same)) (itself core.base);
  rise = subst (RiseTo 0 (length core.book)) (sym none) (omega arith);
  handed = ap (λ (x : CoreView C B). x.undrained.after) (sym same) ∙ ap (last_drained first.undrained.after) (sym none);
  fit = fit;
  room = λ waits. room;
}
