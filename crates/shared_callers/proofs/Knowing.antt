-- What is known of a call goes on in each later list.
use Rattle.std.proofs.Common.{◌≡◌, ◌≢◌, ℕ, Bool, true, false, List, [], ◌∷◌, ◌++◌, ◌<◌, refl, sym, ap, subst, ◌∙◌, lit<, true≢false}
use Rattle.std.specs.Prelude.{Option, None, Some, Result, Ok, Err, IfOk, IfSome, slice_set}
use Rattle.tree_model.specs.Tree.{Tree}
use Rattle.tree_model.specs.declared.reply.Reply.{Reply}
use Rattle.node_seq.specs.Trees.{StandsFor}
use Rattle.std.specs.Result.{is_ok, result_ok}
use Rattle.tree_model.specs.Entries.{Entries}
use Rattle.call_contract.specs.Calls.{CallMeaning}
use Rattle.std.proofs.lemmas.List.{append_assoc, append-nil}
use mathlib.Core.Logic.{dite}
use native.Mathlib.Decide.{ℕ_discrete}
use Rattle.call_contract.specs.Books.{Book, commit_of, commits, entry}
use Rattle.call_contract.specs.Sessions.{live_after, live_in}
use Rattle.call_contract.specs.SerialRuns.{all_given, Committed, serial}
use Rattle.call_contract.specs.States.{given, Live, replies, view}
use Rattle.call_contract.proofs.Lists.{found_named}
use Rattle.tx_core.specs.Refusals.{refused_call}
use Rattle.call_contract.specs.declared.events.Event.TheVariants as event
use Rattle.call_contract.specs.declared.events.EventAnswer.TheVariants as said
use Rattle.call_contract.specs.declared.events.Noted.{Noted}
use Rattle.turn_lock.specs.Turns.{all_numbers, GoesOn, has_number, HasAll, merged, only_number}
use Rattle.turn_lock.proofs.Numbers.{all_there, merged_at, or_left, or_right, still_there, there_alone}
use Rattle.shared_store.specs.Calls.{HasAborted, HasBegun, HasCommitted, shown_commit_refusal, with_noted}
use Rattle.shared_store.specs.Lists.{book_of, HasSerialBook, is_opened, number_of, opening_in, OpensFrom}
use Rattle.shared_store.specs.Sessions.{HasDone, having_seen, SessionView}
use Rattle.shared_store.specs.Waits.{answer_of, EndsWith, HasCalled}
use Rattle.shared_store.specs.declared.errors.StoreError.{StoreError}
use Rattle.shared_store.specs.declared.desk.Entry.{Entry}
use Rattle.shared_store.specs.declared.desk.Entry.TheVariants as kind
use Rattle.shared_store.specs.declared.ended.Ended.{Ended}
use Rattle.shared_store.proofs.Bodies.{commits_on}
use Rattle.shared_store.proofs.Done.{book_append}
use Rattle.shared_store.proofs.Waiting.{as_it_was, grown_on}
use Rattle.shared_callers.specs.Known.{BeginsWith, Has, HasRead, IsAfter, IsKnown, IsMade, KnowsBoth}

module _ {C : Type 0} where
  has_on : (xs ys : Book C) (n : Noted C) → Has xs n → Has (xs ++ ys) n
  has_on xs ys n h = (h.0, h.1 ++ ys, ap (λ b. b ++ ys) h.2 ∙ append_assoc h.0 (n ∷ h.1) ys)

  made_on : (s : ℕ) (call : C) (e : Ended) (xs ys : Book C) → IsMade s call e xs → IsMade s call e (xs ++ ys)
  made_on s call e xs ys m = record { attempt = m.attempt; of_call = m.of_call; answered = has_on xs ys _ m.answered; number = m.number; committed = has_on xs ys _ m.committed }

module _ {C B : Type 0} where
  pub made_goes_on : (s : ℕ) (call : C) (e : Ended) (has : List Bool) (seen list : List (Entry C B)) → GoesOn number_of has seen list → IsMade s call e (book_of seen) → IsMade s call e (book_of list)
  made_goes_on s call e has seen list g m = subst (IsMade s call e) (sym (ap book_of g.1 ∙ book_append seen g.0)) (made_on s call e (book_of seen) (book_of g.0) m)

  pub known_goes_on : (s : ℕ) (call : C) (o : Bool) (has : List Bool) (seen list : List (Entry C B)) → GoesOn number_of has seen list → (o ≡ true → IsKnown s call (book_of seen)) → o ≡ true → IsKnown s call (book_of list)
  known_goes_on s call o has seen list g m is = let k = m is in (k.0, made_goes_on s call k.0 has seen list g k.1)

  -- the call's answer is the last entry, and then the session commits
  pub made_and_committed : (s : ℕ) (call : C) (e : Ended) (has : List Bool) (seen before after : List (Entry C B)) (number : ℕ) → EndsWith s call (answer_of e) seen → GoesOn number_of has seen before
      → after ≡ with_noted before (entry s event.Commit (said.Number number)) → IsMade s call e (book_of after)
  made_and_committed s call e has seen before after number ends g is =
      let attempt = entry s ends.attempt (said.Call (answer_of e)) in
      let commit = entry s event.Commit (said.Number number) in
      let first : book_of seen ≡ book_of ends.front ++ attempt ∷ [] = ap book_of ends.list ∙ book_append ends.front (kind.Noted attempt ∷ []) in
      let found : book_of before ≡ book_of seen ++ book_of g.0 = ap book_of g.1 ∙ book_append seen g.0 in
      let all : book_of after ≡ book_of before ++ commit ∷ [] = ap book_of is ∙ book_append before (kind.Noted commit ∷ []) in
      record {
        attempt = ends.attempt;
        of_call = ends.of_call;
        answered = subst (λ b. Has b attempt) (sym all) (has_on (book_of before) (commit ∷ []) attempt (subst (λ b. Has b attempt) (sym found) (has_on (book_of seen) (book_of g.0) attempt (book_of ends.front, [], first))));
        number = number;
        committed = (book_of before, [], all);
      }

module _ {C B : Type 0} (count : B → ℕ) (told : B → Option Entries) (m : CallMeaning C) where
  -- what is known after a call and a commit
  pub made_by : (p s1 s2 s3 : SessionView C B) (call : C) (r : Result Ended StoreError) (e : Ended) (k : Result ℕ StoreError) (number : ℕ) → r ≡ Ok e → k ≡ Ok number → s1 ≡ having_seen s1.seen p
      → HasDone s1 s2 (λ before after. HasCalled count told m s1.has before s1.under call r after) → HasDone s2 s3 (λ before after. HasCommitted told m before s2.under k after) → IsMade p.under call e (book_of s3.seen)
  made_by p s1 s2 s3 call r e k number rok kok same h2 h3 =
      let u1 : s1.under ≡ p.under = ap (λ (v : SessionView C B). v.under) same in
      let u2 : s2.under ≡ p.under = ap (λ (v : SessionView C B). v.under) h2.same ∙ u1 in
      let ends : EndsWith p.under call (answer_of e) s2.seen = subst (λ (u : ℕ). EndsWith u call (answer_of e) s2.seen) u1 (subst (λ o. IfOk o (λ x. EndsWith s1.under call (answer_of x) s2.seen)) rok h2.did.answered) in
      let is : s3.seen ≡ with_noted h3.before (entry p.under event.Commit (said.Number number)) =
      subst (λ (u : ℕ). s3.seen ≡ with_noted h3.before (entry u event.Commit (said.Number number))) u2 (subst (λ o. IfOk o (λ n. s3.seen ≡ with_noted h3.before (entry s2.under event.Commit (said.Number n)))) kok h3.did.ok) in
      made_and_committed p.under call e s2.has s2.seen h3.before s3.seen number ends h3.goes_on is

module _ {C B : Type 0} where
  aborted_grown : (before after : List (Entry C B)) (s : ℕ) (r : Result (Unit {0}) StoreError) → HasAborted before s r after → (added : List (Entry C B)) × (after ≡ before ++ added)
  aborted_grown before after s (Ok x) h = (_, h.ok)
  aborted_grown before after s (Err e) h = ([], h.err ∙ sym (append-nil before))

  ok_goes_on : (s : ℕ) (call : C) (r : Result Ended StoreError) (has : List Bool) (seen before after : List (Entry C B)) → GoesOn number_of has seen before → (added : List (Entry C B)) → after ≡ before ++ added
      → IfOk r (λ e. IsMade s call e (book_of seen)) → is_ok r ≡ true → IsKnown s call (book_of after)
  ok_goes_on s call (Err why) has seen before after g added is m made = absurd (true≢false (sym made))
  ok_goes_on s call (Ok e) has seen before after g added is m made = (
    e,
    subst (IsMade s call e) (sym (ap book_of is ∙ book_append before added)) (made_on s call e (book_of before) (book_of added) (made_goes_on s call e has seen before g m)),
  )

  -- what is known of a call once the session has no transaction
  pub after_by : (p q z : SessionView C B) (call : C) (r : Result Ended StoreError) (o : Bool) (given : Result (Unit {0}) StoreError) → o ≡ is_ok r → q ≡ having_seen q.seen p → IfOk r (λ e. IsMade p.under call e (book_of q.seen))
      → HasDone q z (λ before after. HasAborted before q.under given after) → live_in (book_of z.seen) z.under ≡ None → IsAfter p call z o
  after_by p q z call r o given is same made h ended =
      let grown = aborted_grown h.before z.seen q.under given h.did in
      record {
        same = h.same ∙ ap (having_seen z.seen) same;
        made = λ answered. ok_goes_on p.under call r q.has q.seen h.before z.seen h.goes_on grown.0 grown.1 made (sym is ∙ answered);
        ended = ended;
      }

-- ---- what was seen goes on

module _ {C B : Type 0} where
  book_begins : (xs ys : List (Entry C B)) → BeginsWith xs ys → BeginsWith (book_of xs) (book_of ys)
  book_begins xs ys b = (book_of b.0, ap book_of b.1 ∙ book_append xs b.0)

  grown_by : (p q : SessionView C B) (does : List (Entry C B) → List (Entry C B) → Type 0) (h : HasDone p q does) → BeginsWith h.before q.seen → BeginsWith p.seen q.seen
  grown_by p q does h g = grown_on p.seen h.before q.seen (h.goes_on.0, h.goes_on.1) g

  begun_grown : (before after : List (Entry C B)) (s : ℕ) (r : Result ℕ StoreError) → HasBegun before s r after → BeginsWith before after
  begun_grown before after s (Ok x) h = (_, h.ok)
  begun_grown before after s (Err e) h = as_it_was before after h.err

  pub after_begin : (p q : SessionView C B) (r : Result ℕ StoreError) → HasDone p q (λ before after. HasBegun before p.under r after) → BeginsWith p.seen q.seen
  after_begin p q r h = grown_by p q _ h (begun_grown h.before q.seen p.under r h.did)

  module _ (told : B → Option Entries) (m : CallMeaning C) where
    pub after_call : (count : B → ℕ) (p q : SessionView C B) (call : C) (r : Result Ended StoreError) → HasDone p q (λ before after. HasCalled count told m p.has before p.under call r after) → BeginsWith p.seen q.seen
    after_call count p q call r h = grown_by p q _ h h.did.grown

    committed_grown : (before after : List (Entry C B)) (s : ℕ) (r : Result ℕ StoreError) → HasCommitted told m before s r after → BeginsWith before after
    committed_grown before after s (Ok x) h = (_, h.ok)
    committed_grown before after s (Err e) h = as_it_was before after h.err

    pub after_commit : (p q : SessionView C B) (r : Result ℕ StoreError) → HasDone p q (λ before after. HasCommitted told m before p.under r after) → BeginsWith p.seen q.seen
    after_commit p q r h = grown_by p q _ h (committed_grown h.before q.seen p.under r h.did)

  opening_on : (xs ys : List (Entry C B)) → is_opened xs ≡ true → BeginsWith xs ys → opening_in xs ≡ opening_in ys
  opening_on [] ys is b = cc
  opening_on (kind.Noted n ∷ xs) ys is b = cc
  opening_on (kind.Drained k ∷ xs) ys is b = cc
  opening_on (kind.Opening o n l base d ∷ xs) ys is b = sym (ap opening_in b.1)

-- ---- what a transaction was answered

module _ {C : Type 0} (m : CallMeaning C) where
  head_of : List (List Reply) → List Reply
  head_of [] = []
  head_of (x ∷ xs) = x

  tail_of : List (List Reply) → List (List Reply)
  tail_of [] = []
  tail_of (x ∷ xs) = xs

  -- the last one of a serial run was answered on the tree that the others make
  last_answered : (ds : List (Committed C)) (own : Committed C) (t : Tree) → (serial m (ds ++ own ∷ []) t).replies ≡ all_given (ds ++ own ∷ []) → replies m own.calls (serial m ds t).tree ≡ given own.calls
  unfolding head_of tail_of
  last_answered [] own t is = ap head_of is
  last_answered (d ∷ ds) own t is = last_answered ds own (view m d.calls t) (ap tail_of is)

  -- a session that may commit has a transaction
  has_one : (o : Option (Live C)) → None ≡ refused_call o → (t : Live C) × (o ≡ Some t)
  has_one None is = cc
  has_one (Some t) is = (t, refl)

  record Commits (before : Book C) (s number : ℕ) : Type 0 where
    pub own : Committed C
    pub list : commits (before ++ entry s event.Commit (said.Number number) ∷ []) ≡ commits before ++ own ∷ []
    pub session : own.session ≡ s

  commits_own : (before : Book C) (s number : ℕ) → None ≡ refused_call (live_in before s) → Commits before s number
  commits_own before s number free =
      let found = has_one (live_in before s) free in
      let t = found.0 in
      record {
        own = record { session = t.session; ordinal = t.ordinal; calls = t.calls };
        list = commits_on [] before (entry s event.Commit (said.Number number) ∷ []) ∙ ap (λ (o : Option (Live C)). commits before ++ (commit_of o event.Commit ++ [])) found.1;
        session = found_named s (live_after [] before) t found.1;
      }

module _ {C B : Type 0} (count : B → ℕ) (told : B → Option Entries) (m : CallMeaning C) where
  -- what was read in a transaction of one call
  pub read_by : (p s1 s2 s3 : SessionView C B) (call : C) (r : Result Ended StoreError) (e : Ended) (k : Result ℕ StoreError) (number : ℕ) → r ≡ Ok e → k ≡ Ok number → s1 ≡ having_seen s1.seen p → BeginsWith p.seen s1.seen
      → HasDone s1 s2 (λ before after. HasCalled count told m s1.has before s1.under call r after) → HasDone s2 s3 (λ before after. HasCommitted told m before s2.under k after) → HasSerialBook m told s3.seen
      → HasRead m (OpensFrom told s3.seen) (BeginsWith (book_of p.seen)) p.under call e (book_of s3.seen)
  read_by p s1 s2 s3 call r e k number rok kok same begun h2 h3 is_serial =
      let u1 : s1.under ≡ p.under = ap (λ (v : SessionView C B). v.under) same in
      let u2 : s2.under ≡ p.under = ap (λ (v : SessionView C B). v.under) h2.same ∙ u1 in
      let ends : EndsWith p.under call (answer_of e) s2.seen = subst (λ (u : ℕ). EndsWith u call (answer_of e) s2.seen) u1 (subst (λ o. IfOk o (λ x. EndsWith s1.under call (answer_of x) s2.seen)) rok h2.did.answered) in
      let is : s3.seen ≡ with_noted h3.before (entry p.under event.Commit (said.Number number)) =
      subst (λ (u : ℕ). s3.seen ≡ with_noted h3.before (entry u event.Commit (said.Number number))) u2 (subst (λ o. IfOk o (λ n. s3.seen ≡ with_noted h3.before (entry s2.under event.Commit (said.Number n)))) kok h3.did.ok) in
      let free : None ≡ refused_call (live_in (book_of h3.before) p.under) = subst (λ (u : ℕ). None ≡ refused_call (live_in (book_of h3.before) u)) u2 (subst (λ o. shown_commit_refusal o ≡ refused_call (live_in (book_of h3.before) s2.under)) kok h3.did.refused) in
      let before = book_of h3.before in
      let commit = entry p.under event.Commit (said.Number number) in
      let made = commits_own m before p.under number free in
      let all : book_of s3.seen ≡ before ++ commit ∷ [] = ap book_of is ∙ book_append h3.before (kind.Noted commit ∷ []) in
      let attempt = entry p.under ends.attempt (said.Call (answer_of e)) in
      let first : book_of s2.seen ≡ book_of ends.front ++ attempt ∷ [] = ap book_of ends.list ∙ book_append ends.front (kind.Noted attempt ∷ []) in
      let found : before ≡ book_of s2.seen ++ book_of h3.goes_on.0 = ap book_of h3.goes_on.1 ∙ book_append s2.seen h3.goes_on.0 in
      let seen = grown_on p.seen s2.seen h3.before (grown_on p.seen s1.seen s2.seen begun (after_call told m count s1 s2 call r h2)) (h3.goes_on.0, h3.goes_on.1) in
      let own : commits (book_of s3.seen) ≡ commits before ++ made.own ∷ [] = ap commits all ∙ made.list in
      record {
        before = before;
        rest = [];
        number = number;
        parts = all;
        known = book_begins p.seen h3.before seen;
        attempt = ends.attempt;
        of_call = ends.of_call;
        read = subst (λ b. Has b attempt) (sym found) (has_on (book_of s2.seen) (book_of h3.goes_on.0) attempt (book_of ends.front, [], first));
        own = made.own;
        commits_it = made.list;
        session = made.session;
        answered = λ t opens. last_answered m (commits before) made.own t (subst (λ (ds : List (Committed C)). (serial m ds t).replies ≡ all_given ds) own (is_serial t opens).replies);
      }

module _ {C : Type 0} where
  known_on : (s : ℕ) (call : C) (xs ys : Book C) → BeginsWith xs ys → IsKnown s call xs → IsKnown s call ys
  known_on s call xs ys b k = (k.0, subst (IsMade s call k.0) (sym b.1) (made_on s call k.0 xs b.0 k.1))

  pub both_on : (made_first : Bool) (first : C) (made_second : Bool) (second : C) (xs ys : Book C) → BeginsWith xs ys → KnowsBoth made_first first made_second second xs → KnowsBoth made_first first made_second second ys
  both_on made_first first made_second second xs ys b k = (λ is. known_on 1 first xs ys b (k.0 is), λ is. known_on 2 second xs ys b (k.1 is))

  -- it stays so where more comes behind it
  pub read_goes_on : (m : CallMeaning C) (began later : Tree → Type 0) (knows known : Book C → Type 0) (s : ℕ) (call : C) (e : Ended) (xs ys : Book C) → BeginsWith xs ys → ((t : Tree) → later t → began t) → ((b : Book C) → knows b → known b)
      → HasRead m began knows s call e xs → HasRead m later known s call e ys
  read_goes_on m began later knows known s call e xs ys b opens knowing h =
      record {
        before = h.before;
        rest = h.rest ++ b.0;
        number = h.number;
        parts = b.1 ∙ ap (λ (l : Book C). l ++ b.0) h.parts ∙ append_assoc h.before (entry s event.Commit (said.Number h.number) ∷ h.rest) b.0;
        known = knowing h.before h.known;
        attempt = h.attempt;
        of_call = h.of_call;
        read = h.read;
        own = h.own;
        commits_it = h.commits_it;
        session = h.session;
        answered = λ t is. h.answered t (opens t is);
      }

module _ {C B : Type 0} where
  -- what was opened as the core was is opened from the same trees
  pub opens_from : (told : B → Option Entries) (xs ys : List (Entry C B)) (o : B) → is_opened xs ≡ true → BeginsWith xs ys → opening_in ys ≡ Some o → (t : Tree) → StandsFor (told o) t → OpensFrom told xs t
  opens_from told xs ys o is b at t stands = subst (λ x. IfSome x (λ y. StandsFor (told y) t)) (sym (opening_on xs ys is b ∙ at)) stands

-- what is known of an answer is known where the answer is kept
pub kept_answer : (r : Result Ended StoreError) (o : Option Ended) (P Q : Ended → Type 0) → o ≡ result_ok r → ((e : Ended) → P e → Q e) → IfOk r P → IfSome o Q
kept_answer (Ok e) o P Q is on h = subst (λ x. IfSome x Q) (sym is) (on e h)
kept_answer (Err why) o P Q is on h = subst (λ x. IfSome x Q) (sym is) tt

-- all others are there, and this one comes back
comes_back : (has : List Bool) (k n : ℕ) → k < 65 → (n ≢ k → has_number has n ≡ true) → has_number (merged has (only_number k)) n ≡ true
comes_back has k n l other = merged_at has (only_number k) n ∙ dite (ℕ_discrete n k)
    (λ e. or_right (has_number has n) (has_number (only_number k) n) (ap (has_number (only_number k)) e ∙ there_alone k l))
    (λ ne. or_left (has_number has n) (has_number (only_number k) n) (other ne))

-- two numbers were taken out, and both came back
pub both_back : (j k : ℕ) → j < 65 → k < 65 → HasAll (merged (merged (slice_set (slice_set all_numbers j false) k false) (only_number j)) (only_number k))
both_back j k lj lk n l =
    let one = slice_set all_numbers j false in
    let two = slice_set one k false in
    comes_back (merged two (only_number j)) k n lk (λ nk. comes_back two j n lj (λ nj. still_there one k n nk (still_there all_numbers j n nj (all_there n l))))
