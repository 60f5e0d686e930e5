-- What a list behind the journal's turn tells of the journal, once all passes are together.
use Rattle.std.proofs.Common.{◌≡◌, ℕ, zero, suc, ◌+◌, ◌-◌, ◌<◌, ◌≤◌, Bool, false, List, [], ◌∷◌, ◌++◌, length, map, append_assoc, Option, Some, None, IsTrue, refl, sym, ap, ◌∙◌, subst, arith, true≢false}
use Rattle.std.specs.Prelude.{IfSome}
use Rattle.std.proofs.lemmas.Bool.{eqb-true}
use Rattle.node_records.specs.declared.pending.Pending.{Pending}
use Rattle.tree_model.specs.Entries.{Entries}
use Rattle.tree_model.specs.Tree.{Tree}
use Rattle.call_contract.specs.Books.{Book}
use Rattle.call_contract.specs.Sessions.{commits_in}
use Rattle.call_contract.specs.Calls.{CallMeaning}
use Rattle.outside_traits.specs.CrashImages.{IsImage}
use Rattle.outside_traits.specs.Moments.{IsAllSynced}
use Rattle.outside_traits.proofs.MomentLaws.{leaves_all}
use Rattle.journal.specs.Appends.{groups_in}
use Rattle.journal.specs.Batches.{pairs_of}
use Rattle.journal.specs.Groups.{is_next}
use Rattle.journal.specs.Views.{JournalView}
use Rattle.turn_lock.specs.Turns.{AreForeign, GoesOn, HasAll}
use Rattle.shared_store.specs.Bodies.{bodies_of}
use Rattle.shared_store.specs.Lists.{book_of, OpensFrom}
use Rattle.shared_store.specs.Sessions.{SessionView}
use Rattle.tx_core.specs.Cores.{CoreView}
use Rattle.group_commit.specs.Closings.{AreOthers, IsAsTold, IsFailed}
use Rattle.group_commit.specs.Marks.{durable_in, durables, failure_in, failures, last_commit, marked_by, opening_in}
use Rattle.group_commit.specs.Members.{Marks}
use Rattle.group_commit.specs.Written.{HaveBodies, HoldsFirst}
use Rattle.group_commit.specs.declared.mark.Failed.{Failed}
use Rattle.group_commit.specs.declared.mark.Mark.{Mark}
use Rattle.group_commit.specs.declared.mark.Mark.TheVariants as mark
use Rattle.group_commit.specs.inside.Scribes.{AreMade, began_after, IsCounted, IsGoing, IsHalted, IsScribe, marks_in, reached, ScribeView, StandsBy}
use Rattle.group_commit.proofs.Batches.{all_there, fewer, none_there, pairs_length}
use Rattle.group_commit.proofs.Bodied.{bodies_on, counted_parts, later_bodies}
use Rattle.group_commit.proofs.MarkLaws.{durable_grows, failure_append}
use Rattle.group_commit.proofs.Scribing.{told_durable, told_failure}

module _ {S J : Type 0} where
  -- a failure that a list tells is told as it goes on
  failure_stays : (xs ys : List (Mark S J)) (f : ℕ) → failure_in xs ≡ Some f → failure_in (xs ++ ys) ≡ Some f
  failure_stays [] ys f e = cc
  failure_stays (mark.Opening s j ∷ xs) ys f e = failure_stays xs ys f e
  failure_stays (mark.Durable n ∷ xs) ys f e = failure_stays xs ys f e
  failure_stays (mark.Failure by g ∷ xs) ys f e = e

  -- each failure is of a number up to 64
  abbrev AreSmall : List (Mark S J) → Type 0
  AreSmall [] = Unit {0}
  AreSmall (mark.Opening s j ∷ ms) = AreSmall ms
  AreSmall (mark.Durable n ∷ ms) = AreSmall ms
  AreSmall (mark.Failure by f ∷ ms) = (by < 65) × AreSmall ms

  small_rest : (xs ys : List (Mark S J)) → AreSmall (xs ++ ys) → AreSmall ys
  small_rest [] ys a = a
  small_rest (mark.Opening s j ∷ xs) ys a = small_rest xs ys a
  small_rest (mark.Durable n ∷ xs) ys a = small_rest xs ys a
  small_rest (mark.Failure by f ∷ xs) ys a = small_rest xs ys a.1

  small_durables : (after n : ℕ) (ms : List (Mark S J)) → AreSmall ms → AreSmall (durables after n ++ ms)
  small_durables after zero ms a = a
  small_durables after (suc n) ms a = small_durables (after + 1) n ms a

  none_of_all : (has : List Bool) → HasAll has → (ms : List (Mark S J)) → AreSmall ms → AreForeign marked_by has ms → failure_in ms ≡ None
  none_of_all has all [] a f = refl
  none_of_all has all (mark.Opening s j ∷ ms) a f = none_of_all has all ms a f.1
  none_of_all has all (mark.Durable n ∷ ms) a f = none_of_all has all ms a f.1
  none_of_all has all (mark.Failure by g ∷ ms) a f = absurd (true≢false (sym (all by a.0) ∙ f.0))

abbrev value_or : ℕ → Option ℕ → ℕ
value_or d None = d
value_or d (Some z) = z

some_same : (x y : ℕ) → Some x ≡ Some y → x ≡ y
some_same x y e = ap (value_or x) e

reached_most : (after n : ℕ) → reached after n ≤ after + n
reached_most after zero = omega arith
reached_most after (suc n) = omega arith

same_last : (k n : ℕ) → IsTrue (is_next (Some k) (n + 1)) → k ≡ n
same_last k n t = let e : n + 1 ≡ k + 1 = eqb-true (n + 1) (k + 1) t in omega (arith, e)

module _ {C B : Type 0} (meaning : CallMeaning C) (contents : B → Option Entries) (known : Bool) (s : ScribeView C B) (is : IsScribe meaning contents known s) (seen : Marks C B) (has : List Bool) (all : HasAll has) (goes : GoesOn marked_by has seen (marks_in s)) (first : SessionView C B) (j : JournalView) (marks : Marks C B)
    (begins : seen ≡ mark.Opening first j ∷ marks) (core : CoreView C B)
    (made : last_commit s.drainer.seen ≤ core.number + commits_in core.book) (later : Book C) (is_book : core.book ≡ book_of s.drainer.seen ++ later) (apart : (added : Book C) × (core.book ≡ book_of s.session.seen ++ added) × AreOthers 0 added) (counted : (t : Tree) → OpensFrom contents s.session.seen t → IsCounted core.book) where
  abbrev most : ℕ
  most = core.number + commits_in core.book

  -- the book has them behind those from before
  has_bodies : (commits : List Pending) → AreMade meaning contents s commits → (t : Tree) → OpensFrom contents s.session.seen t → HaveBodies meaning t (book_of s.session.seen) core.book commits
  has_bodies commits are t opens =
      let drained = book_of s.drainer.seen in
      let all = subst IsCounted is_book (counted t opens) in
      record {
        later = later_bodies meaning t drained later;
        parts = ap (bodies_of meaning t) is_book ∙ (bodies_on meaning t drained later
            ∙ (ap (λ (z : List (List ℕ)). z ++ later_bodies meaning t drained later) (are t opens (counted_parts drained later all).0)
            ∙ append_assoc (bodies_of meaning t (book_of s.session.seen)) (map (λ (p : Pending). p.body) commits) (later_bodies meaning t drained later)));
      }

  abbrev rest : Marks C B
  rest = goes.0

  told : opening_in seen ≡ Some (s.session, s.opening)
  told = ap opening_in begins ∙ (sym (ap (λ (l : Marks C B). opening_in (l ++ rest)) begins) ∙ sym (ap opening_in goes.1))

  -- no more is known as durable than was written
  known_durable : durable_in seen ≤ began_after s + s.written
  known_durable =
      let one : durable_in seen ≤ durable_in (marks_in s) = subst (λ (l : Marks C B). durable_in seen ≤ durable_in l) (sym goes.1) (durable_grows seen rest) in
      let two : durable_in (marks_in s) ≡ reached (began_after s) s.written = told_durable meaning contents known s is ∙ is.durable in
      let three = reached_most (began_after s) s.written in
      omega (arith, one, two, three)

  abbrev Least : ℕ
  Least = durable_in seen - began_after s

  least_written : Least ≤ s.written
  least_written = let l = known_durable in omega (arith, l)

  failure_seen : (f : ℕ) → failure_in seen ≡ Some f → failure_in (failures {S = SessionView C B} {J = JournalView} s.failure) ≡ Some f
  failure_seen f e = sym (told_failure s) ∙ (ap failure_in goes.1 ∙ failure_stays seen rest f e)

  module _ (synced : IsTrue known → s.journal.failed ≡ false → IsAllSynced s.journal.history) (reads : IsTrue known → IsImage s.journal.history.now s.journal.history.now.reads) where
    going_told : s.failure ≡ None → IsGoing meaning contents known s → IsAsTold meaning contents known seen core s.journal
    going_told none going = record {
      session = s.session;
      first = s.opening;
      opening = told;
      written = record {
        commits = going.commits;
        numbers = going.numbers;
        made = (let a = going.all in let m = is.made in omega (arith, a, m, made));
        since = λ is_known. record { more = (going.since is_known).leaves.more; states = (going.since is_known).leaves.states };
        moments = λ is_known. leaves_all (HoldsFirst s.opening going.commits 0) s.opening.history s.journal.history (going.since is_known).leaves (first_image is_known);
        now = now;
        read = λ is_known. now is_known s.journal.history.now.reads (reads is_known);
      };
      bodies = has_bodies going.commits going.bodies;
      idle = apart;
      unfailed = λ unfailed. record { takes = going.takes; faults = going.faults; last = last s.journal.last going.next };
      failed = failed (failure_in seen) refl;
    }
      where
        first_image : IsTrue known → (image : List ℕ) → IsImage s.opening.history.now image → HoldsFirst s.opening going.commits 0 image
        first_image is_known = none_there (groups_in s.opening.history) (pairs_of going.commits) s.opening.history (going.start is_known).synced (going.start is_known).commits

        now : IsTrue known → (image : List ℕ) → IsImage s.journal.history.now image → HoldsFirst s.opening going.commits Least image
        now is_known image at =
            let count : length (pairs_of going.commits) ≡ s.written = pairs_length going.commits ∙ going.all in
            let l = least_written in
            fewer (groups_in s.opening.history) (pairs_of going.commits) (length (pairs_of going.commits)) Least (omega (arith, count, l)) image
            (all_there (groups_in s.opening.history) (pairs_of going.commits) s.journal.history (synced is_known going.takes.unfailed) (going.since is_known).now image at)

        last : (o : Option ℕ) → IsTrue (is_next o (began_after s + s.written + 1)) → IfSome o (λ n. (began_after s + Least ≤ n) × (n ≤ most))
        last None t = tt
        last (Some n) t =
            let e : n ≡ began_after s + s.written = same_last n (began_after s + s.written) t in
            let l = least_written in
            let m = is.made in
            (omega (arith, e, l), omega (arith, e, m, made))

        failed : (o : Option ℕ) → failure_in seen ≡ o → IfSome o (λ faults. IsFailed s.opening faults s.journal)
        failed None e = tt
        failed (Some f) e = let no : ◌≡◌ {A = Option ℕ} None (Some f) = sym (ap (λ (x : Option Failed). failure_in (failures {S = SessionView C B} {J = JournalView} x)) none) ∙ failure_seen f e in cc

    halted_told : (f : Failed) → s.failure ≡ Some f → IsHalted meaning contents known s f → IsAsTold meaning contents known seen core s.journal
    halted_told f some halted = record {
      session = s.session;
      first = s.opening;
      opening = told;
      written = record {
        commits = halted.holds.commits;
        numbers = halted.holds.numbers;
        made = (let m = halted.holds.made in omega (arith, m, made));
        since = halted.holds.since;
        moments = halted.holds.moments;
        now = λ is_known image at. fewer (groups_in s.opening.history) (pairs_of halted.holds.commits) s.written Least least_written image (halted.holds.now is_known image at);
        read = λ is_known. fewer (groups_in s.opening.history) (pairs_of halted.holds.commits) s.written Least least_written s.journal.history.now.reads (halted.holds.read is_known);
      };
      bodies = has_bodies halted.holds.commits halted.bodies;
      idle = apart;
      unfailed = λ none. absurd (unseen none);
      failed = failed (failure_in seen) refl;
    }
      where
        fails : failure_in (failures {S = SessionView C B} {J = JournalView} s.failure) ≡ Some f.faults
        fails = ap (λ (x : Option Failed). failure_in (failures {S = SessionView C B} {J = JournalView} x)) some

        small : AreSmall (marks_in s)
        small = small_durables (began_after s) s.written (failures s.failure) (subst (λ (x : Option Failed). AreSmall (failures {S = SessionView C B} {J = JournalView} x)) (sym some) (halted.by, tt))

        -- the failure has a number, so it was seen
        unseen : failure_in seen ≡ None → ⊥
        unseen none =
            let later : failure_in rest ≡ None = none_of_all has all rest (small_rest seen rest (subst AreSmall goes.1 small)) goes.2 in
            let no : ◌≡◌ {A = Option ℕ} None (Some f.faults) = sym later ∙ (sym (failure_append seen rest none) ∙ (sym (ap failure_in goes.1) ∙ (told_failure s ∙ fails))) in
            cc

        failed : (o : Option ℕ) → failure_in seen ≡ o → IfSome o (λ faults. IsFailed s.opening faults s.journal)
        failed None e = tt
        failed (Some g) e =
            let same : f.faults ≡ g = some_same f.faults g (sym fails ∙ failure_seen g e) in
            subst (λ (k : ℕ). IsFailed s.opening k s.journal) same (record { above = halted.above; below = halted.below; unusable = halted.unusable })

    pub as_told : IsAsTold meaning contents known seen core s.journal
    as_told = go s.failure refl is.stands
      where
        go : (f : Option Failed) → s.failure ≡ f → StandsBy meaning contents known s f → IsAsTold meaning contents known seen core s.journal
        go None e stands = going_told e stands
        go (Some f) e stands = halted_told f e stands
