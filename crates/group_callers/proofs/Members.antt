-- Members after their calls, and numbers that were given away and came back.
use Rattle.std.proofs.Common.{◌≡◌, ◌≢◌, ℕ, ◌<◌, ◌≤◌, Bool, true, false, List, [], ◌∷◌, ◌++◌, length, take, Result, Ok, Err, sym, ap, ◌∙◌, subst, arith, length-append, true≢false}
use Rattle.std.specs.Result.{is_ok}
use Rattle.std.specs.Prelude.{Option, Some, None, IfOk, OnErr, slice_set, is_some}
use Rattle.std.proofs.lemmas.List.{length-map, length-take-le}
use mathlib.Core.Logic.{dite}
use native.Mathlib.Decide.{ℕ_discrete}
use Rattle.tree_model.specs.Entries.{Entries}
use Rattle.call_contract.specs.Calls.{CallMeaning}
use Rattle.turn_lock.specs.Turns.{has_number, having_seen as having_marks, merged, only_number}
use Rattle.turn_lock.proofs.Numbers.{merged_at, or_left, or_right, still_there, there_alone}
use Rattle.shared_store.specs.Sessions.{having_seen, SessionView}
use Rattle.shared_store.specs.declared.errors.StoreError.{StoreError}
use Rattle.journal.specs.Appends.{groups_in}
use Rattle.journal.specs.Batches.{pairs_of, with_commits}
use Rattle.journal.specs.Groups.{commit, commits_of}
use Rattle.journal.specs.Views.{JournalView}
use Rattle.journal.specs.declared.group.Group.{Group}
use Rattle.tx_core.specs.Cores.{CoreView}
use Rattle.group_commit.specs.Members.{GoesOnIn, HasCommittedAll, HasTurned, Marks, MarksPass, MemberView}
use Rattle.group_commit.specs.Closings.{IsAsTold}
use Rattle.group_commit.specs.Marks.{durable_in, last_commit, opening_in}
use Rattle.group_commit.specs.declared.mark.Mark.TheVariants as mark
use Rattle.group_commit.proofs.MarkLaws.{durable_grows}
use Rattle.group_callers.specs.Kept.{IsKept}
use Rattle.group_callers.specs.Members.{HasSeenDurable, HasSeenMore, OpensEmpty}

module _ {C B : Type 0} where
  -- ---- calls

  same_pass : (p q : MarksPass C B) → q ≡ p → q ≡ having_marks q.seen p
  same_pass p q is = is ∙ ap (λ (x : MarksPass C B). having_marks x.seen p) (sym is)

  pub called : (v w : MemberView C B) → w.session ≡ having_seen w.session.seen v.session → w.pass ≡ v.pass → HasSeenMore v w
  called v w session pass = record { session = session; pass = same_pass v.pass w.pass pass }

  pub seen_on : (v w x : MemberView C B) → HasSeenMore v w → HasSeenMore w x → HasSeenMore v x
  seen_on v w x one two = record { session = two.session ∙ ap (having_seen x.session.seen) one.session; pass = two.pass ∙ ap (having_marks x.pass.seen) one.pass }

  pub committed : (told : B → Option Entries) (m : CallMeaning C) (v w : MemberView C B) (r : Result ℕ StoreError) → HasCommittedAll told m v w r → HasSeenMore v w
  committed told m v w r h = record { session = h.session.same; pass = go h.visible h.journal h.refused }
    where
      go : (x : Result ℕ StoreError) → IfOk x (λ (number : ℕ). HasTurned v.pass w.pass v.session.under number r) → OnErr x ((r ≡ x) × (w.pass ≡ v.pass)) → w.pass ≡ having_marks w.pass.seen v.pass
      go (Ok n) turned refused = turned.same
      go (Err e) turned refused = same_pass v.pass w.pass refused.1

  pub committed_durable : (told : B → Option Entries) (m : CallMeaning C) (v w : MemberView C B) (r : Result ℕ StoreError) → HasCommittedAll told m v w r → HasSeenDurable w r
  committed_durable told m v w r h = go h.visible r h.journal h.refused
    where
      go : (x y : Result ℕ StoreError) → IfOk x (λ (number : ℕ). HasTurned v.pass w.pass v.session.under number y) → OnErr x ((y ≡ x) × (w.pass ≡ v.pass)) → HasSeenDurable w y
      go (Ok n) (Ok k) turned refused = subst (λ (j : ℕ). j ≤ durable_in w.pass.seen) (sym turned.answered.0) turned.answered.1
      go (Err e) (Ok k) turned refused = absurd (true≢false (ap is_ok refused.0))
      go x (Err e) turned refused = tt

  pub still_durable : (v w : MemberView C B) (r : Result ℕ StoreError) → w.pass ≡ v.pass → HasSeenDurable v r → HasSeenDurable w r
  still_durable v w (Ok n) same durable = subst (λ (p : MarksPass C B). n ≤ durable_in p.seen) (sym same) durable
  still_durable v w (Err e) same durable = tt

  pub durable_on : (v w : MemberView C B) (r : Result ℕ StoreError) → GoesOnIn v w → HasSeenDurable v r → HasSeenDurable w r
  durable_on v w (Ok n) on durable =
      let grows = durable_grows v.pass.seen on.pass.0 in
      subst (λ (l : Marks C B). n ≤ durable_in l) (sym on.pass.1) (omega (arith, durable, grows))
  durable_on v w (Err e) on durable = tt

  opening_kept : (xs ys : Marks C B) (o : SessionView C B × JournalView) → opening_in xs ≡ Some o → opening_in (xs ++ ys) ≡ Some o
  opening_kept [] ys o is = absurd (true≢false (sym (ap is_some is)))
  opening_kept (mark.Opening session journal ∷ xs) ys o is = is
  opening_kept (mark.Durable number ∷ xs) ys o is = absurd (true≢false (sym (ap is_some is)))
  opening_kept (mark.Failure by faults ∷ xs) ys o is = absurd (true≢false (sym (ap is_some is)))

  pub opens_on : (v w : MemberView C B) → GoesOnIn v w → OpensEmpty v.pass.seen → OpensEmpty w.pass.seen
  opens_on v w on is = record {
    session = is.session;
    journal = is.journal;
    opening = ap opening_in on.pass.1 ∙ opening_kept v.pass.seen on.pass.0 (is.session, is.journal) is.opening;
    none = is.none;
  }

  pub all_kept : (known : Bool) (told : B → Option Entries) (m : CallMeaning C) (v : MemberView C B) (core : CoreView C B) (journal : JournalView) (r : Result ℕ StoreError) → IsAsTold m told known v.pass.seen core journal → OpensEmpty v.pass.seen → HasSeenDurable v r → IsKept known journal.history r
  all_kept known told m v core journal (Err e) is opens durable = tt
  all_kept known told m v core journal (Ok n) is opens durable = λ knows image of.
      let held = is.written.now knows image of in
      let same : is.session ≡ opens.session = ap (λ (o : Option (SessionView C B × JournalView)). session_or o is.session) (sym is.opening ∙ opens.opening) in
      let least : last_commit is.session.seen ≡ 0 = ap (λ (s : SessionView C B). last_commit s.seen) same ∙ opens.none in
      record {
        groups = with_commits (groups_in is.first.history) (commits_of (take held.count (pairs_of is.written.commits)));
        reads = held.reads;
        enough = enough_of (groups_in is.first.history).commits (pairs_of is.written.commits) held.count n held.some (omega (arith, least, durable, held.enough));
      }
    where
      session_or : Option (SessionView C B × JournalView) → SessionView C B → SessionView C B
      session_or None other = other
      session_or (Some o) other = o.0

      enough_of : (groups : List Group) (pairs : List (ℕ × List ℕ)) (count n : ℕ) → count ≤ length pairs → n ≤ count → n ≤ length (groups ++ commits_of (take count pairs))
      enough_of groups pairs count n some most =
          let all = length-append groups (commits_of (take count pairs)) in
          let made = length-map (take count pairs) (λ (c : ℕ × List ℕ). commit c.0 c.1) in
          let took = length-take-le count pairs some in
          omega (arith, all, made, took, most)

-- ---- numbers

-- all others are there, and this one comes back
comes_back : (has : List Bool) (k n : ℕ) → k < 65 → (n ≢ k → has_number has n ≡ true) → has_number (merged has (only_number k)) n ≡ true
comes_back has k n l other = merged_at has (only_number k) n ∙ dite (ℕ_discrete n k)
    (λ e. or_right (has_number has n) (has_number (only_number k) n) (ap (has_number (only_number k)) e ∙ there_alone k l))
    (λ ne. or_left (has_number has n) (has_number (only_number k) n) (other ne))

-- what was there before two numbers were taken out is there again once both came back
pub both_back : (has : List Bool) (j k n : ℕ) → j < 65 → k < 65 → has_number has n ≡ true → has_number (merged (merged (slice_set (slice_set has j false) k false) (only_number j)) (only_number k)) n ≡ true
both_back has j k n lj lk own =
    let one = slice_set has j false in
    let two = slice_set one k false in
    comes_back (merged two (only_number j)) k n lk (λ nk. comes_back two j n lj (λ nj. still_there one k n nk (still_there has j n nj own)))
