-- A member's commit, or its call to make all durable that it has seen: the journal's turn is taken, the answer is given, and then the turn.
use Rattle.std.proofs.Common.{◌≡◌, ℕ, ◌<◌, Bool, true, false, List, [], ◌∷◌, Option, None, Result, Ok, Err, sym, ap, ◌∙◌, subst}
use Rattle.std.specs.Prelude.{IfOk, OnErr, OnOk}
use Rattle.std.proofs.lemmas.List.{append-nil}
use Rattle.tree_model.specs.Entries.{Entries}
use Rattle.call_contract.specs.Calls.{CallMeaning}
use Rattle.journal.specs.Views.{JournalView}
use Rattle.turn_lock.specs.Turns.{GoesOn, GrewBy, having_seen as having_marks, having_turn, has_number}
use Rattle.call_contract.specs.Sessions.{live_in}
use Rattle.shared_store.specs.Calls.{HasCommitted}
use Rattle.shared_store.specs.Lists.{book_of}
use Rattle.shared_store.specs.Sessions.{HasDone, SessionView}
use Rattle.shared_store.specs.declared.errors.StoreError.{StoreError}
use Rattle.shared_store.specs.declared.errors.StoreError.TheVariants as store_error
use Rattle.group_commit.specs.Marks.{durable_in, last_commit, marked_by}
use Rattle.group_commit.specs.Members.{HasCommittedAll, HasMadeDurable, HasTurned, IsAnswered, IsMadeDurable, Marks, MarksPass, MemberView}
use Rattle.group_commit.specs.declared.mark.Mark.TheVariants as mark
use Rattle.group_commit.specs.inside.Scribes.{began_after, IsMember, marks_in, ScribeView}
use Rattle.group_commit.proofs.Belonging.{MarksGrown, marks_on, member, number_new, pass_goes_on, same_opening}
use Rattle.group_commit.proofs.MarkLaws.{durable_own}

module _ {C B : Type 0} where
  -- what an answer adds to the list is the member's own or nobody's
  pub answered_adds : (has : List Bool) (found after : Marks C B) (under number : ℕ) (r : Result ℕ StoreError) → has_number has under ≡ true → IsAnswered found under number r after → GrewBy marked_by has found after
  answered_adds has found after under number (Ok k) own (same, reached, alone, added, list, durable) = (added, list, durable_own has added durable)
  answered_adds has found after under number (Err store_error.DiskFault) own (later, none, faults, list, above) = (mark.Failure under faults ∷ [], list, (own, tt))
  answered_adds has found after under number (Err (store_error.Halted faults)) own (later, failure, list) = ([], list ∙ sym (append-nil found), tt)
  answered_adds has found after under number (Err store_error.NoMemory) own is = absurd is
  answered_adds has found after under number (Err (store_error.Session why)) own is = absurd is

  pub made_adds : (has : List Bool) (found after : Marks C B) (under number : ℕ) (r : Result (Unit {0}) StoreError) → has_number has under ≡ true → IsMadeDurable found under number r after → GrewBy marked_by has found after
  made_adds has found after under number (Ok x) own (reached, none, added, list, durable) = (added, list, durable_own has added durable)
  made_adds has found after under number (Err store_error.DiskFault) own (none, faults, list, above) = (mark.Failure under faults ∷ [], list, (own, tt))
  made_adds has found after under number (Err (store_error.Halted faults)) own (failure, list) = ([], list ∙ sym (append-nil found), tt)
  made_adds has found after under number (Err store_error.NoMemory) own is = absurd is
  made_adds has found after under number (Err (store_error.Session why)) own is = absurd is

  -- the session's commit is visible: it is the session's last one, and behind those from before the group commit
  pub settle_number : (told : B → Option Entries) (m : CallMeaning C) (v : MemberView C B) (k : ℕ) (q : SessionView C B) (number : ℕ) (r : Result ℕ StoreError) (s : ScribeView C B) → (is : IsMember v k) → r ≡ Ok number
      → HasDone v.session q (λ before after. HasCommitted told m before v.session.under r after) → GoesOn marked_by v.pass.has v.pass.seen (marks_in s) → (number ≡ last_commit q.seen) × (began_after s < number)
  settle_number told m v k q number r s is ok h goes =
      let n = number_new told m v k q number r is ok h in
      (n.0, subst (λ (x : SessionView C B). last_commit x.seen < number) (sym (ap (λ (o : SessionView C B × JournalView). o.0) (same_opening v k s v.pass.has is goes))) n.1)

  pub opening_lock : (v : MemberView C B) (k : ℕ) (s : ScribeView C B) → (is : IsMember v k) → GoesOn marked_by v.pass.has v.pass.seen (marks_in s) → s.session.lock ≡ v.session.lock
  opening_lock v k s is goes = ap (λ (o : SessionView C B × JournalView). o.0.lock) (same_opening v k s v.pass.has is goes) ∙ is.opening.lock

  module _ (p b c : MarksPass C B) (found after : Marks C B) (took : b ≡ having_turn true (having_marks found p)) where
    pub gives : GrewBy marked_by p.has found after → GrewBy marked_by b.has b.seen after
    gives grew = subst (λ (x : MarksPass C B). GrewBy marked_by x.has x.seen after) (sym took) grew

    module _ (gave : c ≡ having_turn false (having_marks after b)) where
      whole : c ≡ having_turn false (having_marks after (having_turn true (having_marks found p)))
      whole = gave ∙ ap (λ (x : MarksPass C B). having_turn false (having_marks after x)) took

      seen_after : c.seen ≡ after
      seen_after = ap (λ (x : MarksPass C B). x.seen) whole

      same_pass : p.turn ≡ false → c ≡ having_marks c.seen p
      same_pass turn = whole ∙ (λ i. record { lock = p.lock; seen = sym seen_after i; has = p.has; turn = sym turn i })

      pub turned : (under number : ℕ) (r : Result ℕ StoreError) → p.turn ≡ false → GoesOn marked_by p.has p.seen found → IsAnswered found under number r after → HasTurned p c under number r
      turned under number r turn goes is = record {
        same = same_pass turn;
        found = found;
        goes_on = goes;
        answered = subst (λ (l : Marks C B). IsAnswered found under number r l) (sym seen_after) is;
      }

      pub made : (x y : SessionView C B) (r : Result (Unit {0}) StoreError) → p.turn ≡ false → y ≡ x → GoesOn marked_by p.has p.seen found → IsMadeDurable found x.under (last_commit x.seen) r after → HasMadeDurable (member x p) (member y c) r
      made x y r turn same goes is = record {
        session = same;
        same = same_pass turn;
        found = found;
        goes_on = goes;
        answered = subst (λ (l : Marks C B). IsMadeDurable found x.under (last_commit x.seen) r l) (sym seen_after) is;
      }

      pub turned_member : (x y : SessionView C B) (k l : ℕ) → IsMember (member x p) k → y ≡ x → GoesOn marked_by p.has p.seen found → GrewBy marked_by p.has found after → l ≡ durable_in after → IsMember (member y c) l
      turned_member x y k l is same goes added durable =
          let grown : MarksGrown p.seen c.seen = marks_on p.seen found c.seen (goes.0, goes.1) (added.0, seen_after ∙ added.1) in
          pass_goes_on (member x p) (member y c) k l is same (ap (λ (z : MarksPass C B). z.turn) whole) (λ n. ap (λ (z : MarksPass C B). has_number z.has n) whole) grown (durable ∙ sym (ap durable_in seen_after))

  -- the commit is not visible
  pub refused : (told : B → Option Entries) (m : CallMeaning C) (v w : MemberView C B) (r result : Result ℕ StoreError) (e : StoreError) → r ≡ Err e → result ≡ Err e → HasDone v.session w.session (λ before after. HasCommitted told m before v.session.under r after)
      → w.pass ≡ v.pass → HasCommittedAll told m v w result
  refused told m v w r result e is same h pass = record {
    visible = r;
    session = h;
    journal = subst (λ (x : Result ℕ StoreError). IfOk x (λ number. HasTurned v.pass w.pass v.session.under number result)) (sym is) tt;
    refused = subst (λ (x : Result ℕ StoreError). OnErr x ((result ≡ r) × (w.pass ≡ v.pass))) (sym is) (same ∙ sym is, pass);
    ended = subst (λ (x : Result ℕ StoreError). OnOk x (live_in (book_of w.session.seen) w.session.under ≡ None)) (sym is) tt;
  }

  pub visible : (told : B → Option Entries) (m : CallMeaning C) (v w : MemberView C B) (q : SessionView C B) (r result : Result ℕ StoreError) (number : ℕ) → r ≡ Ok number → w.session ≡ q → HasDone v.session q (λ before after. HasCommitted told m before v.session.under r after)
      → OnOk r (live_in (book_of q.seen) q.under ≡ None) → HasTurned v.pass w.pass v.session.under number result → HasCommittedAll told m v w result
  visible told m v w q r result number is same h ended turned = record {
    visible = r;
    session = subst (λ (x : SessionView C B). HasDone v.session x (λ before after. HasCommitted told m before v.session.under r after)) (sym same) h;
    journal = subst (λ (x : Result ℕ StoreError). IfOk x (λ k. HasTurned v.pass w.pass v.session.under k result)) (sym is) turned;
    refused = subst (λ (x : Result ℕ StoreError). OnErr x ((result ≡ r) × (w.pass ≡ v.pass))) (sym is) tt;
    ended = subst (λ (x : SessionView C B). OnOk r (live_in (book_of x.seen) x.under ≡ None)) (sym same) ended;
  }
