-- A member after each of its calls.
use Rattle.std.proofs.Common.{◌≡◌, ℕ, ◌+◌, ◌<◌, ◌≤◌, Bool, true, false, List, [], ◌∷◌, ◌++◌, length, Option, Some, None, Result, Ok, Err, refl, sym, ap, ◌∙◌, subst, arith, append_assoc}
use Rattle.std.specs.Prelude.{nat_lt, if◌then◌else◌, max}
use Rattle.std.proofs.Math.Nat.{max-eq_left, max-eq_right}
use Rattle.tree_model.specs.Entries.{Entries}
use Rattle.call_contract.specs.Books.{entry}
use Rattle.call_contract.specs.Calls.{CallMeaning}
use Rattle.call_contract.specs.declared.events.Event.TheVariants as event
use Rattle.call_contract.specs.declared.events.EventAnswer.TheVariants as said
use Rattle.journal.specs.Views.{JournalView}
use Rattle.turn_lock.specs.Turns.{GoesOn, has_number, longer}
use Rattle.shared_store.specs.Calls.{HasAborted, HasBegun, HasCommitted}
use Rattle.shared_store.specs.Lists.{is_opened}
use Rattle.shared_store.specs.Sessions.{HasDone, having_seen, SessionView}
use Rattle.shared_store.specs.declared.desk.Entry.{Entry}
use Rattle.shared_store.specs.declared.desk.Entry.TheVariants as kind
use Rattle.shared_store.specs.declared.errors.StoreError.{StoreError}
use Rattle.shared_store.proofs.Waiting.{as_it_was, Grown, grown_on}
use Rattle.group_commit.specs.Marks.{durable_in, last_commit, marked_by, opening_in}
use Rattle.group_commit.specs.Members.{Marks, MarksPass, MemberView}
use Rattle.group_commit.specs.inside.Scribes.{IsMember, marks_in, ScribeView}
use Rattle.group_commit.proofs.Lists.{last_grows, last_on, opened_on}
use Rattle.group_commit.proofs.MarkLaws.{durable_grows}

module _ {C B : Type 0} where
  -- ---- lists go on

  pub grown_begun : (before after : List (Entry C B)) (s : ℕ) (r : Result ℕ StoreError) → HasBegun before s r after → Grown before after
  grown_begun before after s (Ok x) h = (_, h.ok)
  grown_begun before after s (Err e) h = as_it_was before after h.err

  pub grown_aborted : (before after : List (Entry C B)) (s : ℕ) (r : Result (Unit {0}) StoreError) → HasAborted before s r after → Grown before after
  grown_aborted before after s (Ok x) h = (_, h.ok)
  grown_aborted before after s (Err e) h = as_it_was before after h.err

  pub grown_committed : (told : B → Option Entries) (m : CallMeaning C) (before after : List (Entry C B)) (s : ℕ) (r : Result ℕ StoreError) → HasCommitted told m before s r after → Grown before after
  grown_committed told m before after s (Ok x) h = (_, h.ok)
  grown_committed told m before after s (Err e) h = as_it_was before after h.err

  pub done_grown : (p q : SessionView C B) (does : List (Entry C B) → List (Entry C B) → Type 0) → (h : HasDone p q does) → Grown h.before q.seen → Grown p.seen q.seen
  done_grown p q does h g = grown_on p.seen h.before q.seen (h.goes_on.0, h.goes_on.1) g

  abbrev pub MarksGrown : Marks C B → Marks C B → Type 0
  MarksGrown before after = (added : Marks C B) × (after ≡ before ++ added)

  pub marks_on : (a b c : Marks C B) → MarksGrown a b → MarksGrown b c → MarksGrown a c
  marks_on a b c p q = (p.0 ++ q.0, q.1 ∙ (ap (λ (x : Marks C B). x ++ q.0) p.1 ∙ append_assoc a p.0 q.0))

  -- ---- members

  abbrev pub member : SessionView C B → MarksPass C B → MemberView C B
  member session pass = record { session = session; pass = pass }

  -- its session did something
  pub member_stays : (p q : SessionView C B) (pass : MarksPass C B) (k : ℕ) → IsMember (member p pass) k → q ≡ having_seen q.seen p → Grown p.seen q.seen → IsMember (member q pass) k
  member_stays p q pass k is same g = record {
    turn = is.turn;
    own = ap (λ (v : SessionView C B). has_number pass.has v.under) same ∙ is.own;
    numbers = λ n l has. is.numbers n l (sym (ap (λ (v : SessionView C B). has_number v.has n) same) ∙ has);
    opening = record {
      first = is.opening.first;
      journal = is.opening.journal;
      marks = is.opening.marks;
      seen = is.opening.seen;
      lock = is.opening.lock ∙ sym (ap (λ (v : SessionView C B). v.lock) same);
      opened = is.opening.opened;
      more = is.opening.more ++ g.0;
      grown = g.1 ∙ (ap (λ (l : List (Entry C B)). l ++ g.0) is.opening.grown ∙ append_assoc is.opening.first.seen is.opening.more g.0);
    };
    known = is.known;
  }

  -- what its session has seen begins with the opening
  pub opened_member : (v : MemberView C B) (k : ℕ) → IsMember v k → is_opened v.session.seen ≡ true
  opened_member v k is = ap is_opened is.opening.grown ∙ opened_on is.opening.first.seen is.opening.more is.opening.opened

  -- its pass saw a longer list, and numbers of others came to both
  pub pass_goes_on : (v w : MemberView C B) (k l : ℕ) → IsMember v k → w.session ≡ v.session → w.pass.turn ≡ false → ((n : ℕ) → has_number w.pass.has n ≡ has_number v.pass.has n) → MarksGrown v.pass.seen w.pass.seen → l ≡ durable_in w.pass.seen → IsMember w l
  pass_goes_on v w k l is session turn has g durable = record {
    turn = turn;
    own = has w.session.under ∙ (ap (λ (x : SessionView C B). has_number v.pass.has x.under) session ∙ is.own);
    numbers = λ n l own. has n ∙ is.numbers n l (sym (ap (λ (x : SessionView C B). has_number x.has n) session) ∙ own);
    opening = record {
      first = is.opening.first;
      journal = is.opening.journal;
      marks = is.opening.marks ++ g.0;
      seen = g.1 ∙ ap (λ (l : Marks C B). l ++ g.0) is.opening.seen;
      lock = is.opening.lock ∙ sym (ap (λ (x : SessionView C B). x.lock) session);
      opened = is.opening.opened;
      more = is.opening.more;
      grown = ap (λ (x : SessionView C B). x.seen) session ∙ is.opening.grown;
    };
    known = durable;
  }

  -- ---- the opening that a list tells

  opening_one : (x y : SessionView C B × JournalView) → Some x ≡ Some y → x ≡ y
  opening_one x y e = ap (λ o. value_or x o) e
    where
      value_or : (d : SessionView C B × JournalView) → Option (SessionView C B × JournalView) → SessionView C B × JournalView
      value_or d None = d
      value_or d (Some z) = z

  -- what stands behind the turn has the opening that the member has seen
  pub same_opening : (v : MemberView C B) (k : ℕ) (s : ScribeView C B) (has : List Bool) → (is : IsMember v k) → GoesOn marked_by has v.pass.seen (marks_in s) → ◌≡◌ {A = SessionView C B × JournalView} (s.session, s.opening) (is.opening.first, is.opening.journal)
  same_opening v k s has is g =
      opening_one (s.session, s.opening) (is.opening.first, is.opening.journal) (ap opening_in (g.1 ∙ ap (λ (l : Marks C B). l ++ g.0) is.opening.seen))

  -- ---- a commit that is visible

  pub number_seen : (told : B → Option Entries) (m : CallMeaning C) (before after : List (Entry C B)) (s number : ℕ) → is_opened before ≡ true → HasCommitted told m before s (Ok number) after → (number ≡ last_commit after) × (last_commit before < number)
  number_seen told m before after s number o h =
      let noted : List (Entry C B) = kind.Noted (entry s event.Commit (said.Number number)) ∷ [] in
      let e : last_commit after ≡ last_commit before + 1 = ap last_commit h.ok ∙ last_on before noted o in
      let n = h.number in
      (omega (arith, e, n), omega (arith, n))

  -- of a member, whose commit is the number
  pub number_new : (told : B → Option Entries) (m : CallMeaning C) (v : MemberView C B) (k : ℕ) (q : SessionView C B) (number : ℕ) (r : Result ℕ StoreError) → (is : IsMember v k) → r ≡ Ok number
      → HasDone v.session q (λ before after. HasCommitted told m before v.session.under r after) → (number ≡ last_commit q.seen) × (last_commit is.opening.first.seen < number)
  number_new told m v k q number r is ok h =
      let oseen = opened_member v k is in
      let obefore : is_opened h.before ≡ true = ap is_opened h.goes_on.1 ∙ opened_on v.session.seen h.goes_on.0 oseen in
      let did = subst (λ (x : Result ℕ StoreError). HasCommitted told m h.before v.session.under x q.seen) ok h.did in
      let n = number_seen told m h.before q.seen v.session.under number obefore did in
      let one = last_grows is.opening.first.seen is.opening.more v.session.seen is.opening.opened is.opening.grown in
      let two = last_grows v.session.seen h.goes_on.0 h.before oseen h.goes_on.1 in
      let less = n.1 in
      (n.0, omega (arith, one, two, less))

  -- ---- two members

  -- the longer list tells the greater number
  pub durable_longer : (xs ys : Marks C B) (a b : ℕ) (hx hy : List Bool) → a ≡ durable_in xs → b ≡ durable_in ys → GoesOn marked_by hx xs (longer xs ys) → GoesOn marked_by hy ys (longer xs ys) → max a b ≡ durable_in (longer xs ys)
  durable_longer xs ys a b hx hy ea eb gx gy = go (nat_lt (length xs) (length ys)) refl
    where
      go : (c : Bool) → nat_lt (length xs) (length ys) ≡ c → max a b ≡ durable_in (longer xs ys)
      go true e =
          let is : longer xs ys ≡ ys = ap (λ (c : Bool). if c then ys else xs) e in
          let l : durable_in xs ≤ durable_in ys = subst (λ (z : Marks C B). durable_in xs ≤ durable_in z) (sym gx.1 ∙ is) (durable_grows xs gx.0) in
          max-eq_right (omega (arith, l, ea, eb)) ∙ (eb ∙ sym (ap durable_in is))
      go false e =
          let is : longer xs ys ≡ xs = ap (λ (c : Bool). if c then ys else xs) e in
          let l : durable_in ys ≤ durable_in xs = subst (λ (z : Marks C B). durable_in ys ≤ durable_in z) (sym gy.1 ∙ is) (durable_grows ys gy.0) in
          max-eq_left (omega (arith, l, ea, eb)) ∙ (ea ∙ sym (ap durable_in is))
