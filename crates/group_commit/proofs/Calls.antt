-- What each call of a session leaves, as a line.
use Rattle.std.proofs.Common.{◌≡◌, ◌∙◌, ◌+◌, ℕ, Bool, true, false, refl, sym, ap, subst, List, []}
use Rattle.std.specs.Prelude.{Option, Some, None, Result, Ok, Err}
use Rattle.tree_model.specs.Entries.{Entries}
use Rattle.tree_model.specs.Tree.{Tree}
use Rattle.call_contract.specs.Books.{last}
use Rattle.call_contract.specs.Calls.{CallMeaning}
use Rattle.call_contract.specs.Sessions.{begins, live_in}
use Rattle.call_contract.specs.States.{start}
use Rattle.call_contract.specs.declared.events.Event.TheVariants as event
use Rattle.call_contract.specs.declared.events.EventAnswer.TheVariants as said
use Rattle.command_lines.specs.declared.line_reply.SessionRefusal.{SessionRefusal}
use Rattle.command_lines.specs.declared.line_reply.SessionRefusal.TheVariants as why
use Rattle.session_driver.specs.Driving.{shown_of, shown_why}
use Rattle.session_driver.specs.declared.doing.Doing.{Doing}
use Rattle.session_driver.specs.declared.doing.Doing.TheVariants as doing
use Rattle.session_driver.proofs.Kept.{abort_same, begin_same, call_same, commit_allowed_by, commit_refused}
use Rattle.tx_core.specs.Commits.{IsPastLimitIn}
use Rattle.tx_core.specs.Cores.{CoreView}
use Rattle.tx_core.specs.Refusals.{refused_abort, refused_begin, refused_call}
use Rattle.tx_core.specs.declared.errors.SessionError.{SessionError}
use Rattle.tx_core.specs.declared.errors.SessionError.TheVariants as session_error
use Rattle.turn_lock.specs.Turns.{GoesOn, has_number}
use Rattle.shared_store.specs.Calls.{HasAborted, HasBegun, HasCommitted, commit_refusal_in}
use Rattle.shared_store.specs.Lists.{OpensFrom, book_of, limit_in, number_in, number_of, state_in}
use Rattle.shared_store.specs.Sessions.{HasDone, SessionView}
use Rattle.shared_store.specs.declared.desk.Entry.{Entry}
use Rattle.shared_store.specs.declared.errors.StoreError.{StoreError}
use Rattle.shared_store.specs.declared.errors.StoreError.TheVariants as store_error
use Rattle.group_commit.specs.StorePorts.{HasBroken}
use Rattle.group_commit.specs.inside.Answering.{Leaves, as_nothing, as_number, refused_by}
use Rattle.group_commit.proofs.Broken.{breaks_behind, breaks_by_attempt, broken_same, is_broken}
use Rattle.group_commit.proofs.Lines.{IsRefusedBy, entry_part, refused_part}

pub none_is_no_some : {A : Type 0} {x : A} → None ≡ Some x → ⊥
none_is_no_some {A} h = subst is h tt
  where
    is : Option A → Type 0
    is None = Unit {0}
    is (Some y) = ⊥

module _ {C B : Type 0} (told : B → Option Entries) (m : CallMeaning C) (s : ℕ) where
  -- ---- refusals of a list's book

  -- a core with this book
  abbrev pub core_of : List (Entry C B) → ℕ → ℕ → CoreView C (Unit {0})
  core_of es n l = record { opening = tt; number = n; limit = l; base = tt; committed = None; book = book_of es; prepared = None; undrained = record { after = 0; waiting = [] } }

  begin_refused : (es : List (Entry C B)) (e : SessionError) (w : SessionRefusal) → Some e ≡ refused_begin (number_in es + begins (book_of es)) (limit_in es) (live_in (book_of es) s) → shown_why e ≡ Some w
      → IsRefusedBy told m s es doing.Begin w
  begin_refused es e w refused shown t n l opened run =
      sym (begin_same m t (core_of es n l) run s)
      ∙ ap (λ (k : ℕ). shown_of (refused_begin (k + begins (book_of es)) l (live_in (book_of es) s))) (sym opened.number)
      ∙ ap (λ (k : ℕ). shown_of (refused_begin (number_in es + begins (book_of es)) k (live_in (book_of es) s))) (sym opened.limit)
      ∙ ap shown_of (sym refused) ∙ shown

  pub call_refused : (es : List (Entry C B)) (c : C) (e : SessionError) (w : SessionRefusal) → Some e ≡ refused_call (live_in (book_of es) s) → shown_why e ≡ Some w → IsRefusedBy told m s es (doing.Call c) w
  call_refused es c e w refused shown t n l opened run = sym (call_same m t (core_of es n l) run s c) ∙ ap shown_of (sym refused) ∙ shown

  abort_refused : (es : List (Entry C B)) (e : SessionError) (w : SessionRefusal) → Some e ≡ refused_abort (live_in (book_of es) s) → shown_why e ≡ Some w → IsRefusedBy told m s es doing.Abort w
  abort_refused es e w refused shown t n l opened run = sym (abort_same m t (core_of es n l) run s) ∙ ap shown_of (sym refused) ∙ shown

  commit_is_refused : (es : List (Entry C B)) (e : SessionError) (w : SessionRefusal) → Some e ≡ refused_call (live_in (book_of es) s) → shown_why e ≡ Some w → IsRefusedBy told m s es doing.Commit w
  commit_is_refused es e w refused shown t n l opened run = commit_refused m t (core_of es n l) run s w (ap shown_of (sym refused) ∙ shown)

  limit_is_refused : (es : List (Entry C B)) → None ≡ refused_call (live_in (book_of es) s) → ((t : Tree) → OpensFrom told es t → IsPastLimitIn m (state_in m t es) s) → IsRefusedBy told m s es doing.Commit why.CommitLimit
  limit_is_refused es free past t n l opened run =
      let at = past t opened.tree in
      let here : IsPastLimitIn m (last m (start t n l) (book_of es)) s =
      subst (λ (k : ℕ). IsPastLimitIn m (last m (start t n k) (book_of es)) s) opened.limit (subst (λ (k : ℕ). IsPastLimitIn m (last m (start t k (limit_in es)) (book_of es)) s) opened.number at) in
      commit_allowed_by m t (core_of es n l) run s (sym free) true here

module _ {C B : Type 0} (told : B → Option Entries) (m : CallMeaning C) where
  -- ---- refusals and faults

  -- a line whose refusal is this one, if it is one
  pub refused_line : (p q : SessionView C B) (d : Doing C) (before : List (Entry C B)) (o : Option SessionRefusal) → has_number p.has p.under ≡ true → GoesOn number_of p.has p.seen before → q.seen ≡ before
      → ((w : SessionRefusal) → o ≡ Some w → IsRefusedBy told m p.under before d w) → Leaves told m p d q (refused_by o)
  refused_line p q d before None own g is refused = broken_same p.has p.under d own p.seen before q.seen g is
  refused_line p q d before (Some w) own g is refused = refused_part told m p.has p.under own p.seen before q.seen d w g is (refused w refl)

  -- ---- begin and abort

  pub begin_leaves : (p q : SessionView C B) (r : Result ℕ StoreError) → has_number p.has p.under ≡ true → HasDone p q (λ before after. HasBegun before p.under r after) → Leaves told m p doing.Begin q (as_number r)
  begin_leaves p q r own h = go r h.did
    where
      go : (r : Result ℕ StoreError) → HasBegun h.before p.under r q.seen → Leaves told m p doing.Begin q (as_number r)
      go (Ok k) did = entry_part told m p.has p.under own p.seen h.before q.seen doing.Begin (said.Number k) refl h.goes_on did.ok
      go (Err store_error.DiskFault) did = broken_same p.has p.under doing.Begin own p.seen h.before q.seen h.goes_on did.err
      go (Err store_error.NoMemory) did = broken_same p.has p.under doing.Begin own p.seen h.before q.seen h.goes_on did.err
      go (Err (store_error.Halted faults)) did = broken_same p.has p.under doing.Begin own p.seen h.before q.seen h.goes_on did.err
      go (Err (store_error.Session e)) did = refused_line p q doing.Begin h.before (shown_why e) own h.goes_on did.err (λ w shown. begin_refused told m p.under h.before e w did.refused shown)

  pub abort_leaves : (p q : SessionView C B) (r : Result (Unit {0}) StoreError) → has_number p.has p.under ≡ true → HasDone p q (λ before after. HasAborted before p.under r after) → Leaves told m p doing.Abort q (as_nothing r)
  abort_leaves p q r own h = go r h.did
    where
      go : (r : Result (Unit {0}) StoreError) → HasAborted h.before p.under r q.seen → Leaves told m p doing.Abort q (as_nothing r)
      go (Ok x) did = entry_part told m p.has p.under own p.seen h.before q.seen doing.Abort said.Nothing refl h.goes_on did.ok
      go (Err store_error.DiskFault) did = broken_same p.has p.under doing.Abort own p.seen h.before q.seen h.goes_on did.err
      go (Err store_error.NoMemory) did = broken_same p.has p.under doing.Abort own p.seen h.before q.seen h.goes_on did.err
      go (Err (store_error.Halted faults)) did = broken_same p.has p.under doing.Abort own p.seen h.before q.seen h.goes_on did.err
      go (Err (store_error.Session e)) did = refused_line p q doing.Abort h.before (shown_why e) own h.goes_on did.err (λ w shown. abort_refused told m p.under h.before e w did.refused shown)

  -- ---- a commit

  commit_refused_so : (p q : SessionView C B) (before : List (Entry C B)) (e : SessionError) → has_number p.has p.under ≡ true → GoesOn number_of p.has p.seen before → q.seen ≡ before
      → commit_refusal_in (store_error.Session e) ≡ refused_call (live_in (book_of before) p.under)
      → (e ≡ session_error.CommitLimit → (t : Tree) → OpensFrom told before t → IsPastLimitIn m (state_in m t before) p.under) → Leaves told m p doing.Commit q (refused_by (shown_why e))
  commit_refused_so p q before session_error.IsWaiting own g is refused past = refused_line p q doing.Commit before (shown_why session_error.IsWaiting) own g is (λ w shown. commit_is_refused told m p.under before session_error.IsWaiting w refused shown)
  commit_refused_so p q before session_error.InTransaction own g is refused past = refused_line p q doing.Commit before (shown_why session_error.InTransaction) own g is (λ w shown. commit_is_refused told m p.under before session_error.InTransaction w refused shown)
  commit_refused_so p q before session_error.NoTransaction own g is refused past = refused_line p q doing.Commit before (shown_why session_error.NoTransaction) own g is (λ w shown. commit_is_refused told m p.under before session_error.NoTransaction w refused shown)
  commit_refused_so p q before session_error.TxLimit own g is refused past = refused_line p q doing.Commit before (shown_why session_error.TxLimit) own g is (λ w shown. commit_is_refused told m p.under before session_error.TxLimit w refused shown)
  commit_refused_so p q before session_error.CommitLimit own g is refused past = refused_part told m p.has p.under own p.seen before q.seen doing.Commit why.CommitLimit g is (limit_is_refused told m p.under before refused (past refl))
  commit_refused_so p q before session_error.NoMemory own g is refused past = broken_same p.has p.under doing.Commit own p.seen before q.seen g is

  -- it isn't visible
  pub commit_stays : (p q : SessionView C B) (e : StoreError) → has_number p.has p.under ≡ true → HasDone p q (λ before after. HasCommitted told m before p.under (Err e) after) → Leaves told m p doing.Commit q (as_number (Err e))
  commit_stays p q e own h = go e h.did
    where
      go : (e : StoreError) → HasCommitted told m h.before p.under (Err e) q.seen → Leaves told m p doing.Commit q (as_number (Err e))
      go store_error.DiskFault did = broken_same p.has p.under doing.Commit own p.seen h.before q.seen h.goes_on did.err
      go store_error.NoMemory did = broken_same p.has p.under doing.Commit own p.seen h.before q.seen h.goes_on did.err
      go (store_error.Halted faults) did = broken_same p.has p.under doing.Commit own p.seen h.before q.seen h.goes_on did.err
      go (store_error.Session e) did = commit_refused_so p q h.before e own h.goes_on did.err did.refused (λ is. did.limit (ap (λ (x : SessionError). Err (store_error.Session x)) is))

  module _ (p q : SessionView C B) (number : ℕ) (own : has_number p.has p.under ≡ true) (h : HasDone p q (λ before after. HasCommitted told m before p.under (Ok number) after)) where
    -- it is answered
    pub commit_made : Leaves told m p doing.Commit q (as_number (Ok number))
    commit_made = entry_part told m p.has p.under own p.seen h.before q.seen doing.Commit (said.Number number) refl h.goes_on h.did.ok

    -- it is visible, but isn't answered
    pub commit_broken : HasBroken p.has p.under doing.Commit p.seen q.seen
    commit_broken =
        let by = breaks_by_attempt p.has p.under doing.Commit false event.Commit (said.Number number) h.before q.seen refl h.did.ok in
        is_broken p.has p.under doing.Commit p.seen q.seen (breaks_behind p.has p.under doing.Commit own false p.seen h.before q.seen h.goes_on by)
