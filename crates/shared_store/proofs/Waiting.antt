-- A call that waits: what other sessions do leaves it, and how it is answered in the end.
use Rattle.std.proofs.Common.{◌≡◌, ◌≢◌, inl, inr, ℕ, zero, suc, Bool, true, false, List, [], ◌∷◌, ◌++◌, refl, sym, ap, subst, ◌∙◌, true≢false}
use Rattle.std.specs.Prelude.{Option, Some, None, Result, Ok, Err, IfOk, OnOk}
use Rattle.std.proofs.lemmas.List.{append_assoc, append-nil}
use Rattle.tree_model.specs.Entries.{Entries}
use Rattle.call_contract.specs.Books.{called, called_again, entry, open_after, open_of}
use Rattle.call_contract.specs.Calls.{CallMeaning}
use Rattle.call_contract.specs.Sessions.{live_after, live_in}
use Rattle.call_contract.specs.States.{Live, Waiting, of_session, put}
use Rattle.call_contract.specs.Steps.{new_live}
use Rattle.lock_resources.specs.Intentions.{request}
use Rattle.call_contract.specs.declared.events.Answer.{Answer}
use Rattle.call_contract.specs.declared.events.Answer.TheVariants as answer
use Rattle.call_contract.specs.declared.events.Event.{Event}
use Rattle.call_contract.specs.declared.events.Event.TheVariants as event
use Rattle.call_contract.specs.declared.events.EventAnswer.{EventAnswer}
use Rattle.call_contract.specs.declared.events.EventAnswer.TheVariants as said
use Rattle.call_contract.specs.declared.events.Noted.{Noted}
use Rattle.call_contract.proofs.Appends.{live_append}
use Rattle.call_contract.proofs.Lists.{found_ended, found_named, found_others, found_put, found_put_other}
use Rattle.tx_core.specs.Cores.{waits_in}
use Rattle.tx_core.specs.Refusals.{refused_abort, refused_call}
use Rattle.tx_core.specs.Retries.{IsNotedRetry}
use Rattle.turn_lock.specs.Turns.{AreForeign, GoesOn, has_number}
use Rattle.shared_store.specs.Calls.{HasAborted, HasCommitted, HasTried, HasTriedAgain, IsGivenUp, IsLeft, refusal_in, shown_refusal, with_noted, with_retry}
use Rattle.shared_store.specs.Lists.{book_of, number_of}
use Rattle.shared_store.specs.Sessions.{HasDone, having_seen, SessionView}
use Rattle.shared_store.specs.Waits.{answer_of, as_first, as_later, EndsWith, HasCalled, HasCalledAgain, HasWaited, HaveWaited, is_wait}
use Rattle.shared_store.specs.declared.desk.Entry.{Entry}
use Rattle.shared_store.specs.declared.desk.Entry.TheVariants as kind
use Rattle.shared_store.specs.declared.ended.Ended.{Ended}
use Rattle.shared_store.specs.declared.ended.Ended.TheVariants as ended
use Rattle.shared_store.specs.declared.errors.StoreError.{StoreError}
use Rattle.shared_store.specs.declared.errors.StoreError.TheVariants as store_error
use Rattle.shared_store.specs.inside.Ends.{first_by, later_by}
use Rattle.shared_store.proofs.Done.{book_append}

is_some_same : {A : Type 0} (x y : A) → Some x ≡ Some y → x ≡ y
is_some_same x y e = ap (λ o. value_or x o) e
  where
    value_or : {A : Type 0} → A → Option A → A
    value_or d None = d
    value_or d (Some z) = z

none_is_some : {A T : Type 0} {x : A} → ◌≡◌ {A = Option A} None (Some x) → T
none_is_some e = cc

-- ---- what the entries of others leave

module _ {C : Type 0} where
  called_other : (s : ℕ) (ts : List (Live C)) (t : Live C) (c : C) (a : EventAnswer) → s ≢ t.session → of_session s (called t c a ts) ≡ of_session s ts
  called_other s ts t c (said.Call (answer.Answered r)) ne = found_put_other s (record t { calls = t.calls ++ record { call = c; reply = r } ∷ []; waits = None }) ts ne
  called_other s ts t c (said.Call (answer.Waits r a holders)) ne = found_put_other s (record t { waits = Some (record { call = c; request = request r a }) }) ts ne
  called_other s ts t c (said.Call (answer.Deadlock cycle)) ne = found_others t.session s ts ne
  called_other s ts t c said.Nothing ne = refl
  called_other s ts t c (said.Number k) ne = refl

  called_again_other : (s : ℕ) (ts : List (Live C)) (t : Live C) (w : Option (Waiting C)) (a : EventAnswer) → s ≢ t.session → of_session s (called_again t w a ts) ≡ of_session s ts
  called_again_other s ts t None a ne = refl
  called_again_other s ts t (Some w) a ne = called_other s ts t w.call a ne

  open_other : (s u : ℕ) (ts : List (Live C)) (o : Option (Live C)) (e : Event C) (a : EventAnswer) → of_session u ts ≡ o → s ≢ u → of_session s (open_of u o e a ts) ≡ of_session s ts
  open_other s u ts None event.Begin a is ne = found_put_other s (new_live u _) ts ne
  open_other s u ts None (event.Call c) a is ne = refl
  open_other s u ts None event.Retry a is ne = refl
  open_other s u ts None (event.Fail c k f) a is ne = refl
  open_other s u ts None event.Commit a is ne = refl
  open_other s u ts None event.Abort a is ne = refl
  open_other s u ts (Some t) event.Begin a is ne = refl
  open_other s u ts (Some t) (event.Call c) a is ne = called_other s ts t c a (λ e. ne (e ∙ found_named u ts t is))
  open_other s u ts (Some t) event.Retry a is ne = called_again_other s ts t t.waits a (λ e. ne (e ∙ found_named u ts t is))
  open_other s u ts (Some t) (event.Fail c k f) a is ne = found_put_other s (record t { waits = None }) ts (λ e. ne (e ∙ found_named u ts t is))
  open_other s u ts (Some t) event.Commit a is ne = found_others u s ts ne
  open_other s u ts (Some t) event.Abort a is ne = found_others u s ts ne

  -- a call that has to wait leaves its transaction waiting
  called_waits : (s : ℕ) (ts : List (Live C)) (t : Live C) (c : C) (a : Answer) → of_session s ts ≡ Some t → is_wait a ≡ true → waits_in (of_session s (called t c (said.Call a) ts)) ≡ true
  called_waits s ts t c (answer.Answered r) is w = absurd (true≢false (sym w))
  called_waits s ts t c (answer.Waits r a holders) is w =
      let u : Live C = record t { waits = Some (record { call = c; request = request r a }) } in
      ap waits_in (subst (λ (k : ℕ). of_session k (put u ts) ≡ Some u) (found_named s ts t is) (found_put u ts))
  called_waits s ts t c (answer.Deadlock cycle) is w = absurd (true≢false (sym w))

  called_again_waits : (s : ℕ) (ts : List (Live C)) (t : Live C) (w : Option (Waiting C)) (a : Answer) → of_session s ts ≡ Some t → waits_in (Some (record t { waits = w })) ≡ true → is_wait a ≡ true
      → waits_in (of_session s (called_again t w (said.Call a) ts)) ≡ true
  called_again_waits s ts t None a is some wait = absurd (true≢false (sym some))
  called_again_waits s ts t (Some w) a is some wait = called_waits s ts t w.call a is wait

  first_waits : (s : ℕ) (ts : List (Live C)) (o : Option (Live C)) (c : C) (a : Answer) → of_session s ts ≡ o → None ≡ refused_call o → is_wait a ≡ true
      → waits_in (of_session s (open_of s o (event.Call c) (said.Call a) ts)) ≡ true
  first_waits s ts None c a is free wait = none_is_some free
  first_waits s ts (Some t) c a is free wait = called_waits s ts t c a is wait

  later_waits : (s : ℕ) (ts : List (Live C)) (o : Option (Live C)) (a : Answer) → of_session s ts ≡ o → waits_in o ≡ true → is_wait a ≡ true
      → waits_in (of_session s (open_of s o event.Retry (said.Call a) ts)) ≡ true
  later_waits s ts None a is waits wait = absurd (true≢false (sym waits))
  later_waits s ts (Some t) a is waits wait = called_again_waits s ts t t.waits a is waits wait

  -- an end leaves none
  end_leaves_none : (s : ℕ) (ts : List (Live C)) (o : Option (Live C)) → of_session s ts ≡ o → of_session s (open_of s o event.Abort said.Nothing ts) ≡ None
  end_leaves_none s ts None is = is
  end_leaves_none s ts (Some t) is = found_ended s ts

  commit_leaves_none : (s : ℕ) (ts : List (Live C)) (o : Option (Live C)) (k : ℕ) → of_session s ts ≡ o → of_session s (open_of s o event.Commit (said.Number k) ts) ≡ None
  commit_leaves_none s ts None k is = is
  commit_leaves_none s ts (Some t) k is = found_ended s ts

module _ {C B : Type 0} where
  foreign_after : (has : List Bool) (s : ℕ) → has_number has s ≡ true → (ts : List (Live C)) (es : List (Entry C B)) → AreForeign number_of has es → of_session s (live_after ts (book_of es)) ≡ of_session s ts
  foreign_after has s own ts [] f = refl
  foreign_after has s own ts (kind.Opening o n l b d ∷ es) f = foreign_after has s own ts es f.1
  foreign_after has s own ts (kind.Noted n ∷ es) f =
      foreign_after has s own (open_after ts n) es f.1 ∙ open_other s n.session ts (of_session n.session ts) n.event n.answer refl (λ e. true≢false (sym own ∙ (ap (has_number has) e ∙ f.0)))
  foreign_after has s own ts (kind.Drained k ∷ es) f = foreign_after has s own ts es f.1

  -- what others add leaves the session's transaction
  pub live_goes_on : (has : List Bool) (s : ℕ) (seen list : List (Entry C B)) → has_number has s ≡ true → GoesOn number_of has seen list → live_in (book_of list) s ≡ live_in (book_of seen) s
  live_goes_on has s seen list own g =
      ap (λ es. live_in (book_of es) s) g.1
      ∙ (ap (λ b. live_in b s) (book_append seen g.0) ∙ (ap (of_session s) (live_append [] (book_of seen) (book_of g.0)) ∙ foreign_after has s own (live_after [] (book_of seen)) g.0 g.2))

  live_noted : (es : List (Entry C B)) (n : Noted C) → live_after [] (book_of (with_noted es n)) ≡ open_after (live_after [] (book_of es)) n
  live_noted es n = ap (live_after []) (book_append es (kind.Noted n ∷ [])) ∙ live_append [] (book_of es) (n ∷ [])

  -- the session's transaction after a further entry of it
  live_next : (es after : List (Entry C B)) (s : ℕ) (e : Event C) (a : EventAnswer) → after ≡ with_noted es (entry s e a)
      → live_in (book_of after) s ≡ of_session s (open_of s (live_in (book_of es) s) e a (live_after [] (book_of es)))
  live_next es after s e a is = ap (λ (x : List (Entry C B)). live_in (book_of x) s) is ∙ ap (of_session s) (live_noted es (entry s e a))

  -- ---- calls that wait

  pub waits_first : (count : B → ℕ) (before after : List (Entry C B)) (s : ℕ) (call : C) (a : Answer) → is_wait a ≡ true → HasTried count before s call (Ok a) after → waits_in (live_in (book_of after) s) ≡ true
  waits_first count before after s call a wait h =
      ap waits_in (live_next before after s (event.Call call) (said.Call a) h.ok)
      ∙ first_waits s (live_after [] (book_of before)) (live_in (book_of before) s) call a refl h.refused wait

  waits_noted : (found after : List (Entry C B)) (s : ℕ) (a : Answer) (b : Bool) → is_wait a ≡ true → waits_in (live_in (book_of found) s) ≡ true → after ≡ with_retry found s a b → waits_in (live_in (book_of after) s) ≡ true
  waits_noted found after s a true wait waits is =
      ap waits_in (live_next found after s event.Retry (said.Call a) is)
      ∙ later_waits s (live_after [] (book_of found)) (live_in (book_of found) s) a refl waits wait
  waits_noted found after s a false wait waits is = ap (λ (x : List (Entry C B)). waits_in (live_in (book_of x) s)) is ∙ waits

  module _ (count : B → ℕ) (told : B → Option Entries) (m : CallMeaning C) where
    pub waits_later : (found after : List (Entry C B)) (s : ℕ) (a : Answer) → is_wait a ≡ true → HasTriedAgain count told m found s (Ok (Some a)) after → waits_in (live_in (book_of after) s) ≡ true
    waits_later found after s a wait h = waits_noted found after s a h.ok.1.noted wait h.ok.0 h.ok.1.list

    -- one that waits is tried
    pub is_tried : (found after : List (Entry C B)) (s : ℕ) (r : Result (Option Answer) StoreError) → waits_in (live_in (book_of found) s) ≡ true → HasTriedAgain count told m found s r after → r ≢ Ok None
    is_tried found after s (Ok None) waits h e = true≢false (sym waits ∙ h.ok.0)
    is_tried found after s (Ok (Some a)) waits h e = cc
    is_tried found after s (Err why) waits h e = cc

-- ---- the answers of attempts and the ends of calls

pub first_is : (tried : Result Answer StoreError) (result : Result Ended StoreError) → first_by tried ≡ Some result → tried ≡ as_first result
first_is (Ok (answer.Answered r)) result e = ap as_first (is_some_same (Ok (ended.Answered r)) result e)
first_is (Ok (answer.Waits r a holders)) result e = none_is_some e
first_is (Ok (answer.Deadlock cycle)) result e = ap as_first (is_some_same (Ok (ended.Deadlock cycle)) result e)
first_is (Err why) result e = ap as_first (is_some_same (Err why) result e)

pub later_is : (tried : Result (Option Answer) StoreError) (result : Result Ended StoreError) → later_by tried ≡ Some result → tried ≡ as_later result
later_is (Ok None) result e = none_is_some e
later_is (Ok (Some (answer.Answered r))) result e = ap as_later (is_some_same (Ok (ended.Answered r)) result e)
later_is (Ok (Some (answer.Waits r a holders))) result e = none_is_some e
later_is (Ok (Some (answer.Deadlock cycle))) result e = ap as_later (is_some_same (Ok (ended.Deadlock cycle)) result e)
later_is (Err why) result e = ap as_later (is_some_same (Err why) result e)

pub first_none : (tried : Result Answer StoreError) → first_by tried ≡ None → (a : Answer) × (tried ≡ Ok a) × (is_wait a ≡ true)
first_none (Ok (answer.Answered r)) e = none_is_some (sym e)
first_none (Ok (answer.Waits r a holders)) e = (answer.Waits r a holders, refl, refl)
first_none (Ok (answer.Deadlock cycle)) e = none_is_some (sym e)
first_none (Err why) e = none_is_some (sym e)

pub later_none : (tried : Result (Option Answer) StoreError) → tried ≢ Ok None → later_by tried ≡ None → (a : Answer) × (tried ≡ Ok (Some a)) × (is_wait a ≡ true)
later_none (Ok None) some e = absurd (some refl)
later_none (Ok (Some (answer.Answered r))) some e = none_is_some (sym e)
later_none (Ok (Some (answer.Waits r a holders))) some e = (answer.Waits r a holders, refl, refl)
later_none (Ok (Some (answer.Deadlock cycle))) some e = none_is_some (sym e)
later_none (Err why) some e = none_is_some (sym e)

first_refused : (r : Result Ended StoreError) → shown_refusal r ≡ shown_refusal (as_first r)
first_refused (Ok e) = refl
first_refused (Err why) = refl

module _ {C B : Type 0} where
  abbrev pub Grown : List (Entry C B) → List (Entry C B) → Type 0
  Grown before after = (added : List (Entry C B)) × (after ≡ before ++ added)

  pub as_it_was : (before after : List (Entry C B)) → after ≡ before → Grown before after
  as_it_was before after is = ([], is ∙ sym (append-nil before))

  pub grown_on : (a b c : List (Entry C B)) → Grown a b → Grown b c → Grown a c
  grown_on a b c p q = (p.0 ++ q.0, q.1 ∙ (ap (λ (x : List (Entry C B)). x ++ q.0) p.1 ∙ append_assoc a p.0 q.0))

  module _ (count : B → ℕ) where
    grown_left : (before after : List (Entry C B)) (s : ℕ) (call : C) (e : StoreError) → IsLeft count before s call e after → Grown before after
    grown_left before after s call (store_error.Session why) is = as_it_was before after is
    grown_left before after s call store_error.NoMemory (inl is) = as_it_was before after is
    grown_left before after s call store_error.NoMemory (inr is) = (_, is.2)
    grown_left before after s call store_error.DiskFault is = (_, is.2)
    grown_left before after s call (store_error.Halted faults) is = absurd is

    pub grown_first : (before after : List (Entry C B)) (s : ℕ) (call : C) (r : Result Answer StoreError) → HasTried count before s call r after → Grown before after
    grown_first before after s call (Ok a) h = (_, h.ok)
    grown_first before after s call (Err e) h = grown_left before after s call e h.err

    grown_given_up : (before after : List (Entry C B)) (s : ℕ) (e : StoreError) → IsGivenUp count before s e after → Grown before after
    grown_given_up before after s (store_error.Session why) is = absurd is
    grown_given_up before after s store_error.NoMemory is = (_, is.1)
    grown_given_up before after s store_error.DiskFault is = (_, is.2)
    grown_given_up before after s (store_error.Halted faults) is = absurd is

    module _ (told : B → Option Entries) (m : CallMeaning C) where
      grown_retry : (found after : List (Entry C B)) (s : ℕ) (a : Answer) (b : Bool) → after ≡ with_retry found s a b → Grown found after
      grown_retry found after s a true is = (_, is)
      grown_retry found after s a false is = as_it_was found after is

      pub grown_later : (found after : List (Entry C B)) (s : ℕ) (r : Result (Option Answer) StoreError) → HasTriedAgain count told m found s r after → Grown found after
      grown_later found after s (Ok None) h = as_it_was found after h.ok.1
      grown_later found after s (Ok (Some a)) h = grown_retry found after s a h.ok.1.noted h.ok.1.list
      grown_later found after s (Err e) h = grown_given_up found after s e h.err

      module _ (has : List Bool) where
        grown_waiting : (from : List (Entry C B)) (s n : ℕ) (mid : List (Entry C B)) → HaveWaited count told m has from s n mid → Grown from mid
        grown_waiting from s zero mid h = as_it_was from mid h
        grown_waiting from s (suc n) after (mid, found, a, h, g, wait, tried) =
            grown_on from mid after (grown_waiting from s n mid h) (grown_on mid found after (g.0, g.1) (grown_later found after s (Ok (Some a)) tried))

        grown_again : (from : List (Entry C B)) (s : ℕ) (r : Result Ended StoreError) (after : List (Entry C B)) → HasCalledAgain count told m has from s r after → Grown from after
        grown_again from s r after h =
            grown_on from h.mid after (grown_waiting from s h.waits h.mid h.waited) (grown_on h.mid h.found after (h.goes_on.0, h.goes_on.1) (grown_later h.found after s (as_later r) h.last))

        -- the answer of an attempt that ends its call is an entry
        answered_first : (before after : List (Entry C B)) (s : ℕ) (call : C) (r : Result Ended StoreError) → HasTried count before s call (as_first r) after → IfOk r (λ e. EndsWith s call (answer_of e) after)
        answered_first before after s call (Ok e) h = record { front = before; attempt = event.Call call; of_call = inl refl; list = h.ok }
        answered_first before after s call (Err why) h = tt

        is_noted : (e : Ended) (b : Bool) → IsNotedRetry (answer_of e) b → b ≡ true
        is_noted (ended.Answered r) b is = is
        is_noted (ended.Deadlock cycle) b is = is

        answered_later : (found after : List (Entry C B)) (s : ℕ) (call : C) (r : Result Ended StoreError) → HasTriedAgain count told m found s (as_later r) after → IfOk r (λ e. EndsWith s call (answer_of e) after)
        answered_later found after s call (Ok e) h = record {
          front = found;
          attempt = event.Retry;
          of_call = inr refl;
          list = h.ok.1.list ∙ ap (with_retry found s (answer_of e)) (is_noted e h.ok.1.noted h.ok.1.may_be);
        }
        answered_later found after s call (Err why) h = tt

        not_refused : (found after : List (Entry C B)) (s : ℕ) (r : Result Ended StoreError) → HasTriedAgain count told m found s (as_later r) after → shown_refusal r ≡ None
        not_refused found after s (Ok e) h = refl
        not_refused found after s (Err (store_error.Session why)) h = absurd h.err
        not_refused found after s (Err store_error.DiskFault) h = refl
        not_refused found after s (Err store_error.NoMemory) h = refl
        not_refused found after s (Err (store_error.Halted faults)) h = refl

        -- a call that ended at its first attempt
        pub called_once : (before after : List (Entry C B)) (s : ℕ) (call : C) (r : Result Ended StoreError) → HasTried count before s call (as_first r) after → HasCalled count told m has before s call r after
        called_once before after s call r h = record {
          steps = inl h;
          answered = answered_first before after s call r h;
          refused = first_refused r ∙ h.refused;
          grown = grown_first before after s call (as_first r) h;
        }

        -- a call that had to wait
        pub called_late : (before after : List (Entry C B)) (s : ℕ) (call : C) (r : Result Ended StoreError) → HasWaited count told m has before s call r after → HasCalled count told m has before s call r after
        called_late before after s call r h = record {
          steps = inr h;
          answered = answered_later h.again.found after s call r h.again.last;
          refused = not_refused h.again.found after s r h.again.last ∙ h.tried.refused;
          grown = grown_on before h.waiting after (grown_first before h.waiting s call (Ok h.given) h.tried) (grown_again h.waiting s r after h.again);
        }

  -- ---- sessions

  module _ (count : B → ℕ) (told : B → Option Entries) (m : CallMeaning C) where
    pub call_waits : (p y : SessionView C B) (call : C) (r : Result Answer StoreError) → first_by r ≡ None → HasDone p y (λ before after. HasTried count before p.under call r after)
        → waits_in (live_in (book_of y.seen) y.under) ≡ true
    call_waits p y call r none h =
        let n = first_none r none in
        ap (λ (v : SessionView C B). waits_in (live_in (book_of y.seen) v.under)) h.same
        ∙ waits_first count h.before y.seen p.under call n.0 n.2 (subst (λ x. HasTried count h.before p.under call x y.seen) n.1 h.did)

    pub call_at_once : (p y : SessionView C B) (call : C) (r : Result Answer StoreError) (result : Result Ended StoreError) → first_by r ≡ Some result → HasDone p y (λ before after. HasTried count before p.under call r after)
        → HasDone p y (λ before after. HasCalled count told m p.has before p.under call result after)
    call_at_once p y call r result some h = record {
      same = h.same;
      before = h.before;
      goes_on = h.goes_on;
      did = called_once count told m p.has h.before y.seen p.under call result (subst (λ x. HasTried count h.before p.under call x y.seen) (first_is r result some) h.did);
    }

    pub call_later : (p y z : SessionView C B) (call : C) (r : Result Answer StoreError) (result : Result Ended StoreError) → first_by r ≡ None → HasDone p y (λ before after. HasTried count before p.under call r after)
        → z ≡ having_seen z.seen y → HasCalledAgain count told m y.has y.seen y.under result z.seen → HasDone p z (λ before after. HasCalled count told m p.has before p.under call result after)
    call_later p y z call r result none h same again =
        let n = first_none r none in
        record {
          same = same ∙ ap (having_seen z.seen) h.same;
          before = h.before;
          goes_on = h.goes_on;
          did = called_late count told m p.has h.before z.seen p.under call result (record {
            given = n.0;
            waits = n.2;
            waiting = y.seen;
            tried = subst (λ x. HasTried count h.before p.under call x y.seen) n.1 h.did;
            again = subst (λ (v : SessionView C B). HasCalledAgain count told m v.has y.seen v.under result z.seen) h.same again;
          });
        }

    -- a retry by a session y, which is x, which is p but for what it has seen
    module _ (p x y z : SessionView C B) (r : Result (Option Answer) StoreError) (own : has_number y.has y.under ≡ true) (same : y ≡ x) (is : x ≡ having_seen x.seen p)
        (waits : waits_in (live_in (book_of x.seen) p.under) ≡ true) (h : HasDone y z (λ before after. HasTriedAgain count told m before y.under r after)) where
      at_p : HasDone (having_seen x.seen p) z (λ before after. HasTriedAgain count told m before p.under r after)
      at_p = subst (λ (v : SessionView C B). HasDone v z (λ before after. HasTriedAgain count told m before v.under r after)) (same ∙ is) h

      pub retry_is_some : r ≢ Ok None
      retry_is_some =
          let own_p : has_number p.has p.under ≡ true = subst (λ (v : SessionView C B). has_number v.has v.under ≡ true) (same ∙ is) own in
          is_tried count told m at_p.before z.seen p.under r (ap waits_in (live_goes_on p.has p.under x.seen at_p.before own_p at_p.goes_on) ∙ waits) at_p.did

      pub again_ended : (n : ℕ) (result : Result Ended StoreError) → later_by r ≡ Some result → HaveWaited count told m p.has p.seen p.under n x.seen → HasCalledAgain count told m p.has p.seen p.under result z.seen
      again_ended n result some waited = record {
        waits = n;
        mid = x.seen;
        waited = waited;
        found = at_p.before;
        goes_on = at_p.goes_on;
        last = subst (λ o. HasTriedAgain count told m at_p.before p.under o z.seen) (later_is r result some) at_p.did;
      }

      pub again_waits : (n : ℕ) → later_by r ≡ None → HaveWaited count told m p.has p.seen p.under n x.seen
          → (z ≡ having_seen z.seen p) × (waits_in (live_in (book_of z.seen) p.under) ≡ true) × ((k : ℕ) × HaveWaited count told m p.has p.seen p.under k z.seen)
      again_waits n none waited =
          let a = later_none r retry_is_some none in
          let tried = subst (λ o. HasTriedAgain count told m at_p.before p.under o z.seen) a.1 at_p.did in (
            at_p.same,
            waits_later count told m at_p.before z.seen p.under a.0 a.2 tried,
            (suc n, (x.seen, at_p.before, a.0, waited, at_p.goes_on, a.2, tried)),
          )

  -- ---- ends

  aborted_none : (before after : List (Entry C B)) (s : ℕ) (r : Result (Unit {0}) StoreError) → HasAborted before s r after → live_in (book_of after) s ≡ None
  aborted_none before after s (Ok x) h = live_next before after s event.Abort said.Nothing h.ok ∙ end_leaves_none s (live_after [] (book_of before)) (live_in (book_of before) s) refl
  aborted_none before after s (Err e) h =
      ap (λ (x : List (Entry C B)). live_in (book_of x) s) h.err ∙ none (live_in (book_of before) s) (sym (ap refusal_in h.shown.1) ∙ h.refused)
    where
      none : (o : Option (Live C)) → Some h.shown.0 ≡ refused_abort o → o ≡ None
      none None is = refl
      none (Some t) is = none_is_some (sym is)

  pub aborted_ended : (p q : SessionView C B) (r : Result (Unit {0}) StoreError) → HasDone p q (λ before after. HasAborted before p.under r after) → live_in (book_of q.seen) q.under ≡ None
  aborted_ended p q r h = ap (λ (x : SessionView C B). live_in (book_of q.seen) x.under) h.same ∙ aborted_none h.before q.seen p.under r h.did

  committed_none : (told : B → Option Entries) (m : CallMeaning C) (before after : List (Entry C B)) (s : ℕ) (r : Result ℕ StoreError) → HasCommitted told m before s r after → OnOk r (live_in (book_of after) s ≡ None)
  committed_none told m before after s (Ok k) h = live_next before after s event.Commit (said.Number k) h.ok ∙ commit_leaves_none s (live_after [] (book_of before)) (live_in (book_of before) s) k refl
  committed_none told m before after s (Err e) h = tt

  pub committed_ended : (told : B → Option Entries) (m : CallMeaning C) (p q : SessionView C B) (r : Result ℕ StoreError) → HasDone p q (λ before after. HasCommitted told m before p.under r after)
      → OnOk r (live_in (book_of q.seen) q.under ≡ None)
  committed_ended told m p q r h = subst (λ (x : SessionView C B). OnOk r (live_in (book_of q.seen) x.under ≡ None)) (sym h.same) (committed_none told m h.before q.seen p.under r h.did)
