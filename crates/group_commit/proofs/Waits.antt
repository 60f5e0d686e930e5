-- A call that waited: its retries among the entries of others, up to its answer.
use Rattle.std.proofs.Common.{◌≡◌, ◌∙◌, ◌⊎◌, ℕ, zero, suc, Bool, true, false, refl, sym, ap, subst, List, [], ◌∷◌, ◌++◌, inl, inr}
use Rattle.std.specs.Prelude.{Option, Some, None, Result, Ok, Err}
use Rattle.tree_model.specs.Entries.{Entries}
use Rattle.tree_model.specs.Tree.{Tree}
use Rattle.call_contract.specs.Books.{Book, IsRun, entry, last, next}
use Rattle.call_contract.specs.Calls.{CallMeaning}
use Rattle.call_contract.specs.States.{State, start}
use Rattle.call_contract.specs.declared.events.Answer.{Answer}
use Rattle.call_contract.specs.declared.events.Answer.TheVariants as answer
use Rattle.call_contract.specs.declared.events.Event.TheVariants as event
use Rattle.call_contract.specs.declared.events.EventAnswer.TheVariants as said
use Rattle.call_contract.proofs.Appends.{last_append}
use Rattle.command_lines.specs.declared.line_reply.LineAnswer.{LineAnswer}
use Rattle.command_lines.specs.declared.line_reply.LineReply.{LineReply}
use Rattle.command_lines.specs.declared.line_reply.LineReply.TheVariants.{Said}
use Rattle.session_driver.specs.Driving.{shown_why}
use Rattle.session_driver.specs.Progress.{line_of, shown}
use Rattle.session_driver.specs.declared.doing.Doing.TheVariants as doing
use Rattle.tx_core.specs.Retries.{IsNotedRetry}
use Rattle.tx_core.specs.declared.errors.SessionError.{SessionError}
use Rattle.turn_lock.specs.Turns.{GoesOn, has_number}
use Rattle.shared_store.specs.Calls.{HasTried, HasTriedAgain, IsGivenUp, IsLeft, with_retry}
use Rattle.shared_store.specs.Lists.{book_of, number_of}
use Rattle.shared_store.specs.Sessions.{HasDone, SessionView}
use Rattle.shared_store.specs.Waits as store_waits
use Rattle.shared_store.specs.Waits.{HasCalled, HasCalledAgain, HasWaited, HaveWaited, answer_of, as_first, as_later}
use Rattle.shared_store.specs.declared.desk.Entry.{Entry}
use Rattle.shared_store.specs.declared.desk.Entry.TheVariants as kind
use Rattle.shared_store.specs.declared.ended.Ended.{Ended}
use Rattle.shared_store.specs.declared.ended.Ended.TheVariants as ended
use Rattle.shared_store.specs.declared.errors.StoreError.{StoreError}
use Rattle.shared_store.specs.declared.errors.StoreError.TheVariants as store_error
use Rattle.shared_store.proofs.Done.{book_append}
use Rattle.session_driver.specs.Sessions.{AreOthers, IsReplyOr, Meets, Part, Printed, Retries, is_wait}
use Rattle.group_commit.specs.StorePorts.{GrewFor, HasBroken, HasPart, IsOpenedOver}
use Rattle.group_commit.specs.inside.Answering.{Leaves, as_ended, ended_as}
use Rattle.group_commit.specs.inside.PortLaws.{book_grew, grew_on, opened_on}
use Rattle.group_commit.proofs.Broken.{BreaksOn, breaks_behind, breaks_behind_wait, breaks_by_failure, breaks_nothing, is_broken}
use Rattle.group_commit.proofs.Calls.{call_refused, refused_line}
use Rattle.group_commit.proofs.Lines.{behind_others, entry_part, grew_by_one, grew_by_others, others_in, same_number}

-- ---- answers

event_waits : (a : Answer) → store_waits.is_wait a ≡ true → is_wait (said.Call a) ≡ true
event_waits (answer.Waits r q hs) w = refl
event_waits (answer.Answered r) w = w
event_waits (answer.Deadlock cycle) w = w

retry_is_noted : (e : Ended) (b : Bool) → IsNotedRetry (answer_of e) b → b ≡ true
retry_is_noted (ended.Answered r) b n = n
retry_is_noted (ended.Deadlock cycle) b n = n

end_is_no_wait : (e : Ended) → is_wait (said.Call (answer_of e)) ≡ false
end_is_no_wait (ended.Answered r) = refl
end_is_no_wait (ended.Deadlock cycle) = refl

end_is_shown : (e : Ended) → shown (said.Call (answer_of e)) ≡ ended_as e
end_is_shown (ended.Answered r) = refl
end_is_shown (ended.Deadlock cycle) = refl

module _ {C B : Type 0} (count : B → ℕ) (told : B → Option Entries) (m : CallMeaning C) (has : List Bool) (s : ℕ) where
  -- ---- a call that met a fault

  module _ (own : has_number has s ≡ true) (call : C) where
    abbrev Breaking : Bool → List (Entry C B) → List (Entry C B) → Type 0
    Breaking waits from to = BreaksOn has s (doing.Call call) waits from to

    nothing_broken : (waits : Bool) (from to : List (Entry C B)) → to ≡ from → Breaking waits from to
    nothing_broken waits from to is = breaks_nothing has s (doing.Call call) waits from to is

    tried_breaks : (before after : List (Entry C B)) (e : StoreError) → IsLeft count before s call e after → Breaking false before after
    tried_breaks before after (store_error.Session e) is = nothing_broken false before after is
    tried_breaks before after store_error.NoMemory (inl is) = nothing_broken false before after is
    tried_breaks before after store_error.NoMemory (inr is) = breaks_by_failure has s (doing.Call call) false (Some call) is.0 None before after is.2
    tried_breaks before after store_error.DiskFault is = breaks_by_failure has s (doing.Call call) false (Some call) is.0 (Some is.1) before after is.2
    tried_breaks before after (store_error.Halted faults) is = absurd is

    given_up_breaks : (before after : List (Entry C B)) (e : StoreError) → IsGivenUp count before s e after → Breaking true before after
    given_up_breaks before after (store_error.Session e) is = absurd is
    given_up_breaks before after store_error.NoMemory is = breaks_by_failure has s (doing.Call call) true None is.0 None before after is.1
    given_up_breaks before after store_error.DiskFault is = breaks_by_failure has s (doing.Call call) true None is.0 (Some is.1) before after is.2
    given_up_breaks before after (store_error.Halted faults) is = absurd is

    -- behind a retry that waits, which may be no entry
    breaks_behind_retry : (found mid to : List (Entry C B)) (a : Answer) (noted : Bool) → store_waits.is_wait a ≡ true → mid ≡ with_retry found s a noted → Breaking true mid to → Breaking true found to
    breaks_behind_retry found mid to a false w is on = subst (λ (z : List (Entry C B)). Breaking true z to) is on
    breaks_behind_retry found mid to a true w is on = breaks_behind_wait has s (doing.Call call) true event.Retry (said.Call a) found mid to refl (event_waits a w) is on

    breaks_behind_retries : (n : ℕ) (from mid to : List (Entry C B)) → HaveWaited count told m has from s n mid → Breaking true mid to → Breaking true from to
    breaks_behind_retries zero from mid to h on = subst (λ (z : List (Entry C B)). Breaking true z to) h on
    breaks_behind_retries (suc n) from mid to h on =
        let here = breaks_behind_retry h.1 mid to h.2 h.6.ok.1.noted h.5 h.6.ok.1.list on in
        breaks_behind_retries n from h.0 to h.3 (breaks_behind has s (doing.Call call) own true h.0 h.1 to h.4 here)

    called_again_breaks : (waiting after : List (Entry C B)) (e : StoreError) → HasCalledAgain count told m has waiting s (Err e) after → Breaking true waiting after
    called_again_breaks waiting after e h =
        breaks_behind_retries h.waits waiting h.mid after h.waited (breaks_behind has s (doing.Call call) own true h.mid h.found after h.goes_on (given_up_breaks h.found after e h.last.err))

    pub failed_breaks : (before after : List (Entry C B)) (e : StoreError) → HasCalled count told m has before s call (Err e) after → BreaksOn has s (doing.Call call) false before after
    failed_breaks before after e h = go h.steps
      where
        go : HasTried count before s call (as_first (Err e)) after ⊎ HasWaited count told m has before s call (Err e) after → Breaking false before after
        go (inl t) = tried_breaks before after e t.err
        go (inr w) = breaks_behind_wait has s (doing.Call call) false (event.Call call) (said.Call w.given) before w.waiting after refl (event_waits w.given w.waits) w.tried.ok (called_again_breaks w.waiting after e w.again)

  -- a call that is refused added nothing
  pub refused_same : (before after : List (Entry C B)) (call : C) (e : SessionError) → HasCalled count told m has before s call (Err (store_error.Session e)) after → after ≡ before
  refused_same before after call e h = go h.steps
    where
      go : HasTried count before s call (as_first (Err (store_error.Session e))) after ⊎ HasWaited count told m has before s call (Err (store_error.Session e)) after → after ≡ before
      go (inl t) = t.err
      go (inr w) = absurd w.again.last.err

  -- ---- parts of a call that waits

  -- what was added has the retries of a call that waits, of which the last one is answered so
  record WaitsOn (from to : List (Entry C B)) (reply : LineReply) : Type 0 where
    pub grew : GrewFor has s from to
    pub part : (t : Tree) (n l : ℕ) → IsOpenedOver told from t n l → IsRun m (start t n l) (book_of to) → Part m s (last m (start t n l) (book_of from)) (book_of grew.added) (Some reply) []

  skip_waiting : (es fs : Book C) (st : State C) (reply : LineReply) → AreOthers s es → Part m s (last m st es) fs (Some reply) [] → Part m s st (es ++ fs) (Some reply) []
  skip_waiting [] fs st reply o h = h
  skip_waiting (n ∷ ns) fs st reply o h = subst (Retries m s n reply [] (Part m s (next m st n) (ns ++ fs))) (sym o.0) (skip_waiting ns fs (next m st n) reply o.1 h)

  state_after : (t : Tree) (n l : ℕ) (xs ys added : List (Entry C B)) → ys ≡ xs ++ added → last m (start t n l) (book_of ys) ≡ last m (last m (start t n l) (book_of xs)) (book_of added)
  state_after t n l xs ys added is = ap (last m (start t n l)) (book_grew xs ys added is) ∙ last_append m (start t n l) (book_of xs) (book_of added)

  waits_behind_others : has_number has s ≡ true → (from before to : List (Entry C B)) (reply : LineReply) → GoesOn number_of has from before → WaitsOn before to reply → WaitsOn from to reply
  waits_behind_others own from before to reply g w = record {
    grew = grew_on has s from before to (grew_by_others has s from before g) w.grew;
    part = λ t n l opened run.
        let st = last m (start t n l) (book_of from) in
        let later_on = w.part t n l (opened_on told from before g.0 g.1 t n l opened) run in
        subst (λ (bk : Book C). Part m s st bk (Some reply) []) (sym (book_append g.0 w.grew.added))
        (skip_waiting (book_of g.0) (book_of w.grew.added) st reply (others_in has s own g.0 g.2)
        (subst (λ u. Part m s u (book_of w.grew.added) (Some reply) []) (state_after t n l from before g.0 g.1) later_on));
  }

  waits_behind_retry : (found after to : List (Entry C B)) (reply : LineReply) (a : Answer) (b : Bool) → store_waits.is_wait a ≡ true → after ≡ with_retry found s a b → WaitsOn after to reply → WaitsOn found to reply
  waits_behind_retry found after to reply a false w is on = subst (λ (z : List (Entry C B)). WaitsOn z to reply) is on
  waits_behind_retry found after to reply a true w is on =
      let n = entry s event.Retry (said.Call a) in
      record {
        grew = grew_on has s found after to (grew_by_one has s found after event.Retry (said.Call a) is) on.grew;
        part = λ t k l opened run.
            let st = last m (start t k l) (book_of found) in
            let bk = book_of on.grew.added in
            let later_on = on.part t k l (opened_on told found after (kind.Noted n ∷ []) is t k l opened) run in
            let here = subst (λ u. Part m s u bk (Some reply) []) (state_after t k l found after (kind.Noted n ∷ []) is) later_on in
            subst (Retries m s n reply [] (Part m s (next m st n) bk)) (sym (same_number s))
            (refl, subst (IsReplyOr s n.answer reply (λ wait. Part m s (next m st n) bk wait [])) (sym (event_waits a w)) here);
      }

  waits_behind_retries : has_number has s ≡ true → (n : ℕ) (from mid to : List (Entry C B)) (reply : LineReply) → HaveWaited count told m has from s n mid → WaitsOn mid to reply → WaitsOn from to reply
  waits_behind_retries own zero from mid to reply h on = subst (λ (z : List (Entry C B)). WaitsOn z to reply) h on
  waits_behind_retries own (suc n) from mid to reply h on =
      waits_behind_retries own n from h.0 to reply h.3 (waits_behind_others own h.0 h.1 to reply h.4 (waits_behind_retry h.1 mid to reply h.2 h.6.ok.1.noted h.5 h.6.ok.1.list on))

  -- the last retry
  waits_no_more : (found after : List (Entry C B)) (e : Ended) → after ≡ with_retry found s (answer_of e) true → WaitsOn found after (Said s false (ended_as e))
  waits_no_more found after e is =
      let a = answer_of e in
      let n = entry s event.Retry (said.Call a) in
      let reply = Said s false (ended_as e) in
      record {
        grew = grew_by_one has s found after event.Retry (said.Call a) is;
        part = λ t k l opened run.
            let st = last m (start t k l) (book_of found) in
            let line : line_of s false (said.Call a) ≡ reply ∷ [] = ap (λ (x : LineAnswer). Said s false x ∷ []) (end_is_shown e) in
            subst (Retries m s n reply [] (Part m s (next m st n) [])) (sym (same_number s))
            (refl, subst (IsReplyOr s n.answer reply (λ wait. Part m s (next m st n) [] wait [])) (sym (end_is_no_wait e)) (line, tt));
      }

  waited_part : has_number has s ≡ true → (waiting after : List (Entry C B)) (e : Ended) → HasCalledAgain count told m has waiting s (Ok e) after → WaitsOn waiting after (Said s false (ended_as e))
  waited_part own waiting after e h =
      let reply = Said s false (ended_as e) in
      let given = h.last.ok.1 in
      let noted : given.noted ≡ true = retry_is_noted e given.noted given.may_be in
      waits_behind_retries own h.waits waiting h.mid after reply h.waited
      (waits_behind_others own h.mid h.found after reply h.goes_on (waits_no_more h.found after e (subst (λ (b : Bool). after ≡ with_retry h.found s (answer_of e) b) noted given.list)))

  -- ---- a call

  pub call_part : has_number has s ≡ true → (from before after : List (Entry C B)) (call : C) (e : Ended) → GoesOn number_of has from before → HasCalled count told m has before s call (Ok e) after
      → HasPart told m has s from after (record { doing = doing.Call call; reply = Said s false (ended_as e) } ∷ [])
  call_part own from before after call e g h = go h.steps
    where
      reply : LineReply
      reply = Said s false (ended_as e)

      go : HasTried count before s call (as_first (Ok e)) after ⊎ HasWaited count told m has before s call (Ok e) after → HasPart told m has s from after (record { doing = doing.Call call; reply = reply } ∷ [])
      go (inl t) = subst (λ (x : LineAnswer). HasPart told m has s from after (record { doing = doing.Call call; reply = Said s false x } ∷ [])) (end_is_shown e)
          (entry_part told m has s own from before after (doing.Call call) (said.Call (answer_of e)) (end_is_no_wait e) g t.ok)
      go (inr w) =
          let n = entry s (event.Call call) (said.Call w.given) in
          let p : Printed C = record { doing = doing.Call call; reply = reply } in
          let on = waited_part own w.waiting after e w.again in
          behind_others told m has s own from before after (p ∷ []) g (grew_on has s before w.waiting after (grew_by_one has s before w.waiting (event.Call call) (said.Call w.given) w.tried.ok) on.grew)
          (λ t k l opened run.
          let st = last m (start t k l) (book_of before) in
          let bk = book_of on.grew.added in
          let later_on = on.part t k l (opened_on told before w.waiting (kind.Noted n ∷ []) w.tried.ok t k l opened) run in
          let here = subst (λ u. Part m s u bk (Some reply) []) (state_after t k l before w.waiting (kind.Noted n ∷ []) w.tried.ok) later_on in
          inl (subst (Meets m s n (p ∷ []) (Part m s (next m st n) bk)) (sym (same_number s))
          (refl, subst (IsReplyOr s n.answer reply (λ wait. Part m s (next m st n) bk wait [])) (sym (event_waits w.given w.waits)) here)))

module _ {C B : Type 0} (count : B → ℕ) (told : B → Option Entries) (m : CallMeaning C) where
  pub call_leaves : (p q : SessionView C B) (call : C) (r : Result Ended StoreError) → has_number p.has p.under ≡ true → HasDone p q (λ before after. HasCalled count told m p.has before p.under call r after)
      → Leaves told m p (doing.Call call) q (as_ended r)
  call_leaves p q call r own h = go r h.did
    where
      fails : (e : StoreError) → HasCalled count told m p.has h.before p.under call (Err e) q.seen → HasBroken p.has p.under (doing.Call call) p.seen q.seen
      fails e did =
          let by = failed_breaks count told m p.has p.under own call h.before q.seen e did in
          is_broken p.has p.under (doing.Call call) p.seen q.seen (breaks_behind p.has p.under (doing.Call call) own false p.seen h.before q.seen h.goes_on by)

      go : (r : Result Ended StoreError) → HasCalled count told m p.has h.before p.under call r q.seen → Leaves told m p (doing.Call call) q (as_ended r)
      go (Ok e) did = call_part count told m p.has p.under own p.seen h.before q.seen call e h.goes_on did
      go (Err store_error.DiskFault) did = fails store_error.DiskFault did
      go (Err store_error.NoMemory) did = fails store_error.NoMemory did
      go (Err (store_error.Halted faults)) did = fails (store_error.Halted faults) did
      go (Err (store_error.Session e)) did = refused_line told m p q (doing.Call call) h.before (shown_why e) own h.goes_on (refused_same count told m p.has p.under h.before q.seen call e did)
          (λ w shown. call_refused told m p.under h.before call e w did.refused shown)
