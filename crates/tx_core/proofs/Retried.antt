-- A whole retry: the machine's step, and the state after it.
use Rattle.std.proofs.Common.{◌≡◌, ℕ, Bool, true, false, not, ◌||◌, List, [], ◌∷◌, ◌++◌, take, length, get_or, Option, Some, None, nat_le, append-nil, arith, refl, sym, ap, ap₂, subst, ◌∙◌, inl, inr, if◌then◌else◌, true≢false}
use Rattle.std.proofs.lemmas.Bool.Decides.{nat_tests}
use Rattle.tree_model.specs.Entries.{Entries}
use Rattle.tree_model.specs.declared.reply.Reply.{Reply}
use Rattle.lock_resources.specs.declared.request.Request.{Request}
use Rattle.call_contract.specs.Calls.{CallMeaning}
use Rattle.call_contract.specs.States.{Waiting, Live, State, view, of_session, put, others, without, ended}
use Rattle.call_contract.specs.Attempts as machine
use Rattle.call_contract.specs.Waits.{cycle_through}
use Rattle.call_contract.specs.Steps as steps
use Rattle.call_contract.specs.Books.{state_of, IsAnswer}
use Rattle.call_contract.specs.declared.events.Answer.{Answer}
use Rattle.call_contract.specs.declared.events.Answer.TheVariants as answer
use Rattle.call_contract.specs.declared.events.Event.TheVariants as event
use Rattle.call_contract.specs.declared.events.EventAnswer.TheVariants as said
use Rattle.call_contract.specs.declared.events.Noted.{Noted}
use Rattle.call_contract.proofs.Lists.{found_named, found_put, found_ended}
use Rattle.tx_core.specs.Retries.{has_changed, hold_more, wait_alike, same_request, IsNotedRetry}
use Rattle.tx_core.specs.declared.parts.Parts.{Parts}
use Rattle.tx_core.specs.declared.asking.Got.{Got}
use Rattle.tx_core.specs.declared.asking.Got.TheVariants.{All, Barred, NoMemory}
use Rattle.tx_core.specs.inside.Asking.{granted_in, IsInside}
use Rattle.tx_core.specs.inside.Standing.{Stands}
use Rattle.tx_core.specs.inside.Goes.{Stays, with_grants, Reaches, IsFreeUpTo, IsFreeFront, with_answer, with_wait, unqueued}
use Rattle.tx_core.specs.inside.Retrying.{HasMoved, IsWaitingWith, GoesAgain, IsAgain, IsAnsweredAgain, WaitsAgain, IsPutAgain, IsClosedAgain, IsStoppedAgain, IsFailedAgain, IsSettledAgain, AreAsked, retry_entry, failed_retry, at_rest}
use Rattle.tx_core.proofs.Attempted.{put_twice, others_put, more_found, granted_by, stopped_by, there_is, same_at}
use Rattle.tx_core.proofs.Reached.{front_in}

least : (n : ℕ) → nat_le 0 n ≡ true
least n = grind (arith, nat_tests)

or_true : (b : Bool) → (b || true) ≡ true
or_true true = refl
or_true false = refl

module _ {C B : Type 0} (is_valid : C → Type 0) (m : CallMeaning C) (told : B → Option Entries) where
  -- the machine's step at a retry of a call that waits
  retry_steps : (st : State C) (s : ℕ) (t : Live C) (w : Waiting C) (c : C) → of_session s st.live ≡ Some t → t.waits ≡ Some w → w.call ≡ c
      → steps.step m st s event.Retry ≡ Some (steps.attempt m st t c)
  retry_steps st s t w c found waits call =
      ap (λ (o : Option (Live C)). steps.step_of m st s o event.Retry) found
      ∙ ap (steps.retried m st t) waits
      ∙ ap (λ (x : C). Some (steps.attempt m st t x)) call

  -- where the step is this one, the entry and the state after it are so
  goes_again : (p : Parts C B) (s : ℕ) (c : C) (n : Noted C) (q : Parts C B)
      → q.book.items ≡ p.book.items ++ n ∷ [] → q.prepared ≡ None
      → ((st : State C) → Stands is_valid m told p st → IsWaitingWith st s c → (o : steps.Outcome C) × (steps.step m st n.session n.event ≡ Some o) × (n.answer ≡ o.answer) × Stands is_valid m told q o.state)
      → GoesAgain is_valid m told p s c n q
  goes_again p s c n q book prepared moves = record {
    book = book;
    prepared = prepared;
    entry = λ st stands with_call. subst (λ (o : Option (steps.Outcome C)). IsAnswer n.answer o) (sym (moves st stands with_call).1) (moves st stands with_call).2;
    state = λ st stands with_call. subst (λ (x : State C). Stands is_valid m told q x) (sym (ap (state_of st) (moves st stands with_call).1)) (moves st stands with_call).3;
  }

  -- what the call asks for, for each state in which it waits
  abbrev AsksFor : Parts C B → ℕ → C → List Request → Type 0
  AsksFor p s c asks = (st : State C) (t : Live C) → Stands is_valid m told p st → of_session s st.live ≡ Some t → asks ≡ machine.asked m st t c

  abbrev ReachesFor : Parts C B → ℕ → List Request → Parts C B → Got → Type 0
  ReachesFor p s asks q got = (st : State C) (t : Live C) → Stands is_valid m told p st → of_session s st.live ≡ Some t → Reaches is_valid m told st t asks q got

  -- the retry's outcome where all was granted
  record AnsweredStep (st : State C) (s : ℕ) (c : C) (a : Answer) (q : Parts C B) : Type 0 where
    outcome : steps.Outcome C
    step : steps.step m st s event.Retry ≡ Some outcome
    is : said.Call a ≡ outcome.answer
    stands : Stands is_valid m told q outcome.state
    changed : has_changed (of_session s st.live) (of_session s outcome.state.live) ≡ true

  answered_step : (p p2 q : Parts C B) (s : ℕ) (c : C) (asks : List Request) (a : Answer)
      → AsksFor p s c asks → ReachesFor p s asks p2 All → IsAnsweredAgain is_valid m told p2 s c a q
      → (st : State C) → Stands is_valid m told p st → IsWaitingWith st s c → AnsweredStep st s c a q
  answered_step p p2 q s c asks a asked reach is st stands at =
      let t = at.live in
      let are = asked st t stands at.found in
      let got = reach st t stands at.found in
      let st1 = with_grants st t asks in
      let t1 : Live C = record t { grants = t.grants ++ asks } in
      let found1 = more_found is_valid m told st s t asks at.found in
      let named = found_named s st.live t at.found in
      let reply : is.reply ≡ m.reply c (view m t.calls st.tree) = is.means st1 t1 got.2 found1 in
      let grants : machine.granted m st t c ≡ asks = granted_by is_valid m told st t c asks asks are got.0 in
      let one : Reply → List Request → Live C = λ r gs. record t { calls = t.calls ++ record { call = c; reply = r } ∷ []; grants = t.grants ++ gs; waits = None } in
      let final : unqueued (with_answer st1 t1 c is.reply) s ≡ machine.answered m st t c =
      ap₂ (λ (l : List (Live C)) (w : List ℕ). record st { live = l; waiting = w })
      (put_twice (one is.reply asks) t1 st.live refl ∙ ap₂ (λ (r : Reply) (gs : List Request). put (one r gs) st.live) reply (sym grants))
      (ap (λ x. without x st.waiting) (sym named)) in
      let after : Live C = one (m.reply c (view m t.calls st.tree)) (machine.granted m st t c) in
      let found_after : of_session s (machine.answered m st t c).live ≡ Some after = ap (λ x. of_session x (put after st.live)) (sym named) ∙ found_put after st.live in
      record {
        outcome = record { state = machine.answered m st t c; answer = said.Call (answer.Answered (m.reply c (view m t.calls st.tree))) };
        step = retry_steps st s t at.waiting c at.found at.waits at.call ∙ ap (λ (o : Option Request). Some (steps.settled m st t c o)) (stopped_by is_valid m told st t c asks None are got.1);
        is = ap said.Call (is.is ∙ ap answer.Answered reply);
        stands = subst (λ (x : State C). Stands is_valid m told q x) final (is.state st1 t1 got.2 found1);
        changed = ap₂ (λ (x y : Option (Live C)). has_changed x y) at.found found_after
            ∙ ap (λ (w : Option (Waiting C)). hold_more t.grants after.grants || not (wait_alike w None)) at.waits ∙ or_true (hold_more t.grants after.grants);
      }

  answered_again : (p p2 q : Parts C B) (s : ℕ) (c : C) (asks : List Request) (a : Answer)
      → AsksFor p s c asks → ReachesFor p s asks p2 All → p2.book.items ≡ p.book.items
      → IsAnsweredAgain is_valid m told p2 s c a q → IsAgain is_valid m told p s c a q
  answered_again p p2 q s c asks a asked reach same is =
      let step = answered_step p p2 q s c asks a asked reach is in
      record {
        noted = true;
        may_be = subst (λ x. IsNotedRetry x true) (sym is.is) refl;
        moved = goes_again p s c (retry_entry s a) q (is.book ∙ ap (λ xs. xs ++ retry_entry s a ∷ []) same) is.prepared
            (λ st stands at. ((step st stands at).outcome, (step st stands at).step, (step st stands at).is, (step st stands at).stands));
        step = λ st reached stands at. record { after = (step st stands at).outcome; step = (step st stands at).step; answer = sym (step st stands at).is; changed = (step st stands at).changed };
      }

  -- where a request is barred the transaction ends or waits again
  closed_again : (p p2 q : Parts C B) (s : ℕ) (c : C) (asks : List Request) (k : ℕ) (g : Request) (hs : List ℕ) (a : Answer)
      → AsksFor p s c asks
      → ((st : State C) (t : Live C) → Stands is_valid m told p st → of_session s st.live ≡ Some t → IsFreeUpTo is_valid m told st t asks k g hs × Stands is_valid m told p2 (with_grants st t (take k asks)))
      → p2.book.items ≡ p.book.items
      → IsClosedAgain is_valid m told p2 s g a q → IsAgain is_valid m told p s c a q
  closed_again p p2 q s c asks k g hs a asked reach same is =
      record {
        noted = true;
        may_be = subst (λ x. IsNotedRetry x true) (sym is.is) refl;
        moved = goes_again p s c (retry_entry s a) q (is.book ∙ ap (λ xs. xs ++ retry_entry s a ∷ []) same) is.prepared
            (λ st stands at. (outcome st at.live, step_is st stands at, ap said.Call is.is, state_is st stands at));
        step = λ st reached stands at. record {
          after = outcome st at.live;
          step = step_is st stands at;
          answer = sym (ap said.Call is.is);
          changed = ap₂ (λ (x y : Option (Live C)). has_changed x y) at.found (ap (λ x. of_session s (others x st.live)) (found_named s st.live at.live at.found) ∙ found_ended s st.live);
        };
      }
    where
      outcome : State C → Live C → steps.Outcome C
      outcome st t = record { state = ended st t.session; answer = said.Call (answer.Deadlock is.cycle) }

      step_is : (st : State C) → Stands is_valid m told p st → (at : IsWaitingWith st s c) → steps.step m st s event.Retry ≡ Some (outcome st at.live)
      step_is st stands at =
          let t = at.live in
          let are = asked st t stands at.found in
          let front = take k asks in
          let got = reach st t stands at.found in
          let st1 = with_grants st t front in
          let t1 : Live C = record t { grants = t.grants ++ front } in
          let found1 = more_found is_valid m told st s t front at.found in
          let named = found_named s st.live t at.found in
          let grants : machine.granted m st t c ≡ front = granted_by is_valid m told st t c asks front are got.0.free in
          let one : List Request → Live C = λ gs. record t { grants = t.grants ++ gs; waits = Some (record { call = c; request = g }) } in
          let live : (with_wait st1 t1 c g).live ≡ (machine.waits_with m st t c g).live = put_twice (one front) t1 st.live refl ∙ ap (λ (gs : List Request). put (one gs) st.live) (sym grants) in
          let closes : cycle_through (machine.waits_with m st t c g).live t.session ≡ Some is.cycle = ap₂ (λ (l : List (Live C)) (x : ℕ). cycle_through l x) (sym live) named ∙ is.closes st1 t1 c got.1 found1 in
          retry_steps st s t at.waiting c at.found at.waits at.call
          ∙ ap (λ (o : Option Request). Some (steps.settled m st t c o)) (stopped_by is_valid m told st t c asks (Some g) are got.0.barred)
          ∙ ap (λ (r : Option (List ℕ)). Some (steps.unless_cycle st (machine.waits_with m st t c g) t.session g r)) closes

      state_is : (st : State C) → Stands is_valid m told p st → (at : IsWaitingWith st s c) → Stands is_valid m told q (ended st at.live.session)
      state_is st stands at =
          let t = at.live in
          let front = take k asks in
          let got = reach st t stands at.found in
          let t1 : Live C = record t { grants = t.grants ++ front } in
          let named = found_named s st.live t at.found in
          let final : ended (with_grants st t front) s ≡ ended st t.session =
          ap₂ (λ (l : List (Live C)) (w : List ℕ). record st { live = l; waiting = w })
          (others_put s t1 st.live named ∙ ap (λ x. others x st.live) (sym named)) (ap (λ x. without x st.waiting) (sym named)) in
          subst (λ (x : State C). Stands is_valid m told q x) final (is.state (with_grants st t front) got.1)

  waits_again : (p p2 q : Parts C B) (s : ℕ) (c : C) (asks : List Request) (k : ℕ) (g : Request) (hs : List ℕ) (more : Bool) (a : Answer)
      → AsksFor p s c asks
      → ((st : State C) (t : Live C) → Stands is_valid m told p st → of_session s st.live ≡ Some t → IsFreeUpTo is_valid m told st t asks k g hs × Stands is_valid m told p2 (with_grants st t (take k asks)))
      → AreAsked is_valid m told p s asks (Barred k hs) more p2
      → p2.book.items ≡ p.book.items → p2.prepared ≡ p.prepared → p2.places ≡ p.places → p2.waiting.items ≡ p.waiting.items
      → WaitsAgain is_valid m told p2 s g hs more a q → IsAgain is_valid m told p s c a q
  waits_again p p2 q s c asks k g hs more a asked reach held same prepared places queue is =
      record {
        noted = is.noted;
        may_be = subst (λ x. IsNotedRetry x is.noted) (sym is.is) tt;
        moved = moved is.noted refl is.moved;
        step = λ st reached stands at. record { after = outcome st at.live; step = step_is st stands at; answer = sym (answer_is st stands at); changed = changed_is st stands at };
      }
    where
      outcome : State C → Live C → steps.Outcome C
      outcome st t = record { state = machine.waits_with m st t c g; answer = said.Call (answer.Waits g.resource g.ask (machine.holders g (others t.session st.live))) }

      one : Live C → List Request → Live C
      one t gs = record t { grants = t.grants ++ gs; waits = Some (record { call = c; request = g }) }

      grants_are : (st : State C) → Stands is_valid m told p st → (at : IsWaitingWith st s c) → machine.granted m st at.live c ≡ take k asks
      grants_are st stands at = granted_by is_valid m told st at.live c asks (take k asks) (asked st at.live stands at.found) (reach st at.live stands at.found).0.free

      live_is : (st : State C) → Stands is_valid m told p st → (at : IsWaitingWith st s c)
          → (with_wait (with_grants st at.live (take k asks)) (record (at.live) { grants = at.live.grants ++ take k asks }) c g).live ≡ (machine.waits_with m st at.live c g).live
      live_is st stands at =
          let t = at.live in
          put_twice (one t (take k asks)) (record t { grants = t.grants ++ take k asks }) st.live refl
          ∙ ap (λ (gs : List Request). put (one t gs) st.live) (sym (grants_are st stands at))

      step_is : (st : State C) → Stands is_valid m told p st → (at : IsWaitingWith st s c) → steps.step m st s event.Retry ≡ Some (outcome st at.live)
      step_is st stands at =
          let t = at.live in
          let are = asked st t stands at.found in
          let front = take k asks in
          let got = reach st t stands at.found in
          let st1 = with_grants st t front in
          let t1 : Live C = record t { grants = t.grants ++ front } in
          let found1 = more_found is_valid m told st s t front at.found in
          let named = found_named s st.live t at.found in
          let alone : cycle_through (machine.waits_with m st t c g).live t.session ≡ None = ap₂ (λ (l : List (Live C)) (x : ℕ). cycle_through l x) (sym (live_is st stands at)) named ∙ is.alone st1 t1 c got.1 found1 in
          retry_steps st s t at.waiting c at.found at.waits at.call
          ∙ ap (λ (o : Option Request). Some (steps.settled m st t c o)) (stopped_by is_valid m told st t c asks (Some g) are got.0.barred)
          ∙ ap (λ (r : Option (List ℕ)). Some (steps.unless_cycle st (machine.waits_with m st t c g) t.session g r)) alone

      answer_is : (st : State C) → Stands is_valid m told p st → (at : IsWaitingWith st s c) → said.Call a ≡ (outcome st at.live).answer
      answer_is st stands at = ap said.Call (is.is ∙ ap (answer.Waits g.resource g.ask) (sym (reach st at.live stands at.found).0.holders))

      more_at : (st : State C) → Stands is_valid m told p st → (at : IsWaitingWith st s c) → (more || not (same_request at.waiting.request g)) ≡ is.noted
      more_at st stands at =
          let t = at.live in
          let front = take k asks in
          let got = reach st t stands at.found in
          is.changed (with_grants st t front) (record t { grants = t.grants ++ front }) at.waiting got.1 (more_found is_valid m told st s t front at.found) at.waits

      changed_is : (st : State C) → Stands is_valid m told p st → (at : IsWaitingWith st s c) → has_changed (of_session s st.live) (of_session s (machine.waits_with m st at.live c g).live) ≡ is.noted
      changed_is st stands at =
          let t = at.live in
          let after : Live C = one t (machine.granted m st t c) in
          let found_after : of_session s (machine.waits_with m st t c g).live ≡ Some after = ap (λ x. of_session x (put after st.live)) (sym (found_named s st.live t at.found)) ∙ found_put after st.live in
          ap₂ (λ (x y : Option (Live C)). has_changed x y) at.found found_after
          ∙ ap₂ (λ (gs : List Request) (w : Option (Waiting C)). hold_more t.grants (t.grants ++ gs) || not (wait_alike w (Some (record { call = c; request = g })))) (grants_are st stands at) at.waits
          ∙ ap (λ (b : Bool). b || not (same_request at.waiting.request g)) (held.raised st t stands at.found)
          ∙ more_at st stands at

      queue_is : (st : State C) (at : IsWaitingWith st s c) → st.waiting ≡ machine.queued at.live.session at.live.waits st.waiting
      queue_is st at = ap (λ w. machine.queued at.live.session w st.waiting) (sym at.waits)

      none_more : (b d : Bool) → (b || d) ≡ false → b ≡ false
      none_more false d e = refl
      none_more true d e = absurd (true≢false e)

      moved : (noted : Bool) → is.noted ≡ noted → IsPutAgain is_valid m told p2 s g a noted q → HasMoved is_valid m told p s c a noted q
      moved true e put_so =
          goes_again p s c (retry_entry s a) q (put_so.book ∙ ap (λ xs. xs ++ retry_entry s a ∷ []) same) put_so.prepared
          (λ st stands at.
          let t = at.live in
          let front = take k asks in
          let final : with_wait (with_grants st t front) (record t { grants = t.grants ++ front }) c g ≡ machine.waits_with m st t c g =
          ap₂ (λ (l : List (Live C)) (w : List ℕ). record st { live = l; waiting = w }) (live_is st stands at) (queue_is st at) in (
            outcome st t,
            step_is st stands at,
            answer_is st stands at,
            subst (λ (x : State C). Stands is_valid m told q x) final
                (put_so.state (with_grants st t front) (record t { grants = t.grants ++ front }) at.waiting c (reach st t stands at.found).1 (more_found is_valid m told st s t front at.found) at.waits),
          ))
      moved false e kept = record {
        book = kept.book ∙ same;
        prepared = kept.prepared ∙ prepared;
        places = kept.places ∙ places;
        queue = kept.queue ∙ queue;
        state = λ st stands at. kept.state st (held.kept (none_more more (not (same_request at.waiting.request g)) (more_at st stands at ∙ e)) st stands);
      }

  -- a retry that failed
  failed_again : (p p2 q : Parts C B) (s : ℕ) (c : C) (asks : List Request) (k : ℕ) (f : Option ℕ)
      → AsksFor p s c asks
      → ((st : State C) (t : Live C) → Stands is_valid m told p st → of_session s st.live ≡ Some t → IsFreeFront is_valid m told st t asks k × Stands is_valid m told p2 (with_grants st t (take k asks)))
      → p2.book.items ≡ p.book.items
      → IsFailedAgain is_valid m told p2 s k f q → GoesAgain is_valid m told p s c (failed_retry s k f) q
  failed_again p p2 q s c asks k f asked reach same is =
      goes_again p s c (failed_retry s k f) q (is.book ∙ ap (λ xs. xs ++ failed_retry s k f ∷ []) same) is.prepared moves
    where
      moves : (st : State C) → Stands is_valid m told p st → IsWaitingWith st s c → (o : steps.Outcome C) × (steps.step m st s (event.Fail None k f) ≡ Some o) × (said.Nothing ≡ o.answer) × Stands is_valid m told q o.state
      moves st stands at =
          let t = at.live in
          let are = asked st t stands at.found in
          let got = reach st t stands at.found in
          let st1 = with_grants st t (take k asks) in
          let t1 : Live C = record t { grants = t.grants ++ take k asks } in
          let named = found_named s st.live t at.found in
          let free : machine.granted m st t c ≡ machine.free asks (others t.session st.live) = granted_by is_valid m told st t c asks (machine.free asks (others t.session st.live)) are refl in
          let test : nat_le k (length (machine.granted m st t c)) ≡ true = ap (λ xs. nat_le k (length xs)) free ∙ got.0.within in
          let part : take k (machine.granted m st t c) ≡ take k asks = ap (take k) free ∙ got.0.part in
          let one : List Request → Live C = λ gs. record t { grants = t.grants ++ gs; waits = None } in
          let final : unqueued (at_rest st1 t1) s ≡ (steps.failed m st t c k).state =
          ap₂ (λ (l : List (Live C)) (w : List ℕ). record st { live = l; waiting = w })
          (put_twice (one (take k asks)) t1 st.live refl ∙ ap (λ (gs : List Request). put (one gs) st.live) (sym part))
          (ap (λ x. without x st.waiting) (sym named)) in (
            steps.failed m st t c k,
            ap (λ (o : Option (Live C)). steps.step_of m st s o (event.Fail None k f)) at.found
                ∙ ap (λ (w : Option (Waiting C)). steps.given_up m st t None w k f) at.waits
                ∙ ap (λ (x : C). if nat_le k (length (machine.granted m st t x)) then Some (steps.failed m st t x k) else None) at.call
                ∙ ap (λ (b : Bool). if b then Some (steps.failed m st t c k) else None) test,
            refl,
            subst (λ (x : State C). Stands is_valid m told q x) final (is.state st1 t1 got.1 (more_found is_valid m told st s t (take k asks) at.found)),
          )

  -- a retry that was settled
  pub settled_again : (p p2 q : Parts C B) (s : ℕ) (c : C) (asks : List Request) (got : Got) (more : Bool) (a : Answer)
      → AsksFor p s c asks → ReachesFor p s asks p2 got → AreAsked is_valid m told p s asks got more p2 → IsInside asks got
      → p2.book.items ≡ p.book.items → p2.prepared ≡ p.prepared → p2.places ≡ p.places → p2.waiting.items ≡ p.waiting.items
      → IsSettledAgain is_valid m told p2 s c asks got more a q → IsAgain is_valid m told p s c a q
  settled_again p p2 q s c asks All more a asked reach held inside same prepared places queue is = answered_again p p2 q s c asks a asked reach same is
  settled_again p p2 q s c asks (Barred k hs) more a asked reach held inside same prepared places queue is = stopped (is g.0 g.1)
    where
      g : (x : Request) × (x ≡ get_or asks k x)
      g = there_is asks k inside

      reached : (st : State C) (t : Live C) → Stands is_valid m told p st → of_session s st.live ≡ Some t → IsFreeUpTo is_valid m told st t asks k g.0 hs × Stands is_valid m told p2 (with_grants st t (take k asks))
      reached st t stands found =
          let got = reach st t stands found in
          (subst (λ x. IsFreeUpTo is_valid m told st t asks k x hs) (same_at asks k got.0 g.0 inside got.1.here g.1) got.1, got.2)

      stopped : IsStoppedAgain is_valid m told p2 s g.0 hs more a q → IsAgain is_valid m told p s c a q
      stopped (inl is) = waits_again p p2 q s c asks k g.0 hs more a asked reached held same prepared places queue is
      stopped (inr is) = closed_again p p2 q s c asks k g.0 hs a asked reached same is
  settled_again p p2 q s c asks (NoMemory k) more a asked reach held inside same prepared places queue is = absurd is

  -- a retry that failed after as many grants
  pub left_again : (p p2 q : Parts C B) (s : ℕ) (c : C) (asks : List Request) (got : Got) (f : Option ℕ)
      → AsksFor p s c asks → ReachesFor p s asks p2 got → p2.book.items ≡ p.book.items
      → IsFailedAgain is_valid m told p2 s (granted_in asks got) f q → GoesAgain is_valid m told p s c (failed_retry s (granted_in asks got) f) q
  left_again p p2 q s c asks got f asked reach same is =
      failed_again p p2 q s c asks (granted_in asks got) f asked (λ st t stands found. front_in is_valid m told st t asks p2 got (reach st t stands found)) same is

  -- one that failed before anything was asked
  pub failed_early : (p q : Parts C B) (s : ℕ) (c : C) (f : Option ℕ) → IsFailedAgain is_valid m told p s 0 f q → GoesAgain is_valid m told p s c (failed_retry s 0 f) q
  failed_early p q s c f is =
      goes_again p s c (failed_retry s 0 f) q is.book is.prepared moves
    where
      moves : (st : State C) → Stands is_valid m told p st → IsWaitingWith st s c → (o : steps.Outcome C) × (steps.step m st s (event.Fail None 0 f) ≡ Some o) × (said.Nothing ≡ o.answer) × Stands is_valid m told q o.state
      moves st stands at =
          let t = at.live in
          let named = found_named s st.live t at.found in
          let one : List Request → Live C = λ gs. record t { grants = gs; waits = None } in
          let final : unqueued (at_rest st t) s ≡ (steps.failed m st t c 0).state =
          ap₂ (λ (l : List (Live C)) (w : List ℕ). record st { live = l; waiting = w })
          (ap (λ (gs : List Request). put (one gs) st.live) (sym (append-nil t.grants)))
          (ap (λ x. without x st.waiting) (sym named)) in (
            steps.failed m st t c 0,
            ap (λ (o : Option (Live C)). steps.step_of m st s o (event.Fail None 0 f)) at.found
                ∙ ap (λ (w : Option (Waiting C)). steps.given_up m st t None w 0 f) at.waits
                ∙ ap (λ (x : C). if nat_le 0 (length (machine.granted m st t x)) then Some (steps.failed m st t x 0) else None) at.call
                ∙ ap (λ (b : Bool). if b then Some (steps.failed m st t c 0) else None) (least (length (machine.granted m st t c))),
            refl,
            subst (λ (x : State C). Stands is_valid m told q x) final (is.state st t stands at.found),
          )

  -- the same, where nothing but the base was read before
  pub asked_after : (p p1 p2 : Parts C B) (s : ℕ) (qs : List Request) (got : Got) (more : Bool) → Stays is_valid m told p p1 → AreAsked is_valid m told p1 s qs got more p2 → AreAsked is_valid m told p s qs got more p2
  asked_after p p1 p2 s qs got more stays is = record {
    raised = λ st t stands found. is.raised st t (stays.state st stands) found;
    kept = λ none st stands. is.kept none st (stays.state st stands);
  }

  pub failed_after : (p p1 q : Parts C B) (s : ℕ) (k : ℕ) (f : Option ℕ) → Stays is_valid m told p p1 → IsFailedAgain is_valid m told p1 s k f q → IsFailedAgain is_valid m told p s k f q
  failed_after p p1 q s k f stays is = record {
    book = is.book ∙ ap (λ xs. xs ++ failed_retry s k f ∷ []) stays.book;
    prepared = is.prepared;
    state = λ st t stands found. is.state st t (stays.state st stands) found;
  }
