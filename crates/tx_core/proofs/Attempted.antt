-- A whole attempt: the machine's step, and the state after it.
use Rattle.std.proofs.Common.{◌≡◌, ℕ, zero, suc, Bool, true, false, ◌&&◌, ◌||◌, List, [], ◌∷◌, ◌++◌, take, length, get_or, ◌<◌, Option, Some, None, nat_lt, nat_le, is_some, refl, sym, ap, ap₂, subst, ◌∙◌, inl, inr, arith, append-nil, if◌then◌else◌}
use Rattle.std.proofs.lemmas.Bool.Decides.{nat_tests}
use Rattle.std.proofs.lemmas.List.{get_or_default}
use Rattle.std.proofs.lemmas.Option.{same_Some}
use Rattle.std.specs.Ordering.{nat_cmp}
use Rattle.std.specs.BTreeMap.{get}
use Rattle.tree_model.specs.Entries.{Entries}
use Rattle.tree_model.specs.declared.reply.Reply.{Reply}
use Rattle.lock_resources.specs.declared.request.Request.{Request}
use Rattle.call_contract.specs.Calls.{CallMeaning}
use Rattle.call_contract.specs.States.{Waiting, Live, State, view, of_session, put, others, without, ended}
use Rattle.call_contract.specs.Attempts as machine
use Rattle.call_contract.specs.Waits.{cycle_through}
use Rattle.call_contract.specs.Steps as steps
use Rattle.call_contract.specs.declared.events.Answer.{Answer}
use Rattle.call_contract.specs.declared.events.Answer.TheVariants as answer
use Rattle.call_contract.specs.declared.events.Event.TheVariants as event
use Rattle.call_contract.specs.declared.events.EventAnswer.TheVariants as said
use Rattle.call_contract.proofs.Lists.{found_named, found_put}
use Rattle.tx_core.specs.declared.parts.Parts.{Parts}
use Rattle.tx_core.specs.declared.asking.Got.{Got}
use Rattle.tx_core.specs.declared.asking.Got.TheVariants.{All, Barred, NoMemory}
use Rattle.tx_core.specs.inside.Asking.{granted_in, IsInside}
use Rattle.tx_core.specs.declared.errors.CallError.{CallError}
use Rattle.tx_core.specs.declared.errors.CallError.TheVariants as call_error
use Rattle.tx_core.specs.declared.parts.Seat.{Seat}
use Rattle.tx_core.specs.inside.Sessions.{wait_in, wait_of}
use Rattle.tx_core.specs.inside.Standing.{Stands, IsSeat, seat_in}
use Rattle.tx_core.specs.inside.Goes.{Goes, with_grants, Reaches, IsFreeUpTo, IsAsked, IsAnswered, IsStopped, IsFailed, IsFreeFront, IsLeft, IsSettled, IsUnanswered, Stays, with_answer, with_wait, unqueued, call_entry, fail_entry}
use Rattle.tx_core.proofs.Moves.{goes_by}
use Rattle.tx_core.proofs.Booked.{put_same}
use Rattle.tx_core.proofs.Reached.{front_in}
use Rattle.tx_core.proofs.Waited.{stays_on}

pub there_is : {A : Type 0} (xs : List A) (k : ℕ) → k < length xs → (x : A) × (x ≡ get_or xs k x)
there_is [] k lt = absurd_of (omega (arith, lt))
  where
    absurd_of : {A : Type 0} → ⊥ → A
    absurd_of e = absurd e
there_is (x ∷ xs) zero lt = (x, refl)
there_is (x ∷ xs) (suc k) lt = there_is xs k (omega (arith, lt))

pub same_at : {A : Type 0} (xs : List A) (k : ℕ) (x y : A) → k < length xs → x ≡ get_or xs k x → y ≡ get_or xs k y → x ≡ y
same_at xs k x y lt e f = e ∙ get_or_default xs k x y lt ∙ sym f

least : (n : ℕ) → nat_le 0 n ≡ true
least n = grind (arith, nat_tests)

module _ {C : Type 0} where
  pub put_twice : (t u : Live C) (ts : List (Live C)) → u.session ≡ t.session → put t (put u ts) ≡ put t ts
  put_twice t u [] same = grind (arith, nat_tests, same)
  put_twice t u (v ∷ vs) same = grind (arith, nat_tests, same, put_twice t u vs same)

  pub others_put : (s : ℕ) (t : Live C) (ts : List (Live C)) → t.session ≡ s → others s (put t ts) ≡ others s ts
  others_put s t [] same = grind (arith, nat_tests, same)
  others_put s t (v ∷ vs) same = grind (arith, nat_tests, same, others_put s t vs same)

module _ {C B : Type 0} (is_valid : C → Type 0) (m : CallMeaning C) (told : B → Option Entries) where
  -- the machine's step at a call of a live transaction that doesn't wait
  attempt_steps : (st : State C) (s : ℕ) (t : Live C) (c : C) → of_session s st.live ≡ Some t → t.waits ≡ None
      → steps.step m st s (event.Call c) ≡ Some (steps.attempt m st t c)
  attempt_steps st s t c found ready =
      ap (λ (o : Option (Live C)). steps.step_of m st s o (event.Call c)) found
      ∙ ap (λ (w : Option (Waiting C)). if is_some w then None else Some (steps.attempt m st t c)) ready

  -- what it is granted, and where it is stopped, by the requests that were asked
  pub granted_by : (st : State C) (t : Live C) (c : C) (asks front : List Request) → asks ≡ machine.asked m st t c → machine.free asks (others t.session st.live) ≡ front → machine.granted m st t c ≡ front
  granted_by st t c asks front are is = ap (λ xs. machine.free xs (others t.session st.live)) (sym are) ∙ is

  pub stopped_by : (st : State C) (t : Live C) (c : C) (asks : List Request) (o : Option Request) → asks ≡ machine.asked m st t c → machine.barred asks (others t.session st.live) ≡ o → machine.stopped_at m st t c ≡ o
  stopped_by st t c asks o are is = ap (λ xs. machine.barred xs (others t.session st.live)) (sym are) ∙ is

  pub more_found : (st : State C) (s : ℕ) (t : Live C) (got : List Request) → of_session s st.live ≡ Some t → of_session s (with_grants st t got).live ≡ Some (record t { grants = t.grants ++ got })
  more_found st s t got found = ap (λ x. of_session x (put (record t { grants = t.grants ++ got }) st.live)) (sym (found_named s st.live t found)) ∙ found_put (record t { grants = t.grants ++ got }) st.live

  answered_goes : (p p1 p2 q : Parts C B) (s : ℕ) (c : C) (asks : List Request) (a : Answer) → is_valid c
      → ((st : State C) → Stands is_valid m told p st → IsAsked m st s c asks)
      → ((st : State C) → Stands is_valid m told p st → Stands is_valid m told p1 st)
      → ((st : State C) (t : Live C) → Stands is_valid m told p1 st → of_session s st.live ≡ Some t → Reaches is_valid m told st t asks p2 All)
      → p2.book.items ≡ p.book.items
      → IsAnswered is_valid m told p2 s c a q → Goes is_valid m told p (call_entry s c a) q
  answered_goes p p1 p2 q s c asks a valid asked stays reach same is =
      goes_by is_valid m told p (call_entry s c a) q (is.book ∙ ap (λ xs. xs ++ call_entry s c a ∷ []) same) valid is.prepared moves
    where
      moves : (st : State C) → Stands is_valid m told p st → (o : steps.Outcome C) × (steps.step m st s (event.Call c) ≡ Some o) × (said.Call a ≡ o.answer) × Stands is_valid m told q o.state
      moves st stands =
          let ask = asked st stands in
          let t = ask.live in
          let got = reach st t (stays st stands) ask.found in
          let st1 = with_grants st t asks in
          let t1 : Live C = record t { grants = t.grants ++ asks } in
          let found1 = more_found st s t asks ask.found in
          let reply : is.reply ≡ m.reply c (view m t.calls st.tree) = is.means st1 t1 got.2 found1 in
          let named = found_named s st.live t ask.found in
          let grants : machine.granted m st t c ≡ asks = granted_by st t c asks asks ask.are got.0 in
          let one : Reply → List Request → Live C = λ r gs. record t { calls = t.calls ++ record { call = c; reply = r } ∷ []; grants = t.grants ++ gs; waits = None } in
          let final : unqueued (with_answer st1 t1 c is.reply) s ≡ machine.answered m st t c =
          ap₂ (λ (l : List (Live C)) (w : List ℕ). record st { live = l; waiting = w })
          (put_twice (one is.reply asks) t1 st.live refl ∙ ap₂ (λ (r : Reply) (gs : List Request). put (one r gs) st.live) reply (sym grants))
          (ap (λ x. without x st.waiting) (sym named)) in (
            record { state = machine.answered m st t c; answer = said.Call (answer.Answered (m.reply c (view m t.calls st.tree))) },
            attempt_steps st s t c ask.found ask.ready ∙ ap (λ (o : Option Request). Some (steps.settled m st t c o)) (stopped_by st t c asks None ask.are got.1),
            ap said.Call (is.is ∙ ap answer.Answered reply),
            subst (λ (x : State C). Stands is_valid m told q x) final (is.state st1 t1 got.2 found1),
          )

  stopped_goes : (p p1 p2 q : Parts C B) (s : ℕ) (c : C) (asks : List Request) (k : ℕ) (g : Request) (hs : List ℕ) (a : Answer) → is_valid c
      → ((st : State C) → Stands is_valid m told p st → IsAsked m st s c asks)
      → ((st : State C) → Stands is_valid m told p st → Stands is_valid m told p1 st)
      → ((st : State C) (t : Live C) → Stands is_valid m told p1 st → of_session s st.live ≡ Some t → IsFreeUpTo is_valid m told st t asks k g hs × Stands is_valid m told p2 (with_grants st t (take k asks)))
      → p2.book.items ≡ p.book.items
      → IsStopped is_valid m told p2 s c g hs a q → Goes is_valid m told p (call_entry s c a) q
  stopped_goes p p1 p2 q s c asks k g hs a valid asked stays reach same (inl is) =
      goes_by is_valid m told p (call_entry s c a) q (is.book ∙ ap (λ xs. xs ++ call_entry s c a ∷ []) same) valid is.prepared moves
    where
      moves : (st : State C) → Stands is_valid m told p st → (o : steps.Outcome C) × (steps.step m st s (event.Call c) ≡ Some o) × (said.Call a ≡ o.answer) × Stands is_valid m told q o.state
      moves st stands =
          let ask = asked st stands in
          let t = ask.live in
          let front = take k asks in
          let got = reach st t (stays st stands) ask.found in
          let st1 = with_grants st t front in
          let t1 : Live C = record t { grants = t.grants ++ front } in
          let found1 = more_found st s t front ask.found in
          let named = found_named s st.live t ask.found in
          let grants : machine.granted m st t c ≡ front = granted_by st t c asks front ask.are got.0.free in
          let one : List Request → Live C = λ gs. record t { grants = t.grants ++ gs; waits = Some (record { call = c; request = g }) } in
          let live : (with_wait st1 t1 c g).live ≡ (machine.waits_with m st t c g).live = put_twice (one front) t1 st.live refl ∙ ap (λ (gs : List Request). put (one gs) st.live) (sym grants) in
          let alone : cycle_through (machine.waits_with m st t c g).live t.session ≡ None = ap₂ (λ (l : List (Live C)) (x : ℕ). cycle_through l x) (sym live) named ∙ is.alone st1 t1 got.1 found1 in
          let queue : st.waiting ++ s ∷ [] ≡ machine.queued t.session t.waits st.waiting = ap (λ x. st.waiting ++ x ∷ []) (sym named) ∙ ap (λ w. machine.queued t.session w st.waiting) (sym ask.ready) in
          let final : record (with_wait st1 t1 c g) { waiting = st.waiting ++ s ∷ [] } ≡ machine.waits_with m st t c g = ap₂ (λ (l : List (Live C)) (w : List ℕ). record st { live = l; waiting = w }) live queue in (
            record { state = machine.waits_with m st t c g; answer = said.Call (answer.Waits g.resource g.ask (machine.holders g (others t.session st.live))) },
            attempt_steps st s t c ask.found ask.ready
                ∙ ap (λ (o : Option Request). Some (steps.settled m st t c o)) (stopped_by st t c asks (Some g) ask.are got.0.barred)
                ∙ ap (λ (r : Option (List ℕ)). Some (steps.unless_cycle st (machine.waits_with m st t c g) t.session g r)) alone,
            ap said.Call (is.is ∙ ap (answer.Waits g.resource g.ask) (sym got.0.holders)),
            subst (λ (x : State C). Stands is_valid m told q x) final (is.state st1 t1 got.1 found1),
          )
  stopped_goes p p1 p2 q s c asks k g hs a valid asked stays reach same (inr is) =
      goes_by is_valid m told p (call_entry s c a) q (is.book ∙ ap (λ xs. xs ++ call_entry s c a ∷ []) same) valid is.prepared moves
    where
      moves : (st : State C) → Stands is_valid m told p st → (o : steps.Outcome C) × (steps.step m st s (event.Call c) ≡ Some o) × (said.Call a ≡ o.answer) × Stands is_valid m told q o.state
      moves st stands =
          let ask = asked st stands in
          let t = ask.live in
          let front = take k asks in
          let got = reach st t (stays st stands) ask.found in
          let st1 = with_grants st t front in
          let t1 : Live C = record t { grants = t.grants ++ front } in
          let found1 = more_found st s t front ask.found in
          let named = found_named s st.live t ask.found in
          let grants : machine.granted m st t c ≡ front = granted_by st t c asks front ask.are got.0.free in
          let one : List Request → Live C = λ gs. record t { grants = t.grants ++ gs; waits = Some (record { call = c; request = g }) } in
          let live : (with_wait st1 t1 c g).live ≡ (machine.waits_with m st t c g).live = put_twice (one front) t1 st.live refl ∙ ap (λ (gs : List Request). put (one gs) st.live) (sym grants) in
          let closes : cycle_through (machine.waits_with m st t c g).live t.session ≡ Some is.cycle = ap₂ (λ (l : List (Live C)) (x : ℕ). cycle_through l x) (sym live) named ∙ is.closes st1 t1 got.1 found1 in
          let final : ended st1 s ≡ ended st t.session =
          ap₂ (λ (l : List (Live C)) (w : List ℕ). record st { live = l; waiting = w })
          (others_put s t1 st.live named ∙ ap (λ x. others x st.live) (sym named)) (ap (λ x. without x st.waiting) (sym named)) in (
            record { state = ended st t.session; answer = said.Call (answer.Deadlock is.cycle) },
            attempt_steps st s t c ask.found ask.ready
                ∙ ap (λ (o : Option Request). Some (steps.settled m st t c o)) (stopped_by st t c asks (Some g) ask.are got.0.barred)
                ∙ ap (λ (r : Option (List ℕ)). Some (steps.unless_cycle st (machine.waits_with m st t c g) t.session g r)) closes,
            ap said.Call is.is,
            subst (λ (x : State C). Stands is_valid m told q x) final (is.state st1 got.1),
          )

  -- a failed attempt that is noted
  failed_goes : (p p1 p2 q : Parts C B) (s : ℕ) (c : C) (asks : List Request) (k : ℕ) (f : Option ℕ) → is_valid c
      → ((st : State C) → Stands is_valid m told p st → IsAsked m st s c asks)
      → ((st : State C) → Stands is_valid m told p st → Stands is_valid m told p1 st)
      → ((st : State C) (t : Live C) → Stands is_valid m told p1 st → of_session s st.live ≡ Some t → IsFreeFront is_valid m told st t asks k × Stands is_valid m told p2 (with_grants st t (take k asks)))
      → p2.book.items ≡ p.book.items
      → IsFailed is_valid m told p2 s c k f q → Goes is_valid m told p (fail_entry s c k f) q
  failed_goes p p1 p2 q s c asks k f valid asked stays reach same is =
      goes_by is_valid m told p (fail_entry s c k f) q (is.book ∙ ap (λ xs. xs ++ fail_entry s c k f ∷ []) same) valid is.prepared moves
    where
      moves : (st : State C) → Stands is_valid m told p st → (o : steps.Outcome C) × (steps.step m st s (event.Fail (Some c) k f) ≡ Some o) × (said.Nothing ≡ o.answer) × Stands is_valid m told q o.state
      moves st stands =
          let ask = asked st stands in
          let t = ask.live in
          let got = reach st t (stays st stands) ask.found in
          let named = found_named s st.live t ask.found in
          let are : machine.granted m st t c ≡ machine.free asks (others t.session st.live) = granted_by st t c asks (machine.free asks (others t.session st.live)) ask.are refl in
          let test : ((is_some f || nat_lt 0 k) && nat_le k (length (machine.granted m st t c))) ≡ true = ap₂ (λ (x y : Bool). x && y) is.some (ap (λ xs. nat_le k (length xs)) are ∙ got.0.within) in
          let part : take k (machine.granted m st t c) ≡ take k asks = ap (take k) are ∙ got.0.part in
          let final : unqueued (with_grants st t (take k asks)) s ≡ (steps.failed m st t c k).state =
          ap₂ (λ (l : List (Live C)) (w : List ℕ). record st { live = l; waiting = w })
          (ap₂ (λ (gs : List Request) (w : Option (Waiting C)). put (record t { grants = t.grants ++ gs; waits = w }) st.live) (sym part) ask.ready)
          (ap (λ x. without x st.waiting) (sym named)) in (
            steps.failed m st t c k,
            ap (λ (o : Option (Live C)). steps.step_of m st s o (event.Fail (Some c) k f)) ask.found
                ∙ ap (λ (w : Option (Waiting C)). steps.given_up m st t (Some c) w k f) ask.ready
                ∙ ap (λ (b : Bool). if b then Some (steps.failed m st t c k) else None) test,
            refl,
            subst (λ (x : State C). Stands is_valid m told q x) final (is.state (with_grants st t (take k asks)) got.1),
          )

  -- a session whose transaction waits for nothing
  rests : (p : Parts C B) (st : State C) (s : ℕ) → Stands is_valid m told p st → wait_in (get nat_cmp p.places s) ≡ Some None → (t : Live C) × (of_session s st.live ≡ Some t) × (t.waits ≡ None)
  rests p st s stands free = go (seat_in (get nat_cmp p.places s)) (of_session s st.live) (stands.seats s) free
    where
      none_of : (w : Option (Waiting C)) → is_some w ≡ false → w ≡ None
      none_of None e = refl
      none_of (Some w) e = cc

      go : (x : Option Seat) (o : Option (Live C)) → IsSeat is_valid m st.tree x o → wait_of x ≡ Some None → (t : Live C) × (o ≡ Some t) × (t.waits ≡ None)
      go None o is none = cc
      go (Some seat) None is none = absurd is
      go (Some seat) (Some t) is none = (t, refl, none_of t.waits (sym is.waits ∙ ap is_some (same_Some seat.waiting None none)))

  -- one that failed before anything was asked
  pub failed_at_once : (p q : Parts C B) (s : ℕ) (c : C) (f : Option ℕ) → is_valid c → wait_in (get nat_cmp p.places s) ≡ Some None → IsFailed is_valid m told p s c 0 f q → Goes is_valid m told p (fail_entry s c 0 f) q
  failed_at_once p q s c f valid free is = goes_by is_valid m told p (fail_entry s c 0 f) q is.book valid is.prepared moves
    where
      moves : (st : State C) → Stands is_valid m told p st → (o : steps.Outcome C) × (steps.step m st s (event.Fail (Some c) 0 f) ≡ Some o) × (said.Nothing ≡ o.answer) × Stands is_valid m told q o.state
      moves st stands =
          let live = rests p st s stands free in
          let t = live.0 in
          let named = found_named s st.live t live.1 in
          let test : ((is_some f || nat_lt 0 0) && nat_le 0 (length (machine.granted m st t c))) ≡ true = ap₂ (λ (x y : Bool). x && y) is.some (least (length (machine.granted m st t c))) in
          let final : unqueued st s ≡ (steps.failed m st t c 0).state =
          ap₂ (λ (l : List (Live C)) (w : List ℕ). record st { live = l; waiting = w })
          (sym (put_same t st.live stands.rise (subst (λ x. of_session x st.live ≡ Some t) (sym named) live.1)) ∙ ap₂ (λ (gs : List Request) (w : Option (Waiting C)). put (record t { grants = gs; waits = w }) st.live) (sym (append-nil t.grants)) live.2)
          (ap (λ x. without x st.waiting) (sym named)) in (
            steps.failed m st t c 0,
            ap (λ (o : Option (Live C)). steps.step_of m st s o (event.Fail (Some c) 0 f)) live.1
                ∙ ap (λ (w : Option (Waiting C)). steps.given_up m st t (Some c) w 0 f) live.2
                ∙ ap (λ (b : Bool). if b then Some (steps.failed m st t c 0) else None) test,
            refl,
            subst (λ (x : State C). Stands is_valid m told q x) final (is.state st stands),
          )

  -- what was only read before
  pub failed_on : (p p1 q : Parts C B) (s : ℕ) (c : C) (k : ℕ) (f : Option ℕ) → Stays is_valid m told p p1 → IsFailed is_valid m told p1 s c k f q → IsFailed is_valid m told p s c k f q
  failed_on p p1 q s c k f stays is = record {
    book = is.book ∙ ap (λ xs. xs ++ fail_entry s c k f ∷ []) stays.book;
    prepared = is.prepared;
    some = is.some;
    state = λ st stands. is.state st (stays.state st stands);
  }

  pub left_after : (count : B → ℕ) (p p1 q : Parts C B) (s : ℕ) (c : C) (k : ℕ) (e : CallError) → Stays is_valid m told p p1 → IsLeft is_valid m told count p1 s c k e q → IsLeft is_valid m told count p s c k e q
  left_after count p p1 q s c k (call_error.Session why) stays is = is
  left_after count p p1 q s c k call_error.NoMemory stays (inl (none, on)) = inl (none, stays_on is_valid m told p p1 q stays on)
  left_after count p p1 q s c k call_error.NoMemory stays (inr (some, is)) = inr (some, failed_on p p1 q s c k None stays is)
  left_after count p p1 q s c k call_error.DiskFault stays is = failed_on p p1 q s c k (Some (count q.base)) stays is

  -- what is left where nothing was asked
  pub left_at_once : (count : B → ℕ) (p q : Parts C B) (s : ℕ) (c : C) (e : CallError) → is_valid c → wait_in (get nat_cmp p.places s) ≡ Some None → IsLeft is_valid m told count p s c 0 e q → IsUnanswered is_valid m told count p s c e q
  left_at_once count p q s c (call_error.Session why) valid free is = absurd is
  left_at_once count p q s c call_error.NoMemory valid free (inl (none, stays)) = inl stays
  left_at_once count p q s c call_error.NoMemory valid free (inr (some, is)) = absurd (omega (arith, some))
  left_at_once count p q s c call_error.DiskFault valid free is = (0, failed_at_once p q s c (Some (count q.base)) valid free is)

  pub settled_goes : (p p1 p2 q : Parts C B) (s : ℕ) (c : C) (asks : List Request) (got : Got) (a : Answer) → is_valid c
      → ((st : State C) → Stands is_valid m told p st → IsAsked m st s c asks)
      → ((st : State C) → Stands is_valid m told p st → Stands is_valid m told p1 st)
      → ((st : State C) (t : Live C) → Stands is_valid m told p1 st → of_session s st.live ≡ Some t → Reaches is_valid m told st t asks p2 got)
      → IsInside asks got → p2.book.items ≡ p.book.items
      → IsSettled is_valid m told p2 s c asks got a q → Goes is_valid m told p (call_entry s c a) q
  settled_goes p p1 p2 q s c asks All a valid asked stays reach inside same is = answered_goes p p1 p2 q s c asks a valid asked stays reach same is
  settled_goes p p1 p2 q s c asks (Barred k hs) a valid asked stays reach inside same is =
      let g = there_is asks k inside in
      let reached : (st : State C) (t : Live C) → Stands is_valid m told p1 st → of_session s st.live ≡ Some t → IsFreeUpTo is_valid m told st t asks k g.0 hs × Stands is_valid m told p2 (with_grants st t (take k asks)) =
      λ st t stands found.
      let got = reach st t stands found in
      (subst (λ x. IsFreeUpTo is_valid m told st t asks k x hs) (same_at asks k got.0 g.0 inside got.1.here g.1) got.1, got.2) in
      stopped_goes p p1 p2 q s c asks k g.0 hs a valid asked stays reached same (is g.0 g.1)
  settled_goes p p1 p2 q s c asks (NoMemory k) a valid asked stays reach inside same is = absurd is

  pub left_goes : (count : B → ℕ) (p p1 p2 q : Parts C B) (s : ℕ) (c : C) (asks : List Request) (got : Got) (e : CallError) → is_valid c
      → ((st : State C) → Stands is_valid m told p st → IsAsked m st s c asks)
      → ((st : State C) → Stands is_valid m told p st → Stands is_valid m told p1 st)
      → ((st : State C) (t : Live C) → Stands is_valid m told p1 st → of_session s st.live ≡ Some t → Reaches is_valid m told st t asks p2 got)
      → (granted_in asks got ≡ 0 → (st : State C) → Stands is_valid m told p1 st → Stands is_valid m told p2 st) → p2.book.items ≡ p.book.items → p2.prepared ≡ p.prepared
      → IsLeft is_valid m told count p2 s c (granted_in asks got) e q → IsUnanswered is_valid m told count p s c e q
  left_goes count p p1 p2 q s c asks got (call_error.Session why) valid asked stays reach untouched same prepared is = absurd is
  left_goes count p p1 p2 q s c asks got call_error.NoMemory valid asked stays reach untouched same prepared (inl (none, is)) =
      inl (record { book = is.book ∙ same; prepared = is.prepared ∙ prepared; state = λ st stands. is.state st (untouched none st (stays st stands)) })
  left_goes count p p1 p2 q s c asks got call_error.NoMemory valid asked stays reach untouched same prepared (inr (some, is)) =
      inr (granted_in asks got, some, failed_goes p p1 p2 q s c asks (granted_in asks got) None valid asked stays (λ st t stands found. front_in is_valid m told st t asks p2 got (reach st t stands found)) same is)
  left_goes count p p1 p2 q s c asks got call_error.DiskFault valid asked stays reach untouched same prepared is =
      (granted_in asks got, failed_goes p p1 p2 q s c asks (granted_in asks got) (Some (count q.base)) valid asked stays (λ st t stands found. front_in is_valid m told st t asks p2 got (reach st t stands found)) same is)
