-- What an entry of another session leaves of a session.
use Rattle.std.proofs.Common.{◌≡◌, ◌∙◌, ◌==◌, ◌+◌, ℕ, Bool, true, false, cond, refl, sym, ap, subst, List, [], ◌∷◌, ◌++◌, Option, Some, None, true≢false, ◌||◌}
use Rattle.std.specs.Prelude.{◌&&◌, is_some, nat_lt, nat_le, length, take}
use Rattle.std.specs.Cmp.{unsigned_Decides}
use Rattle.lock_resources.specs.declared.request.Request.{Request}
use Rattle.call_contract.specs.Attempts.{granted, stopped_at, waits_with}
use Rattle.call_contract.specs.Books.{next, state_of}
use Rattle.call_contract.specs.Calls.{CallMeaning}
use Rattle.call_contract.specs.States.{Live, State, Waiting, of_session, others, put, view}
use Rattle.call_contract.specs.Steps.{Outcome, attempt, begun_by, committed, failed, given_up, new_live, retried, settled, step_of, unless_cycle}
use Rattle.call_contract.specs.Waits.{cycle_through}
use Rattle.call_contract.specs.declared.events.Event.{Event}
use Rattle.call_contract.specs.declared.events.Event.TheVariants.{Begin, Call, Retry, Fail, Commit, Abort}
use Rattle.call_contract.specs.declared.events.EventAnswer.TheVariants as said
use Rattle.call_contract.specs.declared.events.Noted.{Noted}

-- two different numbers: one of them isn't a third that the other is
apart : (a b s : ℕ) → (a == b) ≡ true → (a == s) ≡ false → (b == s) ≡ false
apart a b s e f = subst (λ k. (k == s) ≡ false) ((unsigned_Decides a b).0 e) f

module _ {C : Type 0} where
  put_apart : (t : Live C) (ts : List (Live C)) (s : ℕ) → (t.session == s) ≡ false → of_session s (put t ts) ≡ of_session s ts
  put_apart t [] s f = ap (λ b. cond b (Some t) None) f
  put_apart t (u ∷ us) s f = go (u.session == t.session) refl (nat_lt t.session u.session) (put_apart t us s f)
    where
      here : (rest : List (Live C)) → of_session s (t ∷ rest) ≡ of_session s rest
      here rest = ap (λ b. cond b (Some t) (of_session s rest)) f

      go : (b : Bool) → (u.session == t.session) ≡ b → (d : Bool) → of_session s (put t us) ≡ of_session s us
          → of_session s (cond b (t ∷ us) (cond d (t ∷ u ∷ us) (u ∷ put t us))) ≡ of_session s (u ∷ us)
      go true e d ih = here us ∙ sym (ap (λ b. cond b (Some u) (of_session s us)) (subst (λ k. (k == s) ≡ false) (sym ((unsigned_Decides u.session t.session).0 e)) f))
      go false e true ih = here (u ∷ us)
      go false e false ih = ap (λ o. cond (u.session == s) (Some u) o) ih

  others_apart : (k : ℕ) (ts : List (Live C)) (s : ℕ) → (k == s) ≡ false → of_session s (others k ts) ≡ of_session s ts
  others_apart k [] s f = refl
  others_apart k (t ∷ ts) s f = go (t.session == k) refl (others_apart k ts s f)
    where
      go : (b : Bool) → (t.session == k) ≡ b → of_session s (others k ts) ≡ of_session s ts → of_session s (cond b (others k ts) (t ∷ others k ts)) ≡ of_session s (t ∷ ts)
      go true e ih = ih ∙ sym (ap (λ b. cond b (Some t) (of_session s ts)) (subst (λ n. (n == s) ≡ false) (sym ((unsigned_Decides t.session k).0 e)) f))
      go false e ih = ap (λ o. cond (t.session == s) (Some t) o) ih

  -- the transaction of a session is the session's
  is_of : (s : ℕ) (ts : List (Live C)) (t : Live C) → of_session s ts ≡ Some t → t.session ≡ s
  is_of s [] t e = absurd (none_is_no_some e)
    where
      none_is_no_some : {A : Type 0} {x : A} → None ≡ Some x → ⊥
      none_is_no_some {A} h = subst is h tt
        where
          is : Option A → Type 0
          is None = Unit {0}
          is (Some y) = ⊥
  is_of s (u ∷ us) t e = go (u.session == s) refl e (is_of s us t)
    where
      session_of : Option (Live C) → ℕ
      session_of None = s
      session_of (Some x) = x.session

      go : (b : Bool) → (u.session == s) ≡ b → cond b (Some u) (of_session s us) ≡ Some t → (of_session s us ≡ Some t → t.session ≡ s) → t.session ≡ s
      go true d h further = sym (ap session_of h) ∙ (unsigned_Decides u.session s).0 d
      go false d h further = further h

other_way : (a b : ℕ) → (a == b) ≡ false → (b == a) ≡ false
other_way a b e = go (b == a) refl
  where
    go : (w : Bool) → (b == a) ≡ w → (b == a) ≡ false
    go false f = f
    go true f = absurd (true≢false (sym ((unsigned_Decides a b).1 (sym ((unsigned_Decides b a).0 f))) ∙ e))

module _ {C : Type 0} (m : CallMeaning C) (s : ℕ) where
  -- the session's transaction and its ordinal are as they were
  abbrev Same : State C → State C → Type 0
  Same old new = (of_session s new.live ≡ of_session s old.live) × (new.ordinals s ≡ old.ordinals s)

  if_attempted : (st : State C) (o : Outcome C) (b : Bool) → Same st o.state → Same st (state_of st (cond b None (Some o)))
  if_attempted st o true h = (refl, refl)
  if_attempted st o false h = h

  attempted : (st : State C) (t : Live C) (c : C) → (t.session == s) ≡ false → Same st (attempt m st t c).state
  attempted st t c f = go (stopped_at m st t c)
    where
      cycled : (g : Request) (cycle : Option (List ℕ)) → Same st (unless_cycle st (waits_with m st t c g) t.session g cycle).state
      cycled g None = (put_apart (record t { grants = t.grants ++ granted m st t c; waits = Some (record { call = c; request = g }) }) st.live s f, refl)
      cycled g (Some cycle) = (others_apart t.session st.live s f, refl)

      go : (o : Option Request) → Same st (settled m st t c o).state
      go None = (
        put_apart (record t {
          calls = t.calls ++ record { call = c; reply = m.reply c (view m t.calls st.tree) } ∷ [];
          grants = t.grants ++ granted m st t c;
          waits = None;
        }) st.live s f,
        refl,
      )
      go (Some g) = cycled g (cycle_through (waits_with m st t c g).live t.session)

  gave_up : (st : State C) (t : Live C) (c : C) (k : ℕ) (b : Bool) → (t.session == s) ≡ false → Same st (state_of st (cond b (Some (failed m st t c k)) None))
  gave_up st t c k true f = (put_apart (record t { grants = t.grants ++ take k (granted m st t c); waits = None }) st.live s f, refl)
  gave_up st t c k false f = (refl, refl)

  stepped : (st : State C) (k : ℕ) (o : Option (Live C)) (e : Event C) → (k == s) ≡ false → ((t : Live C) → o ≡ Some t → t.session ≡ k) → Same st (state_of st (step_of m st k o e))
  stepped st k None Begin f is = go (st.opening + st.begun == st.limit)
    where
      go : (b : Bool) → Same st (state_of st (cond b None (Some (record { state = begun_by st k; answer = said.Number (st.ordinals k + 1) }))))
      go true = (refl, refl)
      go false = (put_apart (new_live k (st.ordinals k + 1)) st.live s f, ap (λ b. cond b (st.ordinals k + 1) (st.ordinals s)) (other_way k s f))
  stepped st k None (Call c) f is = (refl, refl)
  stepped st k None Retry f is = (refl, refl)
  stepped st k None (Fail c n g) f is = (refl, refl)
  stepped st k None Commit f is = (refl, refl)
  stepped st k None Abort f is = (refl, refl)
  stepped st k (Some t) e f is = with_live_one e (subst (λ n. (n == s) ≡ false) (sym (is t refl)) f)
    where
      again : (w : Option (Waiting C)) → (t.session == s) ≡ false → Same st (state_of st (retried m st t w))
      again None h = (refl, refl)
      again (Some w) h = attempted st t w.call h

      failing : (c : Option C) (w : Option (Waiting C)) (n : ℕ) (g : Option ℕ) → (t.session == s) ≡ false → Same st (state_of st (given_up m st t c w n g))
      failing (Some c) None n g h = gave_up st t c n ((is_some g || nat_lt 0 n) && nat_le n (length (granted m st t c))) h
      failing None (Some w) n g h = gave_up st t w.call n (nat_le n (length (granted m st t w.call))) h
      failing (Some c) (Some w) n g h = (refl, refl)
      failing None None n g h = (refl, refl)

      with_live_one : (e : Event C) → (t.session == s) ≡ false → Same st (state_of st (step_of m st k (Some t) e))
      with_live_one Begin h = (refl, refl)
      with_live_one (Call c) h = if_attempted st (attempt m st t c) (is_some t.waits) (attempted st t c h)
      with_live_one Retry h = again t.waits h
      with_live_one (Fail c n g) h = failing c t.waits n g h
      with_live_one Commit h = if_attempted st (record { state = committed m st t; answer = said.Number (st.number + 1) }) (is_some t.waits) (others_apart t.session st.live s h, refl)
      with_live_one Abort h = (others_apart k st.live s f, refl)

  same : (st : State C) (n : Noted C) → (n.session == s) ≡ false → Same st (next m st n)
  same st n f = stepped st n.session (of_session n.session st.live) n.event f (λ t e. is_of n.session st.live t e)

pub same_live : {C : Type 0} (m : CallMeaning C) (s : ℕ) (st : State C) (n : Noted C) → (n.session == s) ≡ false → of_session s (next m st n).live ≡ of_session s st.live
same_live m s st n f = (same m s st n f).0

pub same_ordinal : {C : Type 0} (m : CallMeaning C) (s : ℕ) (st : State C) (n : Noted C) → (n.session == s) ≡ false → (next m st n).ordinals s ≡ st.ordinals s
same_ordinal m s st n f = (same m s st n f).1
