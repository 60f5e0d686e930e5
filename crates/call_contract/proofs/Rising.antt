-- The sessions of live transactions rise, so do those of holders; and what holds of live transactions however they change.
use Rattle.std.proofs.Common.{◌≡◌, ℕ, ◌+◌, Bool, true, false, ◌&&◌, ◌||◌, List, [], ◌∷◌, ◌++◌, take, length, Option, Some, None, is_some, nat_lt, nat_le, ◌==◌, refl, subst, arith, if◌then◌else◌}
use Rattle.std.proofs.lemmas.Bool.Decides.{nat_tests}
use Rattle.std.specs.List.{AllByRecursion}
use Rattle.lock_resources.specs.declared.request.Request.{Request}
use Rattle.tree_cells.specs.Clashes.{bars}
use Rattle.wait_cycles.specs.Walks.{Rises}
use Rattle.call_contract.specs.declared.events.Event.{Event}
use Rattle.call_contract.specs.declared.events.Event.TheVariants.{Begin, Call, Retry, Fail, Commit, Abort}
use Rattle.call_contract.specs.declared.events.EventAnswer.TheVariants as said
use Rattle.call_contract.specs.Calls.{CallMeaning}
use Rattle.call_contract.specs.States.{Waiting, Live, State, of_session, put, others, sessions, view}
use Rattle.call_contract.specs.Attempts.{holders, granted, stopped_at, waits_with}
use Rattle.call_contract.specs.Waits.{cycle_through}
use Rattle.call_contract.specs.Steps.{Outcome, unless_cycle, settled, attempt, retried, failed, given_up, committed, begun_by, new_live, step_of}
use Rattle.call_contract.specs.Books.{Book, state_of, next, last}

-- ---- sessions rise

abbrev AllAbove : ℕ → List ℕ → Type 0
AllAbove c xs = AllByRecursion (λ d. nat_lt c d ≡ true) xs

lower : (b c : ℕ) (xs : List ℕ) → nat_lt b c ≡ true → AllAbove c xs → AllAbove b xs
lower b c [] less all = tt
lower b c (x ∷ xs) less all = (between x all.0, lower b c xs less all.1)
  where
    between : (x : ℕ) → nat_lt c x ≡ true → nat_lt b x ≡ true
    between x e = grind (arith, nat_tests, less, e)

module _ {C : Type 0} where
  all_put : (c : ℕ) (t : Live C) (ts : List (Live C)) → nat_lt c t.session ≡ true → AllAbove c (sessions ts) → AllAbove c (sessions (put t ts))
  all_put c t [] less all = (less, tt)
  all_put c t (u ∷ us) less all = go (u.session == t.session) (nat_lt t.session u.session) (all_put c t us less all.1)
    where
      go : (a b : Bool) → AllAbove c (sessions (put t us)) → AllAbove c (sessions (if a then t ∷ us else if b then t ∷ u ∷ us else u ∷ put t us))
      go true b rest = (less, all.1)
      go false true rest = (less, all)
      go false false rest = (all.0, rest)

  pub rises_put : (t : Live C) (ts : List (Live C)) → Rises (sessions ts) → Rises (sessions (put t ts))
  rises_put t [] rise = (tt, tt)
  rises_put t (u ∷ us) rise = go (u.session == t.session) refl (nat_lt t.session u.session) refl (rises_put t us rise.1)
    where
      go : (a : Bool) → (u.session == t.session) ≡ a → (b : Bool) → nat_lt t.session u.session ≡ b → Rises (sessions (put t us)) → Rises (sessions (if a then t ∷ us else if b then t ∷ u ∷ us else u ∷ put t us))
      go true e b f rest = (subst (λ c. AllAbove c (sessions us)) (the_same e) rise.0, rise.1)
        where
          the_same : (u.session == t.session) ≡ true → u.session ≡ t.session
          the_same e = grind (arith, nat_tests, e)
      go false e true f rest = ((f, lower t.session u.session (sessions us) f rise.0), rise)
      go false e false f rest = (all_put u.session t us (behind e f) rise.0, rest)
        where
          behind : (u.session == t.session) ≡ false → nat_lt t.session u.session ≡ false → nat_lt u.session t.session ≡ true
          behind e f = grind (arith, nat_tests, e, f)

  all_others : (c s : ℕ) (ts : List (Live C)) → AllAbove c (sessions ts) → AllAbove c (sessions (others s ts))
  all_others c s [] all = tt
  all_others c s (t ∷ ts) all = go (t.session == s) (all_others c s ts all.1)
    where
      go : (b : Bool) → AllAbove c (sessions (others s ts)) → AllAbove c (sessions (if b then others s ts else t ∷ others s ts))
      go true rest = rest
      go false rest = (all.0, rest)

  pub rises_others : (s : ℕ) (ts : List (Live C)) → Rises (sessions ts) → Rises (sessions (others s ts))
  rises_others s [] rise = tt
  rises_others s (t ∷ ts) rise = go (t.session == s) (rises_others s ts rise.1)
    where
      go : (b : Bool) → Rises (sessions (others s ts)) → Rises (sessions (if b then others s ts else t ∷ others s ts))
      go true rest = rest
      go false rest = (all_others t.session s ts rise.0, rest)

  -- ---- holders rise

  all_holders : (c : ℕ) (g : Request) (ts : List (Live C)) → AllAbove c (sessions ts) → AllAbove c (holders g ts)
  all_holders c g [] all = tt
  all_holders c g (t ∷ ts) all = go (bars t.grants g) (all_holders c g ts all.1)
    where
      go : (b : Bool) → AllAbove c (holders g ts) → AllAbove c (if b then t.session ∷ holders g ts else holders g ts)
      go true rest = (all.0, rest)
      go false rest = rest

  pub holders_rise : (g : Request) (ts : List (Live C)) → Rises (sessions ts) → Rises (holders g ts)
  holders_rise g [] rise = tt
  holders_rise g (t ∷ ts) rise = go (bars t.grants g) (holders_rise g ts rise.1)
    where
      go : (b : Bool) → Rises (holders g ts) → Rises (if b then t.session ∷ holders g ts else holders g ts)
      go true rest = (all_holders t.session g ts rise.0, rest)
      go false rest = rest

-- ---- what holds of the live transactions, whoever moves or ends

module _ {C : Type 0} (m : CallMeaning C) (P : List (Live C) → Type 0) (moves : (t : Live C) (ts : List (Live C)) → P ts → P (put t ts)) (ends : (s : ℕ) (ts : List (Live C)) → P ts → P (others s ts)) where
  attempt_keeps : (st : State C) (t : Live C) (c : C) → P st.live → P (attempt m st t c).state.live
  attempt_keeps st t c p = go (stopped_at m st t c)
    where
      cycled : (g : Request) (r : Option (List ℕ)) → P (unless_cycle st (waits_with m st t c g) t.session g r).state.live
      cycled g None = moves (record t { grants = t.grants ++ granted m st t c; waits = Some (record { call = c; request = g }) }) st.live p
      cycled g (Some members) = ends t.session st.live p

      go : (o : Option Request) → P (settled m st t c o).state.live
      go None = moves (record t { calls = t.calls ++ record { call = c; reply = m.reply c (view m t.calls st.tree) } ∷ []; grants = t.grants ++ granted m st t c; waits = None }) st.live p
      go (Some g) = cycled g (cycle_through (waits_with m st t c g).live t.session)

  if_keeps : (st : State C) (b : Bool) (o : Outcome C) → P st.live → P o.state.live → P (state_of st (if b then None else Some o)).live
  if_keeps st true o p q = p
  if_keeps st false o p q = q

  where_keeps : (st : State C) (b : Bool) (o : Outcome C) → P st.live → P o.state.live → P (state_of st (if b then Some o else None)).live
  where_keeps st true o p q = q
  where_keeps st false o p q = p

  retried_keeps : (st : State C) (t : Live C) (w : Option (Waiting C)) → P st.live → P (state_of st (retried m st t w)).live
  retried_keeps st t None p = p
  retried_keeps st t (Some w) p = attempt_keeps st t w.call p

  failed_keeps : (st : State C) (t : Live C) (c : C) (k : ℕ) → P st.live → P (failed m st t c k).state.live
  failed_keeps st t c k p = moves (record t { grants = t.grants ++ take k (granted m st t c); waits = None }) st.live p

  given_up_keeps : (st : State C) (t : Live C) (c : Option C) (w : Option (Waiting C)) (k : ℕ) (f : Option ℕ) → P st.live → P (state_of st (given_up m st t c w k f)).live
  given_up_keeps st t (Some c) None k f p = where_keeps st ((is_some f || nat_lt 0 k) && nat_le k (length (granted m st t c))) (failed m st t c k) p (failed_keeps st t c k p)
  given_up_keeps st t None (Some w) k f p = where_keeps st (nat_le k (length (granted m st t w.call))) (failed m st t w.call k) p (failed_keeps st t w.call k p)
  given_up_keeps st t (Some c) (Some w) k f p = p
  given_up_keeps st t None None k f p = p

  step_keeps : (st : State C) (s : ℕ) (o : Option (Live C)) (e : Event C) → P st.live → P (state_of st (step_of m st s o e)).live
  step_keeps st s None Begin p = if_keeps st (st.opening + st.begun == st.limit) (record { state = begun_by st s; answer = said.Number (st.ordinals s + 1) }) p (moves (new_live s (st.ordinals s + 1)) st.live p)
  step_keeps st s None (Call c) p = p
  step_keeps st s None Retry p = p
  step_keeps st s None (Fail c k f) p = p
  step_keeps st s None Commit p = p
  step_keeps st s None Abort p = p
  step_keeps st s (Some t) Begin p = p
  step_keeps st s (Some t) (Call c) p = if_keeps st (is_some t.waits) (attempt m st t c) p (attempt_keeps st t c p)
  step_keeps st s (Some t) Retry p = retried_keeps st t t.waits p
  step_keeps st s (Some t) (Fail c k f) p = given_up_keeps st t c t.waits k f p
  step_keeps st s (Some t) Commit p = if_keeps st (is_some t.waits) (record { state = committed m st t; answer = said.Number (st.number + 1) }) p (ends t.session st.live p)
  step_keeps st s (Some t) Abort p = ends s st.live p

  last_keeps : (st : State C) (book : Book C) → P st.live → P (last m st book).live
  last_keeps st [] p = p
  last_keeps st (n ∷ ns) p = last_keeps (next m st n) ns (step_keeps st n.session (of_session n.session st.live) n.event p)

pub last_rises : {C : Type 0} (m : CallMeaning C) (st : State C) (book : Book C) → Rises (sessions st.live) → Rises (sessions (last m st book).live)
last_rises m st book rise = last_keeps m (λ ts. Rises (sessions ts)) (λ t ts. rises_put t ts) (λ s ts. rises_others s ts) st book rise
