-- A call that waits, and whose request is still barred, waits on.
use Rattle.std.proofs.Common.{◌≡◌, ◌≢◌, ℕ, Bool, true, false, not, ◌&&◌, ◌||◌, List, [], ◌∷◌, ◌++◌, Option, Some, None, nat_lt, ◌==◌, refl, sym, ap, ap₂, subst, ⊎_elim, ◌∙◌, arith, true≢false, if◌then◌else◌}
use Rattle.std.proofs.lemmas.Bool.Decides.{nat_tests}
use Rattle.std.proofs.lemmas.List.Folds.{list_any-append}
use Rattle.std.specs.List.{AllByRecursion, list_any}
use Rattle.lock_modes.specs.declared.ask.Ask.{Ask}
use Rattle.lock_resources.specs.Intentions.{request}
use Rattle.lock_resources.specs.declared.request.Request.{Request}
use Rattle.lock_resources.specs.declared.resource.Resource.{Resource}
use Rattle.tree_cells.specs.Covers.{some_of}
use Rattle.tree_cells.specs.Clashes.{clash, bars, bar_each_other}
use Rattle.wait_cycles.specs.Walks.{Rises}
use Rattle.wait_cycles.specs.Cycles.{IsCycleThrough}
use Rattle.wait_cycles.proofs.Shown.{shown}
use Rattle.wait_cycles.proofs.Turned.{same_or_not}
use Rattle.call_contract.specs.declared.events.Answer.TheVariants.{Waits}
use Rattle.call_contract.specs.declared.events.Event.TheVariants.{Retry}
use Rattle.call_contract.specs.declared.events.EventAnswer.TheVariants as said
use Rattle.call_contract.specs.Calls.{CallMeaning}
use Rattle.call_contract.specs.States.{Waiting, Live, State, of_session, put, others, sessions}
use Rattle.call_contract.specs.Attempts.{is_barred, holders, free, barred, granted, stopped_at, waits_with}
use Rattle.call_contract.specs.Waits.{stops, is_stopped_by, waits_for, NoCycle, cycle_through}
use Rattle.call_contract.specs.Steps.{settled, retried, unless_cycle, step_of}
use Rattle.call_contract.specs.Waiters.{AreAmong, WaitersStand}
use Rattle.call_contract.specs.inside.Soundness.{AllSound}
use Rattle.call_contract.proofs.Fronts.{some_any, AllBehind, HasFront, WaitsBehind}
use Rattle.call_contract.proofs.Lists.{found_named, found_put, found_put_other}
use Rattle.call_contract.proofs.NoCycles.{nobody_for_himself, waiters_live}
use Rattle.call_contract.proofs.Rising.{rises_put}

or_none : (b : Bool) → (b || false) ≡ b
or_none true = refl
or_none false = refl

-- more requests that are among these are barred by nobody else
some_more : (p : Resource → Ask → Bool) (gs more : List Request) → AreAmong more gs → some_of p (gs ++ more) ≡ some_of p gs
some_more p gs more among = some_any p (gs ++ more) ∙ list_any-append test gs more ∙ go (list_any test gs) refl ∙ sym (some_any p gs)
  where
    test : Request → Bool
    test g = p g.resource g.ask

    go : (b : Bool) → list_any test gs ≡ b → (b || list_any test more) ≡ list_any test gs
    go true e = sym e
    go false e = among test e ∙ sym e

any_false : (gs : List Request) → list_any (λ g. false) gs ≡ false
any_false [] = refl
any_false (g ∷ gs) = any_false gs

any_or : (p q : Request → Bool) (gs : List Request) → list_any p gs ≡ false → list_any q gs ≡ false → list_any (λ g. p g || q g) gs ≡ false
any_or p q [] e f = refl
any_or p q (g ∷ gs) e f = go (p g) (q g) e f (any_or p q gs)
  where
    go : (a b : Bool) → (a || list_any p gs) ≡ false → (b || list_any q gs) ≡ false → (list_any p gs ≡ false → list_any q gs ≡ false → list_any (λ g. p g || q g) gs ≡ false)
        → ((a || b) || list_any (λ g. p g || q g) gs) ≡ false
    go true b e f rest = absurd (true≢false e)
    go false true e f rest = absurd (true≢false f)
    go false false e f rest = rest e f

module _ {C : Type 0} where
  -- ---- what a transaction holds is barred by no other

  none_below : (x : ℕ) (ts : List (Live C)) → AllByRecursion (λ d. nat_lt x d ≡ true) (sessions ts) → of_session x ts ≡ None
  none_below x [] all = refl
  none_below x (t ∷ ts) all =
      let other : (t.session == x) ≡ false = grind (arith, nat_tests, all.0) in
      ap (λ b. if b then Some t else of_session x ts) other ∙ none_below x ts all.1

  -- what holds of each other one, looked up, holds of the list of them
  all_others : (P : Live C → Type 0) (s : ℕ) (ts : List (Live C)) → Rises (sessions ts) → ((u : ℕ) (v : Live C) → of_session u ts ≡ Some v → u ≢ s → P v) → AllByRecursion P (others s ts)
  all_others P s [] rise each = tt
  all_others P s (t ∷ ts) rise each = go (t.session == s) refl (all_others P s ts rise.1 behind)
    where
      behind : (u : ℕ) (v : Live C) → of_session u ts ≡ Some v → u ≢ s → P v
      behind u v found off = each u v (ap (λ b. if b then Some t else of_session u ts) (at (t.session == u) refl) ∙ found) off
        where
          none_is : {A : Type 0} → None ≡ Some v → A
          none_is e = cc

          at : (b : Bool) → (t.session == u) ≡ b → (t.session == u) ≡ false
          at false e = e
          at true e =
              let same : t.session ≡ u = grind (arith, nat_tests, e) in
              none_is (sym (none_below u ts (subst (λ x. AllByRecursion (λ d. nat_lt x d ≡ true) (sessions ts)) same rise.0)) ∙ found)

      here : (t.session == t.session) ≡ true
      here = grind (arith, nat_tests)

      go : (b : Bool) → (t.session == s) ≡ b → AllByRecursion P (others s ts) → AllByRecursion P (if b then others s ts else t ∷ others s ts)
      go true e rest = rest
      go false e rest = (each t.session t (ap (λ b. if b then Some t else of_session t.session ts) here) (λ same. differ same), rest)
        where
          differ : t.session ≡ s → ⊥
          differ same = grind (arith, nat_tests, e, same)

  clear_of : (gs : List Request) (ts : List (Live C)) → AllByRecursion (λ (v : Live C). bar_each_other gs v.grants ≡ false) ts → list_any (λ g. is_barred g ts) gs ≡ false
  clear_of gs [] all = any_false gs
  clear_of gs (t ∷ ts) all = any_or (bars t.grants) (λ g. is_barred g ts) gs (sym (some_any (λ r a. bars t.grants (request r a)) gs) ∙ all.0) (clear_of gs ts all.1)

  -- requests of which none is barred, before one that is
  stops_behind : (fs : List Request) (g : Request) (rest : List Request) (ts : List (Live C)) → list_any (λ f. is_barred f ts) fs ≡ false → is_barred g ts ≡ true
      → (free (fs ++ g ∷ rest) ts ≡ fs) × (barred (fs ++ g ∷ rest) ts ≡ Some g)
  stops_behind [] g rest ts none on = (ap (λ b. if b then [] else g ∷ free rest ts) on, ap (λ b. if b then Some g else barred rest ts) on)
  stops_behind (f ∷ fs) g rest ts none on = go (is_barred f ts) none (stops_behind fs g rest ts)
    where
      go : (b : Bool) → (b || list_any (λ x. is_barred x ts) fs) ≡ false
          → (list_any (λ x. is_barred x ts) fs ≡ false → is_barred g ts ≡ true → (free (fs ++ g ∷ rest) ts ≡ fs) × (barred (fs ++ g ∷ rest) ts ≡ Some g))
          → ((if b then [] else f ∷ free (fs ++ g ∷ rest) ts) ≡ f ∷ fs) × ((if b then Some f else barred (fs ++ g ∷ rest) ts) ≡ Some g)
      go true e more = absurd (true≢false e)
      go false e more = let h = more e on in (ap (λ (xs : List Request). f ∷ xs) h.0, h.1)

  -- ---- who waits for whom is as before

  -- two transactions, or none, wait for the same, and are waited for alike
  record WaitAlike (a b : Option (Live C)) : Type 0 where
    out : (z : Option (Live C)) → stops a z ≡ stops b z
    into : (z : Option (Live C)) → stops z a ≡ stops z b

  -- what a transaction gains that is among what it holds stops nobody else
  gains_alike : (t : Live C) (more : List Request) (w : Option (Waiting C)) → AreAmong more t.grants → w ≡ t.waits → WaitAlike (Some (record t { grants = t.grants ++ more; waits = w })) (Some t)
  gains_alike t more w among same = record { out = out; into = into }
    where
      out : (z : Option (Live C)) → stops (Some (record t { grants = t.grants ++ more; waits = w })) z ≡ stops (Some t) z
      out None = refl
      out (Some v) = ap (λ (x : Option (Waiting C)). not (t.session == v.session) && is_stopped_by x v.grants) same

      by : (x : Option (Waiting C)) → is_stopped_by x (t.grants ++ more) ≡ is_stopped_by x t.grants
      by None = refl
      by (Some y) = some_more (λ r a. clash y.request (request r a)) t.grants more among

      into : (z : Option (Live C)) → stops z (Some (record t { grants = t.grants ++ more; waits = w })) ≡ stops z (Some t)
      into None = refl
      into (Some v) = ap (λ (b : Bool). not (v.session == t.session) && b) (by v.waits)

  same_waits : (ts : List (Live C)) (t y : Live C) → of_session t.session ts ≡ Some t → y.session ≡ t.session → WaitAlike (Some y) (Some t) → waits_for (put y ts) ≡ waits_for ts
  same_waits ts t y found named alike = λ i u v. at u v i
    where
      each : (u : ℕ) → WaitAlike (of_session u (put y ts)) (of_session u ts)
      each u = ⊎_elim (λ same. subst (λ o. WaitAlike o (of_session u ts)) (sym (ap (λ x. of_session x (put y ts)) same ∙ found_put y ts))
          (subst (λ o. WaitAlike (Some y) o) (sym (ap (λ x. of_session x ts) (same ∙ named) ∙ found)) alike))
          (λ differ. subst (λ o. WaitAlike o (of_session u ts)) (sym (found_put_other u y ts differ)) (record { out = λ z. refl; into = λ z. refl })) (same_or_not u y.session)

      at : (u v : ℕ) → waits_for (put y ts) u v ≡ waits_for ts u v
      at u v = (each u).out (of_session v (put y ts)) ∙ (each v).into (of_session u ts)

  no_new : (ts : List (Live C)) (y : Live C) (s : ℕ) → Rises (sessions ts) → NoCycle ts → waits_for (put y ts) ≡ waits_for ts → cycle_through (put y ts) s ≡ None
  no_new ts y s rise none same = go (cycle_through (put y ts) s)
      (shown (waits_for (put y ts)) (sessions (put y ts)) s (rises_put y ts rise) (nobody_for_himself (put y ts)) (waiters_live (put y ts)))
    where
      go : (o : Option (List ℕ)) → IsCycleThrough (waits_for (put y ts)) s o → o ≡ None
      go None is = refl
      go (Some vs) is = absurd (true≢false (sym is.cycle ∙ subst (λ (R : ℕ → ℕ → Bool). Rattle.wait_cycles.specs.Cycles.is_cycle R s vs ≡ false) (sym same) (none s vs)))

module _ {C : Type 0} (is_valid : C → Type 0) (m : CallMeaning C) where
  pub waiters_stand : (st : State C) → AllSound is_valid m st.tree st.live → AllBehind m st.tree st.live → NoCycle st.live → Rises (sessions st.live) → WaitersStand m st
  waiters_stand st sound behind none rise s t w found waits on =
      record { step = step_is; granted = subst (λ (xs : List Request). AreAmong xs t.grants) (sym granted_is) at.held }
    where
      at : HasFront m st.tree t w
      at = subst (λ (o : Option (Waiting C)). WaitsBehind m st.tree t o) waits (behind s t found)

      named : t.session ≡ s
      named = found_named s st.live t found

      clear : list_any (λ g. is_barred g (others s st.live)) t.grants ≡ false
      clear = clear_of t.grants (others s st.live) (all_others (λ v. bar_each_other t.grants v.grants ≡ false) s st.live rise (λ u v there off. sound.apart s u t v found there (λ e. off (sym e))))

      splits : (free (at.front ++ w.request ∷ at.rest) (others s st.live) ≡ at.front) × (barred (at.front ++ w.request ∷ at.rest) (others s st.live) ≡ Some w.request)
      splits = stops_behind at.front w.request at.rest (others s st.live) (at.held (λ g. is_barred g (others s st.live)) clear) on

      granted_is : granted m st t w.call ≡ at.front
      granted_is = ap₂ (λ (qs : List Request) (x : ℕ). free qs (others x st.live)) at.asks named ∙ splits.0

      stopped_is : stopped_at m st t w.call ≡ Some w.request
      stopped_is = ap₂ (λ (qs : List Request) (x : ℕ). barred qs (others x st.live)) at.asks named ∙ splits.1

      after : Live C
      after = record t { grants = t.grants ++ granted m st t w.call; waits = Some w }

      alone : cycle_through (put after st.live) t.session ≡ None
      alone = no_new st.live after t.session rise none
          (same_waits st.live t after (subst (λ x. of_session x st.live ≡ Some t) (sym named) found) refl
          (gains_alike t (granted m st t w.call) (Some w) (subst (λ (xs : List Request). AreAmong xs t.grants) (sym granted_is) at.held) (sym waits)))

      step_is : step_of m st s (of_session s st.live) Retry ≡ Some (record {
        state = waits_with m st t w.call w.request;
        answer = said.Call (Waits w.request.resource w.request.ask (holders w.request (others s st.live)));
      })
      step_is =
          ap (λ (o : Option (Live C)). step_of m st s o Retry) found
          ∙ ap (retried m st t) waits
          ∙ ap (λ (o : Option Request). Some (settled m st t w.call o)) stopped_is
          ∙ ap (λ (r : Option (List ℕ)). Some (unless_cycle st (waits_with m st t w.call w.request) t.session w.request r)) alone
          ∙ ap (λ (x : ℕ). Some (record {
            state = waits_with m st t w.call w.request;
            answer = said.Call (Waits w.request.resource w.request.ask (holders w.request (others x st.live)));
          })) named
