-- Each step keeps a state sound.
use Rattle.std.proofs.Common.{◌≡◌, ◌≢◌, ℕ, ◌+◌, Bool, true, false, ◌&&◌, ◌||◌, List, [], ◌∷◌, ◌++◌, take, take_all, length, Option, Some, None, is_some, nat_lt, nat_le, ◌==◌, refl, sym, subst, if◌then◌else◌}
use Rattle.std.proofs.Math.Nat.{le_refl}
use Rattle.lock_resources.specs.declared.request.Request.{Request}
use Rattle.tree_model.specs.Tree.{Tree}
use Rattle.tree_model.specs.ValidTrees.{IsValidTree}
use Rattle.tree_cells.specs.Covers.{IsCoveredBy}
use Rattle.tree_cells.specs.Forms.{HasForm}
use Rattle.tree_cells.specs.Clashes.{bar_each_other}
use Rattle.tree_cells.proofs.Coverage.{covered_right}
use Rattle.tree_cells.proofs.FormedRows.{formed_append, form_of_prefix}
use Rattle.call_contract.specs.declared.events.Event.{Event}
use Rattle.call_contract.specs.declared.events.Event.TheVariants.{Begin, Call, Retry, Fail, Commit, Abort}
use Rattle.call_contract.specs.declared.events.EventAnswer.TheVariants as said
use Rattle.call_contract.specs.declared.events.Noted.{Noted}
use Rattle.call_contract.specs.Calls.{CallMeaning, CallLaws}
use Rattle.call_contract.specs.States.{Waiting, Live, State, start, of_session, others, view}
use Rattle.call_contract.specs.Attempts.{asked, granted, stopped_at, waits_with}
use Rattle.call_contract.specs.Waits.{cycle_through}
use Rattle.call_contract.specs.Steps.{Outcome, unless_cycle, settled, attempt, retried, failed, given_up, committed, begun_by, new_live, step_of}
use Rattle.call_contract.specs.Books.{Book, state_of, next, last, HasValidCall, HasValidCalls}
use Rattle.call_contract.specs.inside.Soundness.{AreKept, WaitsValid, AllSound}
use Rattle.call_contract.proofs.Lists.{found_named, apart_append, apart_take, free_is_part, free_is_all, free_apart}
use Rattle.call_contract.proofs.Replay.{view_valid, kept_grows, kept_snoc}
use Rattle.call_contract.proofs.Sound.{sound_put, sound_others, sound_committed, none_here}

module _ {C : Type 0} (is_valid : C → Type 0) (m : CallMeaning C) (laws : CallLaws C is_valid m) where
  -- what got a transaction more grants leaves it
  record HasMore (st : State C) (t : Live C) (got : List Request) : Type 0 where
    formed : HasForm (t.grants ++ got)
    kept : AreKept is_valid m (t.grants ++ got) t.calls st.tree
    away : (u : ℕ) (v : Live C) → of_session u st.live ≡ Some v → u ≢ t.session → bar_each_other (t.grants ++ got) v.grants ≡ false

  -- grants got in order leave a live transaction sound, and apart from the others
  more_grants : (st : State C) (t : Live C) (c : C) (k : ℕ) → is_valid c → AllSound is_valid m st.tree st.live → of_session t.session st.live ≡ Some t
      → (got : List Request) → got ≡ take k (granted m st t c) → HasMore st t got
  more_grants st t c k valid all found got is =
      let own = all.each t.session t found in
      let asks = asked m st t c in
      let part = granted m st t c in
      let form = laws.form c (view m t.calls st.tree) valid (view_valid is_valid m laws t.grants t.calls st.tree all.valid_tree own.kept) in
      let form_part : HasForm part = subst HasForm (sym (free_is_part asks (others t.session st.live))) (form_of_prefix (length part) asks form) in
      let form_got : HasForm got = subst HasForm (sym is) (form_of_prefix k part form_part) in
      record {
        formed = formed_append t.grants got own.formed form_got;
        kept = kept_grows is_valid m t.grants got t.calls st.tree own.kept;
        away = λ u v there differ. apart_append t.grants got v.grants (all.apart t.session u t v found there (λ e. differ (sym e)))
            (subst (λ (gs : List Request). bar_each_other gs v.grants ≡ false) (sym is) (apart_take k part v.grants (free_apart asks t.session u st.live v there differ)));
      }

  -- ---- an attempt

  attempt_sound : (st : State C) (t : Live C) (c : C) → is_valid c → AllSound is_valid m st.tree st.live → of_session t.session st.live ≡ Some t
      → AllSound is_valid m (attempt m st t c).state.tree (attempt m st t c).state.live
  attempt_sound st t c valid all found = go (stopped_at m st t c) refl
    where
      got : List Request
      got = granted m st t c

      more : HasMore st t got
      more = more_grants st t c (length got) valid all found got (sym (take_all (length got) got (le_refl (length got))))

      cycled : (g : Request) (r : Option (List ℕ)) → AllSound is_valid m (unless_cycle st (waits_with m st t c g) t.session g r).state.tree (unless_cycle st (waits_with m st t c g) t.session g r).state.live
      cycled g None = sound_put is_valid m st.tree st.live (record t { grants = t.grants ++ got; waits = Some (record { call = c; request = g }) }) all (record { named = refl; formed = more.formed; kept = more.kept; waits = valid }) more.away
      cycled g (Some members) = sound_others is_valid m st.tree st.live t.session all

      go : (o : Option Request) → stopped_at m st t c ≡ o → AllSound is_valid m (settled m st t c o).state.tree (settled m st t c o).state.live
      go None e =
          let all_got : got ≡ asked m st t c = free_is_all (asked m st t c) (others t.session st.live) e in
          sound_put is_valid m st.tree st.live (record t {
            calls = t.calls ++ record { call = c; reply = m.reply c (view m t.calls st.tree) } ∷ [];
            grants = t.grants ++ got;
            waits = None;
          }) all (record {
            named = refl;
            formed = more.formed;
            kept = kept_snoc is_valid m (t.grants ++ got) t.calls (record { call = c; reply = m.reply c (view m t.calls st.tree) }) st.tree more.kept valid
                (subst (λ (x : List Request). IsCoveredBy x (t.grants ++ got)) all_got (covered_right t.grants got)) refl;
            waits = tt;
          }) more.away
      go (Some g) e = cycled g (cycle_through (waits_with m st t c g).live t.session)

  failed_sound : (st : State C) (t : Live C) (c : C) (k : ℕ) → is_valid c → AllSound is_valid m st.tree st.live → of_session t.session st.live ≡ Some t
      → AllSound is_valid m (failed m st t c k).state.tree (failed m st t c k).state.live
  failed_sound st t c k valid all found =
      let got = take k (granted m st t c) in
      let more = more_grants st t c k valid all found got refl in
      sound_put is_valid m st.tree st.live (record t { grants = t.grants ++ got; waits = None }) all (record { named = refl; formed = more.formed; kept = more.kept; waits = tt }) more.away

  -- ---- events that may come, or not

  kept_if : (st : State C) (b : Bool) (o : Outcome C) → AllSound is_valid m st.tree st.live → AllSound is_valid m o.state.tree o.state.live
      → AllSound is_valid m (state_of st (if b then None else Some o)).tree (state_of st (if b then None else Some o)).live
  kept_if st true o all one = all
  kept_if st false o all one = one

  kept_where : (st : State C) (b : Bool) (o : Outcome C) → AllSound is_valid m st.tree st.live → AllSound is_valid m o.state.tree o.state.live
      → AllSound is_valid m (state_of st (if b then Some o else None)).tree (state_of st (if b then Some o else None)).live
  kept_where st true o all one = one
  kept_where st false o all one = all

  retried_sound : (st : State C) (t : Live C) (w : Option (Waiting C)) → WaitsValid is_valid w → AllSound is_valid m st.tree st.live → of_session t.session st.live ≡ Some t
      → AllSound is_valid m (state_of st (retried m st t w)).tree (state_of st (retried m st t w)).live
  retried_sound st t None valid all found = all
  retried_sound st t (Some w) valid all found = attempt_sound st t w.call valid all found

  given_up_sound : (st : State C) (t : Live C) (c : Option C) (w : Option (Waiting C)) (k : ℕ) (f : Option ℕ) → HasValidCall is_valid (Fail c k f) → WaitsValid is_valid w
      → AllSound is_valid m st.tree st.live → of_session t.session st.live ≡ Some t → AllSound is_valid m (state_of st (given_up m st t c w k f)).tree (state_of st (given_up m st t c w k f)).live
  given_up_sound st t (Some c) None k f valid waits all found = kept_where st ((is_some f || nat_lt 0 k) && nat_le k (length (granted m st t c))) (failed m st t c k) all (failed_sound st t c k valid all found)
  given_up_sound st t None (Some w) k f valid waits all found = kept_where st (nat_le k (length (granted m st t w.call))) (failed m st t w.call k) all (failed_sound st t w.call k waits all found)
  given_up_sound st t (Some c) (Some w) k f valid waits all found = all
  given_up_sound st t None None k f valid waits all found = all

  begun_sound : (st : State C) (s : ℕ) → AllSound is_valid m st.tree st.live → AllSound is_valid m (begun_by st s).tree (begun_by st s).live
  begun_sound st s all = sound_put is_valid m st.tree st.live (new_live s (st.ordinals s + 1)) all (record { named = refl; formed = tt; kept = tt; waits = tt }) (λ u v there differ. refl)

  pub here : (s : ℕ) (ts : List (Live C)) (t : Live C) → of_session s ts ≡ Some t → of_session t.session ts ≡ Some t
  here s ts t found = subst (λ x. of_session x ts ≡ Some t) (sym (found_named s ts t found)) found

  -- each event leaves a sound state
  step_sound : (st : State C) (s : ℕ) (o : Option (Live C)) (e : Event C) → HasValidCall is_valid e → AllSound is_valid m st.tree st.live → of_session s st.live ≡ o
      → AllSound is_valid m (state_of st (step_of m st s o e)).tree (state_of st (step_of m st s o e)).live
  step_sound st s None Begin valid all found = kept_if st (st.opening + st.begun == st.limit) (record { state = begun_by st s; answer = said.Number (st.ordinals s + 1) }) all (begun_sound st s all)
  step_sound st s None (Call c) valid all found = all
  step_sound st s None Retry valid all found = all
  step_sound st s None (Fail c k f) valid all found = all
  step_sound st s None Commit valid all found = all
  step_sound st s None Abort valid all found = all
  step_sound st s (Some t) Begin valid all found = all
  step_sound st s (Some t) (Call c) valid all found = kept_if st (is_some t.waits) (attempt m st t c) all (attempt_sound st t c valid all (here s st.live t found))
  step_sound st s (Some t) Retry valid all found = retried_sound st t t.waits (all.each s t found).waits all (here s st.live t found)
  step_sound st s (Some t) (Fail c k f) valid all found = given_up_sound st t c t.waits k f valid (all.each s t found).waits all (here s st.live t found)
  step_sound st s (Some t) Commit valid all found =
      kept_if st (is_some t.waits) (record { state = committed m st t; answer = said.Number (st.number + 1) }) all (sound_committed is_valid m laws st.tree st.live t.session t all (here s st.live t found))
  step_sound st s (Some t) Abort valid all found = sound_others is_valid m st.tree st.live s all

  pub next_sound : (st : State C) (n : Noted C) → HasValidCall is_valid n.event → AllSound is_valid m st.tree st.live → AllSound is_valid m (next m st n).tree (next m st n).live
  next_sound st n valid all = step_sound st n.session (of_session n.session st.live) n.event valid all refl

  pub last_sound : (st : State C) (book : Book C) → HasValidCalls is_valid book → AllSound is_valid m st.tree st.live → AllSound is_valid m (last m st book).tree (last m st book).live
  last_sound st [] valid all = all
  last_sound st (n ∷ ns) valid all = last_sound (next m st n) ns valid.1 (next_sound st n valid.0 all)

  pub start_sound : (tree : Tree) (number limit : ℕ) → IsValidTree tree → AllSound is_valid m tree (start {C = C} tree number limit).live
  start_sound tree number limit is = record { valid_tree = is; each = λ s t found. absurd (none_here found); apart = λ s u t v found there differ. absurd (none_here found) }
