-- The requests of a call that waits: those before the one that it waits with are granted, and stay what they are.
use Rattle.std.proofs.Common.{◌≡◌, ◌≢◌, ℕ, suc, ◌+◌, Bool, true, false, ◌&&◌, ◌||◌, List, [], ◌∷◌, ◌++◌, take, length, Option, Some, None, is_some, nat_lt, nat_le, ◌==◌, refl, sym, ap, ap₂, subst, ⊎_elim, ◌∙◌, true≢false, if◌then◌else◌}
use Rattle.std.proofs.Math.Seq.{take-append_seam}
use Rattle.std.proofs.lemmas.List.Folds.{list_any-append}
use Rattle.std.specs.List.{list_any}
use Rattle.lock_modes.specs.declared.ask.Ask.{Ask}
use Rattle.lock_resources.specs.declared.request.Request.{Request}
use Rattle.lock_resources.specs.declared.resource.Resource.{Resource}
use Rattle.tree_model.specs.Tree.{Tree}
use Rattle.tree_model.specs.ValidTrees.{IsValidTree}
use Rattle.tree_cells.specs.Covers.{some_of, reads_from, reads, Agree}
use Rattle.wait_cycles.proofs.Turned.{same_or_not}
use Rattle.call_contract.specs.declared.events.Event.{Event}
use Rattle.call_contract.specs.declared.events.Event.TheVariants.{Begin, Call, Retry, Fail, Commit, Abort}
use Rattle.call_contract.specs.declared.events.EventAnswer.TheVariants as said
use Rattle.call_contract.specs.Calls.{CallMeaning, CallLaws}
use Rattle.call_contract.specs.States.{Waiting, Live, State, start, of_session, put, others, view}
use Rattle.call_contract.specs.Attempts.{is_barred, free, barred, asked, granted, stopped_at, waits_with}
use Rattle.call_contract.specs.Waits.{cycle_through}
use Rattle.call_contract.specs.Steps.{Outcome, unless_cycle, settled, attempt, retried, failed, given_up, committed, begun_by, new_live, step_of}
use Rattle.call_contract.specs.Books.{Book, state_of, next, last, HasValidCalls}
use Rattle.call_contract.specs.Waiters.{AreAmong}
use Rattle.call_contract.specs.inside.Soundness.{WaitsValid, AllSound}
use Rattle.call_contract.proofs.Lists.{found_put, found_put_other, found_others, found_ended}
use Rattle.call_contract.proofs.Replay.{view_valid}
use Rattle.call_contract.proofs.Sound.{commit_replays, none_here}
use Rattle.call_contract.proofs.Steps.{next_sound, here}

-- ---- requests that are among others

or_off : (a b : Bool) → (a || b) ≡ false → (a ≡ false) × (b ≡ false)
or_off true b e = absurd (true≢false e)
or_off false b e = (refl, e)

pub some_any : (p : Resource → Ask → Bool) (gs : List Request) → some_of p gs ≡ list_any (λ g. p g.resource g.ask) gs
some_any p [] = refl
some_any p (g ∷ gs) = ap (λ (b : Bool). p g.resource g.ask || b) (some_any p gs)

pub any_append : (test : Request → Bool) (gs hs : List Request) → list_any test (gs ++ hs) ≡ false → (list_any test gs ≡ false) × (list_any test hs ≡ false)
any_append test gs hs none = or_off (list_any test gs) (list_any test hs) (sym (list_any-append test gs hs) ∙ none)

among_right : (gs more : List Request) → AreAmong more (gs ++ more)
among_right gs more test none = (any_append test gs more none).1

-- trees that agree on what those cover for reading agree on what these cover
agree_among : (qs gs : List Request) (t u : Tree) → AreAmong qs gs → Agree gs t u → Agree qs t u
agree_among qs gs t u among agree x on = agree x (go (reads gs x) refl)
  where
    go : (b : Bool) → reads gs x ≡ b → b ≡ true
    go true e = refl
    go false e = sym (some_any (λ r a. reads_from r a x) qs ∙ among (λ g. reads_from g.resource g.ask x) (sym (some_any (λ r a. reads_from r a x) gs) ∙ e)) ∙ on

-- ---- lists that begin alike

front_taken : (fs : List Request) (g : Request) (rest : List Request) → take (suc (length fs)) (fs ++ g ∷ rest) ≡ fs ++ g ∷ []
front_taken [] g rest = refl
front_taken (f ∷ fs) g rest = ap (λ (xs : List Request). f ∷ xs) (front_taken fs g rest)

begins_with : (fs : List Request) (g : Request) (ys : List Request) → fs ++ g ∷ [] ≡ take (suc (length fs)) ys → (rest : List Request) × (ys ≡ fs ++ g ∷ rest)
begins_with [] g [] e = cc
begins_with [] g (y ∷ ys) e = let h : g ≡ y = cc in (ys, ap (λ (x : Request). x ∷ ys) (sym h))
begins_with (f ∷ fs) g [] e = cc
begins_with (f ∷ fs) g (y ∷ ys) e =
    let h : f ≡ y = cc in
    let t : fs ++ g ∷ [] ≡ take (suc (length fs)) ys = cc in
    let rest = begins_with fs g ys t in
    (rest.0, ap₂ (λ (x : Request) (xs : List Request). x ∷ xs) (sym h) rest.1)

-- ---- what is kept of one that waits

module _ {C : Type 0} (m : CallMeaning C) where
  -- its call's requests on what it sees are some that were granted, then the one that it waits with, then more
  pub record HasFront (tree : Tree) (x : Live C) (w : Waiting C) : Type 0 where
    pub front : List Request
    pub rest : List Request
    pub asks : m.requests w.call (view m x.calls tree) ≡ front ++ w.request ∷ rest
    pub held : AreAmong front x.grants

  abbrev pub WaitsBehind : Tree → Live C → Option (Waiting C) → Type 0
  WaitsBehind tree x None = Unit {0}
  WaitsBehind tree x (Some w) = HasFront tree x w

  -- so it is of each live transaction
  abbrev pub AllBehind : Tree → List (Live C) → Type 0
  AllBehind tree ts = (s : ℕ) (x : Live C) → of_session s ts ≡ Some x → WaitsBehind tree x x.waits

  behind_put : (tree : Tree) (ts : List (Live C)) (t : Live C) → AllBehind tree ts → WaitsBehind tree t t.waits → AllBehind tree (put t ts)
  behind_put tree ts t all one s x found = ⊎_elim (λ same. subst (λ (y : Live C). WaitsBehind tree y y.waits) (own same) one) (λ differ. all s x (sym (found_put_other s t ts differ) ∙ found)) (same_or_not s t.session)
    where
      same_found : (y z : Live C) (o : Option (Live C)) → o ≡ Some y → o ≡ Some z → y ≡ z
      same_found y z o e f = cc

      own : s ≡ t.session → t ≡ x
      own same = same_found t x (of_session t.session (put t ts)) (found_put t ts) (ap (λ u. of_session u (put t ts)) (sym same) ∙ found)

  apart_from : (ts : List (Live C)) (s u : ℕ) (x : Live C) → of_session u (others s ts) ≡ Some x → u ≢ s
  apart_from ts s u x found same = none_here (sym (found_ended u ts) ∙ subst (λ v. of_session u (others v ts) ≡ Some x) (sym same) found)

  behind_others : (tree : Tree) (ts : List (Live C)) (s : ℕ) → AllBehind tree ts → AllBehind tree (others s ts)
  behind_others tree ts s all u x found = all u x (sym (found_others s u ts (apart_from ts s u x found)) ∙ found)

  -- where a list of requests is barred
  barred_behind : (qs : List Request) (ts : List (Live C)) (g : Request) → barred qs ts ≡ Some g → (rest : List Request) × (qs ≡ free qs ts ++ g ∷ rest)
  barred_behind [] ts g e = cc
  barred_behind (q ∷ qs) ts g e = go (is_barred q ts) e (barred_behind qs ts g)
    where
      go : (b : Bool) → (if b then Some q else barred qs ts) ≡ Some g → (barred qs ts ≡ Some g → (rest : List Request) × (qs ≡ free qs ts ++ g ∷ rest))
          → (rest : List Request) × (q ∷ qs ≡ (if b then [] else q ∷ free qs ts) ++ g ∷ rest)
      go true f more = let h : q ≡ g = cc in (qs, ap (λ (x : Request). x ∷ qs) h)
      go false f more = let h = more f in (h.0, ap (λ (xs : List Request). q ∷ xs) h.1)

  -- ---- each step that leaves the committed tree

  settled_behind : (st : State C) (t : Live C) (c : C) (o : Option Request) → stopped_at m st t c ≡ o → AllBehind st.tree st.live → AllBehind (settled m st t c o).state.tree (settled m st t c o).state.live
  settled_behind st t c None e all = behind_put st.tree st.live (record t { calls = t.calls ++ record { call = c; reply = m.reply c (view m t.calls st.tree) } ∷ []; grants = t.grants ++ granted m st t c; waits = None }) all tt
  settled_behind st t c (Some g) e all = go (cycle_through (waits_with m st t c g).live t.session)
    where
      splits : (rest : List Request) × (asked m st t c ≡ granted m st t c ++ g ∷ rest)
      splits = barred_behind (asked m st t c) (others t.session st.live) g e

      go : (r : Option (List ℕ)) → AllBehind (unless_cycle st (waits_with m st t c g) t.session g r).state.tree (unless_cycle st (waits_with m st t c g) t.session g r).state.live
      go None = behind_put st.tree st.live (record t { grants = t.grants ++ granted m st t c; waits = Some (record { call = c; request = g }) }) all
          (record { front = granted m st t c; rest = splits.0; asks = splits.1; held = among_right t.grants (granted m st t c) })
      go (Some members) = behind_others st.tree st.live t.session all

  failed_behind : (st : State C) (t : Live C) (c : C) (k : ℕ) → AllBehind st.tree st.live → AllBehind (failed m st t c k).state.tree (failed m st t c k).state.live
  failed_behind st t c k all = behind_put st.tree st.live (record t { grants = t.grants ++ take k (granted m st t c); waits = None }) all tt

  if_behind : (st : State C) (b : Bool) (o : Outcome C) → AllBehind st.tree st.live → AllBehind o.state.tree o.state.live
      → AllBehind (state_of st (if b then None else Some o)).tree (state_of st (if b then None else Some o)).live
  if_behind st true o all one = all
  if_behind st false o all one = one

  where_behind : (st : State C) (b : Bool) (o : Outcome C) → AllBehind st.tree st.live → AllBehind o.state.tree o.state.live
      → AllBehind (state_of st (if b then Some o else None)).tree (state_of st (if b then Some o else None)).live
  where_behind st true o all one = one
  where_behind st false o all one = all

  retried_behind : (st : State C) (t : Live C) (w : Option (Waiting C)) → AllBehind st.tree st.live → AllBehind (state_of st (retried m st t w)).tree (state_of st (retried m st t w)).live
  retried_behind st t None all = all
  retried_behind st t (Some w) all = settled_behind st t w.call (stopped_at m st t w.call) refl all

  given_up_behind : (st : State C) (t : Live C) (c : Option C) (w : Option (Waiting C)) (k : ℕ) (f : Option ℕ) → AllBehind st.tree st.live
      → AllBehind (state_of st (given_up m st t c w k f)).tree (state_of st (given_up m st t c w k f)).live
  given_up_behind st t (Some c) None k f all = where_behind st ((is_some f || nat_lt 0 k) && nat_le k (length (granted m st t c))) (failed m st t c k) all (failed_behind st t c k all)
  given_up_behind st t None (Some w) k f all = where_behind st (nat_le k (length (granted m st t w.call))) (failed m st t w.call k) all (failed_behind st t w.call k all)
  given_up_behind st t (Some c) (Some w) k f all = all
  given_up_behind st t None None k f all = all

module _ {C : Type 0} (is_valid : C → Type 0) (m : CallMeaning C) (laws : CallLaws C is_valid m) where
  -- on a tree that agrees on what is granted the call asks for the same up to the request that it waits with
  front_on : (c : C) (t u : Tree) (fs : List Request) (g : Request) (rest : List Request) → is_valid c → IsValidTree t → IsValidTree u → Agree fs t u
      → m.requests c t ≡ fs ++ g ∷ rest → (more : List Request) × (m.requests c u ≡ fs ++ g ∷ more)
  front_on c t u fs g rest valid one other agree is = begins_with fs g (m.requests c u) (sym (ap (take (suc (length fs))) is ∙ front_taken fs g rest) ∙ laws.same_next c t u (length fs) valid one other seen)
    where
      seen : Agree (take (length fs) (m.requests c t)) t u
      seen = subst (λ (xs : List Request). Agree xs t u) (sym (ap (take (length fs)) is ∙ take-append_seam fs (g ∷ rest))) agree

  -- a commit of another one
  committed_behind : (tree : Tree) (ts : List (Live C)) (s : ℕ) (t : Live C) → AllSound is_valid m tree ts → of_session s ts ≡ Some t → AllBehind m tree ts → AllBehind m (view m t.calls tree) (others s ts)
  committed_behind tree ts s t sound found all u x there =
      let one = sound.each u x before in
      let again = commit_replays is_valid m laws tree ts s u t x sound found before off in
      go x.waits one.waits (all u x before)
      (view_valid is_valid m laws x.grants x.calls tree sound.valid_tree one.kept)
      (view_valid is_valid m laws x.grants x.calls (view m t.calls tree) (view_valid is_valid m laws t.grants t.calls tree sound.valid_tree (sound.each s t found).kept) again.kept)
      again.agree
    where
      off : u ≢ s
      off = apart_from m ts s u x there

      before : of_session u ts ≡ Some x
      before = sym (found_others s u ts off) ∙ there

      go : (w : Option (Waiting C)) → WaitsValid is_valid w → WaitsBehind m tree x w → IsValidTree (view m x.calls tree) → IsValidTree (view m x.calls (view m t.calls tree))
          → Agree x.grants (view m x.calls tree) (view m x.calls (view m t.calls tree)) → WaitsBehind m (view m t.calls tree) x w
      go None valid behind old new agree = tt
      go (Some w) valid behind old new agree =
          let more = front_on w.call (view m x.calls tree) (view m x.calls (view m t.calls tree)) behind.front w.request behind.rest valid old new
          (agree_among behind.front x.grants (view m x.calls tree) (view m x.calls (view m t.calls tree)) behind.held agree) behind.asks in
          record { front = behind.front; rest = more.0; asks = more.1; held = behind.held }

  -- each event
  step_behind : (st : State C) (s : ℕ) (o : Option (Live C)) (e : Event C) → AllSound is_valid m st.tree st.live → of_session s st.live ≡ o → AllBehind m st.tree st.live
      → AllBehind m (state_of st (step_of m st s o e)).tree (state_of st (step_of m st s o e)).live
  step_behind st s None Begin sound found all = if_behind m st (st.opening + st.begun == st.limit) (record { state = begun_by st s; answer = said.Number (st.ordinals s + 1) }) all
      (behind_put m st.tree st.live (new_live s (st.ordinals s + 1)) all tt)
  step_behind st s None (Call c) sound found all = all
  step_behind st s None Retry sound found all = all
  step_behind st s None (Fail c k f) sound found all = all
  step_behind st s None Commit sound found all = all
  step_behind st s None Abort sound found all = all
  step_behind st s (Some t) Begin sound found all = all
  step_behind st s (Some t) (Call c) sound found all = if_behind m st (is_some t.waits) (attempt m st t c) all (settled_behind m st t c (stopped_at m st t c) refl all)
  step_behind st s (Some t) Retry sound found all = retried_behind m st t t.waits all
  step_behind st s (Some t) (Fail c k f) sound found all = given_up_behind m st t c t.waits k f all
  step_behind st s (Some t) Commit sound found all = if_behind m st (is_some t.waits) (record { state = committed m st t; answer = said.Number (st.number + 1) }) all
      (committed_behind st.tree st.live t.session t sound (here is_valid m laws s st.live t found) all)
  step_behind st s (Some t) Abort sound found all = behind_others m st.tree st.live s all

  pub last_behind : (st : State C) (book : Book C) → HasValidCalls is_valid book → AllSound is_valid m st.tree st.live → AllBehind m st.tree st.live → AllBehind m (last m st book).tree (last m st book).live
  last_behind st [] valid sound all = all
  last_behind st (n ∷ ns) valid sound all = last_behind (next m st n) ns valid.1 (next_sound is_valid m laws st n valid.0 sound) (step_behind st n.session (of_session n.session st.live) n.event sound refl all)

  pub start_behind : (tree : Tree) (number limit : ℕ) → AllBehind m tree (start {C = C} tree number limit).live
  start_behind tree number limit s x found = absurd (none_here found)
