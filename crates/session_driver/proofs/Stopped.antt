-- Who waits stays stopped while another transaction gains grants alone.
use Rattle.std.proofs.Common.{◌≡◌, ◌≢◌, ◌⊎◌, inl, inr, ◌≤◌, ◌<◌, ℕ, Bool, true, false, ◌==◌, List, [], ◌∷◌, length, Option, Some, None, is_some, refl, sym, ap, subst, ⊎_elim, ◌∙◌, arith, true≢false, if◌then◌else◌}
use Rattle.std.proofs.lemmas.Bool.Decides.{nat_tests}
use Rattle.lock_resources.specs.declared.request.Request.{Request}
use Rattle.tree_cells.specs.Clashes.{bars}
use Rattle.tree_model.specs.Tree.{Tree}
use Rattle.wait_cycles.specs.Walks.{has}
use Rattle.wait_cycles.proofs.Turned.{same_or_not}
use Rattle.call_contract.specs.Calls.{CallMeaning}
use Rattle.call_contract.specs.States.{Live, Waiting, State, of_session, put, others, without, view}
use Rattle.call_contract.specs.Attempts.{is_barred, barred}
use Rattle.call_contract.proofs.Lists.{found_named, found_put, found_put_other}
use Rattle.session_driver.specs.Waiters.{IsStopped, StoppedBut}

-- ---- sessions in a list

pub has_without : (s u : ℕ) (ss : List ℕ) → u ≢ s → has u (without s ss) ≡ has u ss
has_without s u [] off = refl
has_without s u (x ∷ xs) off = grind (arith, nat_tests, has_without s u xs)

pub no_longer : (s : ℕ) (ss : List ℕ) → length (without s ss) ≤ length ss
no_longer s [] = grind (arith)
no_longer s (x ∷ xs) = grind (arith, nat_tests, no_longer s xs)

pub shorter : (s : ℕ) (ss : List ℕ) → has s ss ≡ true → length (without s ss) < length ss
shorter s [] on = cc
shorter s (x ∷ xs) on = grind (arith, nat_tests, shorter s xs, no_longer s xs)

pub not_first : (s x : ℕ) (xs : List ℕ) → s ≢ x → has s (x ∷ xs) ≡ true → has s xs ≡ true
not_first s x xs off on = grind (arith, nat_tests)

pub same_found : {A : Type 0} {o : Option A} (x y : A) → o ≡ Some x → o ≡ Some y → x ≡ y
same_found x y e f = cc

pub none_found : {A : Type 0} {o : Option A} (x : A) → o ≡ None → o ≡ Some x → ⊥
none_found x e f = cc

module _ {C : Type 0} where
  -- what the one's grants bar, the other's do
  abbrev pub BarsMore : Option (Live C) → Live C → Type 0
  BarsMore None u = Unit {0}
  BarsMore (Some t) u = (g : Request) → bars t.grants g ≡ true → bars u.grants g ≡ true

  pub others_put : (u : Live C) (ts : List (Live C)) → others u.session (put u ts) ≡ others u.session ts
  others_put u [] = grind (arith, nat_tests)
  others_put u (t ∷ ts) = grind (arith, nat_tests, others_put u ts)

  -- where one transaction is replaced by one that bars more, what was barred is barred
  barred_still : (g : Request) (s : ℕ) (u : Live C) (ts : List (Live C)) → s ≢ u.session → BarsMore (of_session u.session ts) u → is_barred g (others s ts) ≡ true → is_barred g (others s (put u ts)) ≡ true
  barred_still g s u [] off more on = cc
  barred_still g s u (t ∷ ts) off more on = go (λ m. barred_still g s u ts off m) (t.session == u.session) refl
    where
      here : (b : Bool) → (t.session == u.session) ≡ b → b ≡ true → bars t.grants g ≡ true → bars u.grants g ≡ true
      here b e is = subst (λ (o : Option (Live C)). BarsMore o u) (ap (λ x. if x then Some t else of_session u.session ts) (e ∙ is)) more g

      behind : (BarsMore (of_session u.session ts) u → is_barred g (others s ts) ≡ true → is_barred g (others s (put u ts)) ≡ true)
          → (t.session == u.session) ≡ false → is_barred g (others s ts) ≡ true → is_barred g (others s (put u ts)) ≡ true
      behind rest e = rest (subst (λ (o : Option (Live C)). BarsMore o u) (ap (λ x. if x then Some t else of_session u.session ts) e) more)

      go : (BarsMore (of_session u.session ts) u → is_barred g (others s ts) ≡ true → is_barred g (others s (put u ts)) ≡ true)
          → (b : Bool) → (t.session == u.session) ≡ b → is_barred g (others s (put u (t ∷ ts))) ≡ true
      go rest true e = grind (arith, nat_tests, here true e refl, e, on, off)
      go rest false e = grind (arith, nat_tests, behind rest e, e, on, off)

  -- the first that is barred is there still, where all that was barred is
  still_stopped : (gs : List Request) (ts us : List (Live C)) → ((g : Request) → is_barred g ts ≡ true → is_barred g us ≡ true) → is_some (barred gs ts) ≡ true → is_some (barred gs us) ≡ true
  still_stopped [] ts us all on = on
  still_stopped (g ∷ gs) ts us all on = go (still_stopped gs ts us all) (is_barred g ts) (is_barred g us) refl refl
    where
      go : (is_some (barred gs ts) ≡ true → is_some (barred gs us) ≡ true) → (a b : Bool) → is_barred g ts ≡ a → is_barred g us ≡ b
          → is_some (if is_barred g us then Some g else barred gs us) ≡ true
      go rest a true e f = ap (λ b. is_some (if b then Some g else barred gs us)) f
      go rest true false e f = absurd (true≢false (sym (all g e) ∙ f))
      go rest false false e f = ap (λ b. is_some (if b then Some g else barred gs us)) f ∙ rest (sym (ap (λ b. is_some (if b then Some g else barred gs ts)) e) ∙ on)

module _ {C : Type 0} (m : CallMeaning C) where
  -- one transaction goes on as this one, which bars no less, and the tree stays
  pub record Moves (st st' : State C) (u : Live C) : Type 0 where
    pub tree : st'.tree ≡ st.tree
    pub live : st'.live ≡ put u st.live
    pub more : BarsMore (of_session u.session st.live) u

  pub stays_stopped : (st st' : State C) (u t : Live C) (w : Waiting C) → Moves st st' u → t.session ≢ u.session → IsStopped m st t w → IsStopped m st' t w
  stays_stopped st st' u t w moves off on =
      let now : is_some (barred (m.requests w.call (view m t.calls st.tree)) (others t.session (put u st.live))) ≡ true
      = still_stopped (m.requests w.call (view m t.calls st.tree)) (others t.session st.live) (others t.session (put u st.live)) (λ g on. barred_still g t.session u st.live off moves.more on) on in
      subst (λ (tree : Tree). is_some (barred (m.requests w.call (view m t.calls tree)) (others t.session st'.live)) ≡ true) (sym moves.tree)
      (subst (λ (live : List (Live C)). is_some (barred (m.requests w.call (view m t.calls st.tree)) (others t.session live)) ≡ true) (sym moves.live) now)

  -- the session that moved is stopped itself, if it waits, and all others are what they were
  pub but_moved : (st st' : State C) (u : Live C) (ss : List ℕ) → Moves st st' u → StoppedBut m st (u.session ∷ ss) → ((w : Waiting C) → u.waits ≡ Some w → IsStopped m st' u w) → StoppedBut m st' ss
  but_moved st st' u ss moves but own s t w found waits = ⊎_elim same other (same_or_not s u.session)
    where
      there : of_session s (put u st.live) ≡ Some t
      there = sym (ap (of_session s) moves.live) ∙ found

      same : s ≡ u.session → (has s ss ≡ true) ⊎ IsStopped m st' t w
      same is =
          let one : u ≡ t = same_found u t (found_put u st.live) (sym (ap (λ x. of_session x (put u st.live)) is) ∙ there) in
          inr (subst (λ (x : Live C). IsStopped m st' x w) one (own w (ap (λ (x : Live C). x.waits) one ∙ waits)))

      other : s ≢ u.session → (has s ss ≡ true) ⊎ IsStopped m st' t w
      other off =
          let before : of_session s st.live ≡ Some t = sym (found_put_other s u st.live off) ∙ there in
          let named : t.session ≡ s = found_named s st.live t before in
          ⊎_elim (λ on. inl (not_first s u.session ss off on)) (λ on. inr (stays_stopped st st' u t w moves (λ e. off (sym named ∙ e)) on)) (but s t w before waits)

  -- a session that doesn't wait needs no retry
  pub but_idle : (st : State C) (s : ℕ) (ss : List ℕ) → ((t : Live C) (w : Waiting C) → of_session s st.live ≡ Some t → t.waits ≡ Some w → ⊥) → StoppedBut m st (s ∷ ss) → StoppedBut m st ss
  but_idle st s ss idle but u t w found waits =
      ⊎_elim (λ on. ⊎_elim (λ same. absurd (idle t w (subst (λ x. of_session x st.live ≡ Some t) same found) waits)) (λ off. inl (not_first u s ss off on)) (same_or_not u s)) inr (but u t w found waits)

  -- who is stopped needs none either
  pub but_stopped : (st : State C) (s : ℕ) (ss : List ℕ) → ((t : Live C) (w : Waiting C) → of_session s st.live ≡ Some t → t.waits ≡ Some w → IsStopped m st t w) → StoppedBut m st (s ∷ ss) → StoppedBut m st ss
  but_stopped st s ss stopped but u t w found waits =
      ⊎_elim (λ on. ⊎_elim (λ same. inr (stopped t w (subst (λ x. of_session x st.live ≡ Some t) same found) waits)) (λ off. inl (not_first u s ss off on)) (same_or_not u s)) inr (but u t w found waits)
