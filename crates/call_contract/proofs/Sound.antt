-- A sound state stays sound where a transaction changes, ends or commits.
use Rattle.std.proofs.Common.{◌≡◌, ◌≢◌, ℕ, Bool, true, false, List, Option, Some, None, refl, sym, ap, subst, ⊎_elim, ◌∙◌}
use Rattle.tree_model.specs.Tree.{Tree}
use Rattle.tree_cells.specs.Covers.{writes, Agree}
use Rattle.tree_cells.specs.Clashes.{bar_each_other}
use Rattle.tree_cells.proofs.Conflict.{conflict}
use Rattle.wait_cycles.proofs.Turned.{same_or_not}
use Rattle.call_contract.specs.Calls.{CallMeaning, CallLaws}
use Rattle.call_contract.specs.States.{Live, of_session, put, others, view}
use Rattle.call_contract.specs.Replays.{IsSameRun}
use Rattle.call_contract.specs.inside.Soundness.{AreKept, IsSound, AllSound}
use Rattle.call_contract.proofs.Replay.{view_valid, unwritten, replay}
use Rattle.call_contract.proofs.Lists.{found_put, found_put_other, found_others, found_ended, apart_both_ways}

same_found : {A : Type 0} {o : Option A} (x y : A) → o ≡ Some x → o ≡ Some y → x ≡ y
same_found x y e f = cc

pub none_here : {A : Type 0} {x : A} → None ≡ Some x → ⊥
none_here e = cc

module _ {C : Type 0} (is_valid : C → Type 0) (m : CallMeaning C) where
  -- a transaction that is sound, and apart from all others, takes its place
  pub sound_put : (tree : Tree) (ts : List (Live C)) (t : Live C) → AllSound is_valid m tree ts → IsSound is_valid m tree t.session t
      → ((u : ℕ) (v : Live C) → of_session u ts ≡ Some v → u ≢ t.session → bar_each_other t.grants v.grants ≡ false) → AllSound is_valid m tree (put t ts)
  sound_put tree ts t all one away =
      record { valid_tree = all.valid_tree; each = each; apart = pairs }
    where
      other : (s : ℕ) (v : Live C) → of_session s (put t ts) ≡ Some v → s ≢ t.session → of_session s ts ≡ Some v
      other s v found differ = sym (found_put_other s t ts differ) ∙ found

      own : (s : ℕ) (v : Live C) → of_session s (put t ts) ≡ Some v → s ≡ t.session → t ≡ v
      own s v found same = same_found t v (found_put t ts) (ap (λ u. of_session u (put t ts)) (sym same) ∙ found)

      each : (s : ℕ) (v : Live C) → of_session s (put t ts) ≡ Some v → IsSound is_valid m tree s v
      each s v found = ⊎_elim (λ same. subst (λ x. IsSound is_valid m tree x v) (sym same) (subst (λ x. IsSound is_valid m tree t.session x) (own s v found same) one)) (λ differ. all.each s v (other s v found differ)) (same_or_not s t.session)

      first : (s u : ℕ) (x y : Live C) → of_session s (put t ts) ≡ Some x → of_session u (put t ts) ≡ Some y → s ≢ u → s ≡ t.session → bar_each_other x.grants y.grants ≡ false
      first s u x y fx fy differ same = subst (λ (z : Live C). bar_each_other z.grants y.grants ≡ false) (own s x fx same) (away u y (other u y fy (λ e. differ (same ∙ sym e))) (λ e. differ (same ∙ sym e)))

      pairs : (s u : ℕ) (x y : Live C) → of_session s (put t ts) ≡ Some x → of_session u (put t ts) ≡ Some y → s ≢ u → bar_each_other x.grants y.grants ≡ false
      pairs s u x y fx fy differ = ⊎_elim (λ same. first s u x y fx fy differ same)
          (λ off. ⊎_elim (λ same. apart_both_ways y.grants x.grants (first u s y x fy fx (λ e. differ (sym e)) same))
          (λ off_too. all.apart s u x y (other s x fx off) (other u y fy off_too) differ) (same_or_not u t.session)) (same_or_not s t.session)

  pub sound_others : (tree : Tree) (ts : List (Live C)) (s : ℕ) → AllSound is_valid m tree ts → AllSound is_valid m tree (others s ts)
  sound_others tree ts s all = record {
    valid_tree = all.valid_tree;
    each = λ u t found. all.each u t (back u t found);
    apart = λ u v x y fx fy differ. all.apart u v x y (back u x fx) (back v y fy) differ;
  }
    where
      back : (u : ℕ) (t : Live C) → of_session u (others s ts) ≡ Some t → of_session u ts ≡ Some t
      back u t found = ⊎_elim (λ same. absurd (none_here (sym (found_ended u ts) ∙ subst (λ v. of_session u (others v ts) ≡ Some t) (sym same) found))) (λ differ. sym (found_others s u ts differ) ∙ found) (same_or_not u s)

not_itself : {C : Type 0} (ts : List (Live C)) (s u : ℕ) (v : Live C) → of_session u (others s ts) ≡ Some v → u ≢ s
not_itself ts s u v found same = none_here (sym (found_ended u ts) ∙ subst (λ x. of_session u (others x ts) ≡ Some v) (sym same) found)

module _ {C : Type 0} (is_valid : C → Type 0) (m : CallMeaning C) (laws : CallLaws C is_valid m) where
  -- what a commit of one changes, another covers nowhere for reading
  pub commit_agrees : (tree : Tree) (ts : List (Live C)) (s u : ℕ) (t v : Live C) → AllSound is_valid m tree ts → of_session s ts ≡ Some t → of_session u ts ≡ Some v → u ≢ s
      → Agree v.grants tree (view m t.calls tree)
  commit_agrees tree ts s u t v all found there differ x on =
      sym (unwritten is_valid m laws t.grants t.calls tree all.valid_tree (all.each s t found).kept x (go (writes t.grants x) refl))
    where
      go : (b : Bool) → writes t.grants x ≡ b → b ≡ false
      go false e = refl
      go true e = sym (conflict v.grants t.grants (all.each u v there).formed (all.each s t found).formed x on e) ∙ all.apart u s v t there found differ

  pub commit_replays : (tree : Tree) (ts : List (Live C)) (s u : ℕ) (t v : Live C) → AllSound is_valid m tree ts → of_session s ts ≡ Some t → of_session u ts ≡ Some v → u ≢ s
      → record { kept : AreKept is_valid m v.grants v.calls (view m t.calls tree); agree : Agree v.grants (view m v.calls tree) (view m v.calls (view m t.calls tree)); same : IsSameRun m v.calls tree (view m t.calls tree) }
  commit_replays tree ts s u t v all found there differ =
      replay is_valid m laws v.grants v.calls tree (view m t.calls tree) all.valid_tree (view_valid is_valid m laws t.grants t.calls tree all.valid_tree (all.each s t found).kept)
      (commit_agrees tree ts s u t v all found there differ) (all.each u v there).kept

  -- a commit leaves every other live transaction's calls as they were
  pub sound_committed : (tree : Tree) (ts : List (Live C)) (s : ℕ) (t : Live C) → AllSound is_valid m tree ts → of_session s ts ≡ Some t → AllSound is_valid m (view m t.calls tree) (others s ts)
  sound_committed tree ts s t all found =
      record { valid_tree = view_valid is_valid m laws t.grants t.calls tree all.valid_tree (all.each s t found).kept; each = each; apart = (sound_others is_valid m tree ts s all).apart }
    where
      each : (u : ℕ) (v : Live C) → of_session u (others s ts) ≡ Some v → IsSound is_valid m (view m t.calls tree) u v
      each u v there =
          let them = (sound_others is_valid m tree ts s all).each u v there in
          let off = not_itself ts s u v there in
          record { named = them.named; formed = them.formed; kept = (commit_replays tree ts s u t v all found (sym (found_others s u ts off) ∙ there) off).kept; waits = them.waits }
