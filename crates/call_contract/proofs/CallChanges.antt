-- What a transaction's calls change, and that another's commit leaves it so.
use Rattle.std.proofs.Common.{◌≡◌, ℕ, Bool, true, false, List, [], ◌∷◌, ◌++◌, Option, None, refl, sym, ap, ap₂, ◌∙◌, subst}
use Rattle.std.specs.List.{AllByRecursion}
use Rattle.lock_resources.specs.declared.request.Request.{Request}
use Rattle.tree_model.specs.declared.change.Change.{Change}
use Rattle.tree_model.specs.declared.key.Key.{Key}
use Rattle.tree_model.specs.declared.record.Record.{Record}
use Rattle.tree_model.specs.Changes.{Rising, difference, laid}
use Rattle.tree_model.specs.Entries.{get, changed}
use Rattle.tree_model.specs.Tree.{Tree, map_of}
use Rattle.tree_model.specs.ValidTrees.{IsValidTree}
use Rattle.tree_model.proofs.ChangeLists.{same_changes, rising_laid, changed_laid}
use Rattle.tree_model.proofs.Differences.{at_differences, rising_differences, changed_differences}
use Rattle.tree_model.proofs.WholeTree.{map_sorted}
use Rattle.tree_changes.proofs.ChangeLists.{difference_itself}
use Rattle.tree_cells.specs.Cells.{Cell, attr_cell, value_at, Value, record_is, label_is}
use Rattle.tree_cells.specs.Covers.{writes, Agree}
use Rattle.tree_cells.proofs.Coverage.{written_is_read}
use Rattle.call_contract.specs.Calls.{CallMeaning, CallLaws, changes_of}
use Rattle.call_contract.specs.States.{Answered, State, view, start}
use Rattle.call_contract.specs.Books.{Book, last, IsBookFrom, IsReached}
use Rattle.call_contract.specs.CallChanges.{with_calls, changes_of_calls, LeadTo, ChangesLead, ChangesStay}
use Rattle.call_contract.specs.inside.Soundness.{AreKept}
use Rattle.call_contract.proofs.BookLaws.{sound}
use Rattle.call_contract.proofs.Replay.{same_requests, step_agrees, view_valid}
use Rattle.call_contract.proofs.Sound.{commit_agrees}

-- the cell of a key, whose value is the record there
abbrev cell_of : Key → Cell
cell_of k = attr_cell k.label k.name

abbrev record_in : Value → Option Record → Option Record
record_in (record_is r) other = r
record_in (label_is l) other = other

-- trees with the same value in the cell have the same record at the key
at_key : (k : Key) (t u : Tree) → value_at t (cell_of k) ≡ value_at u (cell_of k) → get k (map_of t) ≡ get k (map_of u)
at_key k t u same = ap (λ v. record_in v (get k (map_of t))) same

module _ {C : Type 0} (m : CallMeaning C) where
  -- one more call
  pub one_more : (cs : List (Answered C)) (a : Answered C) (t : Tree) (so_far : List Change)
      → with_calls m (cs ++ a ∷ []) t so_far ≡ laid (changes_of m a.call (view m cs t)) (with_calls m cs t so_far)
  one_more [] a t so_far = refl
  one_more (b ∷ cs) a t so_far = one_more cs a (m.after b.call t) (laid (changes_of m b.call t) so_far)

module _ {C : Type 0} (is_valid : C → Type 0) (m : CallMeaning C) (laws : CallLaws C is_valid m) where
  rising_of_call : (c : C) (t : Tree) → is_valid c → IsValidTree t → Rising (changes_of m c t)
  rising_of_call c t valid is = rising_differences (map_of t) (map_of (m.after c t)) (map_sorted t is) (map_sorted (m.after c t) (laws.keeps_valid c t valid is))

  -- the changes of a call lead to the tree after it
  call_changes : (c : C) (t : Tree) → is_valid c → IsValidTree t → changed (changes_of m c t) (map_of t) ≡ map_of (m.after c t)
  call_changes c t valid is = changed_differences (map_of t) (map_of (m.after c t)) (map_sorted t is) (map_sorted (m.after c t) (laws.keeps_valid c t valid is))

  -- and those of calls to what they see
  with_calls_change : (cs : List (Answered C)) (t u : Tree) (so_far : List Change) → IsValidTree t → IsValidTree u → AllByRecursion (λ a. is_valid a.call) cs
      → Rising so_far → changed so_far (map_of u) ≡ map_of t
      → LeadTo (with_calls m cs t so_far) u (view m cs t)
  with_calls_change [] t u so_far is from valid rise lead = record { rise = rise; map = lead }
  with_calls_change (a ∷ cs) t u so_far is from valid rise lead =
      let more : Rising (changes_of m a.call t) = rising_of_call a.call t valid.0 is in
      with_calls_change cs (m.after a.call t) u (laid (changes_of m a.call t) so_far) (laws.keeps_valid a.call t valid.0 is) from valid.1 (rising_laid (changes_of m a.call t) so_far rise)
      (changed_laid (changes_of m a.call t) so_far (map_of u) more rise (map_sorted u from) ∙ ap (changed (changes_of m a.call t)) lead ∙ call_changes a.call t valid.0 is)

  pub calls_lead : (cs : List (Answered C)) (t : Tree) → IsValidTree t → AllByRecursion (λ a. is_valid a.call) cs → LeadTo (changes_of_calls m cs t) t (view m cs t)
  calls_lead cs t is valid = with_calls_change cs t t [] is is valid tt refl

  kept_are_valid : (gs : List Request) (cs : List (Answered C)) (t : Tree) → AreKept is_valid m gs cs t → AllByRecursion (λ a. is_valid a.call) cs
  kept_are_valid gs [] t kept = tt
  kept_are_valid gs (a ∷ cs) t kept = (kept.0.valid, kept_are_valid gs cs (m.after a.call t) kept.1)

  -- on trees that agree on what a call covers for reading, it changes the same
  same_changes_of : (c : C) (t u : Tree) → is_valid c → IsValidTree t → IsValidTree u → Agree (m.requests c t) t u → changes_of m c t ≡ changes_of m c u
  same_changes_of c t u valid one other agree =
      same_changes (changes_of m c t) (changes_of m c u) (rising_of_call c t valid one) (rising_of_call c u valid other)
      (λ k. at_differences k (map_of t) (map_of (m.after c t)) (map_sorted (m.after c t) (laws.keeps_valid c t valid one)) ∙ at k (writes (m.requests c t) (cell_of k)) refl
      ∙ sym (at_differences k (map_of u) (map_of (m.after c u)) (map_sorted (m.after c u) (laws.keeps_valid c u valid other))))
    where
      -- a key whose cell isn't covered for writing stays as it is
      stays : (k : Key) (v : Tree) → IsValidTree v → writes (m.requests c v) (cell_of k) ≡ false → difference (get k (map_of v)) (get k (map_of (m.after c v))) ≡ None
      stays k v is out = ap (difference (get k (map_of v))) (at_key k (m.after c v) v (laws.keeps_rest c v valid is (cell_of k) out)) ∙ difference_itself (get k (map_of v))

      at : (k : Key) (b : Bool) → writes (m.requests c t) (cell_of k) ≡ b
          → difference (get k (map_of t)) (get k (map_of (m.after c t))) ≡ difference (get k (map_of u)) (get k (map_of (m.after c u)))
      at k true e = ap₂ difference (at_key k t u (agree (cell_of k) (written_is_read (m.requests c t) (cell_of k) e)))
          (at_key k (m.after c t) (m.after c u) (laws.same_written c t u valid one other agree (cell_of k) e))
      at k false e = stays k t one e ∙ sym (stays k u other (ap (λ (rs : List Request). writes rs (cell_of k)) (sym (same_requests is_valid m laws c t u valid one other agree)) ∙ e))

  -- and so do calls one after another
  same_with_calls : (gs : List Request) (cs : List (Answered C)) (t u : Tree) (so_far : List Change) → IsValidTree t → IsValidTree u → Agree gs t u → AreKept is_valid m gs cs t
      → with_calls m cs t so_far ≡ with_calls m cs u so_far
  same_with_calls gs [] t u so_far one other agree kept = refl
  same_with_calls gs (a ∷ cs) t u so_far one other agree kept =
      let valid = kept.0.valid in
      same_with_calls gs cs (m.after a.call t) (m.after a.call u) (laid (changes_of m a.call t) so_far) (laws.keeps_valid a.call t valid one) (laws.keeps_valid a.call u valid other)
      (step_agrees is_valid m laws gs a.call t u valid one other agree kept.0.covers) kept.1
      ∙ ap (λ (ds : List Change). with_calls m cs (m.after a.call u) (laid ds so_far)) (same_changes_of a.call t u valid one other (λ x on. agree x (kept.0.covers.reading x on)))

  -- a commit of one leaves the changes of another
  commit_leaves : (t : Tree) (n limit : ℕ) (b : Book C) → IsBookFrom is_valid m t n limit b → ChangesStay m (last m (start t n limit) b)
  commit_leaves t n limit b is s u x y one other off =
      let all = sound is_valid m laws t n limit b is in
      let tree = (last m (start t n limit) b).tree in
      sym (same_with_calls y.grants y.calls tree (view m x.calls tree) [] all.valid_tree (view_valid is_valid m laws x.grants x.calls tree all.valid_tree (all.each s x one).kept)
      (commit_agrees is_valid m laws tree (last m (start t n limit) b).live s u x y all one other off) (all.each u y other).kept)

  live_lead : (t : Tree) (n limit : ℕ) (b : Book C) → IsBookFrom is_valid m t n limit b → ChangesLead m (last m (start t n limit) b)
  live_lead t n limit b is s x live =
      let all = sound is_valid m laws t n limit b is in
      calls_lead x.calls (last m (start t n limit) b).tree all.valid_tree (kept_are_valid x.grants x.calls (last m (start t n limit) b).tree (all.each s x live).kept)

  pub reached_lead : (st : State C) → IsReached is_valid m st → ChangesLead m st
  reached_lead st is = subst (ChangesLead m) is.state (live_lead is.tree is.number is.limit is.book is.legal)

  pub reached_changes : (st : State C) → IsReached is_valid m st → ChangesStay m st
  reached_changes st is = subst (ChangesStay m) is.state (commit_leaves is.tree is.number is.limit is.book is.legal)
