-- A checkpoint under a core: what is committed stays what it was, and the pages hold it.
use Rattle.std.proofs.Common.{◌≡◌, ℕ, Bool, true, false, cond, ◌&&◌, IsTrue, List, [], ◌∷◌, Option, Some, Ok, refl, sym, ap, subst, ◌∙◌}
use Rattle.std.specs.List.{AllByRecursion}
use Rattle.std.specs.Prelude.{Result}
use Rattle.outside_traits.specs.DiskPairs.{Pair, PairsLeave, pair_of}
use Rattle.outside_traits.specs.Moments.{History, IsAllSynced}
use Rattle.outside_traits.proofs.PairLaws.{none}
use Rattle.tree_model.specs.declared.key.Key.{Key}
use Rattle.tree_model.specs.declared.record.Record.{Record}
use Rattle.tree_model.specs.Entries.{Entries}
use Rattle.tree_model.specs.Tree.{Tree, map_of}
use Rattle.tree_model.specs.ValidTrees.{IsValidTree}
use Rattle.node_seq.specs.Trees.{StandsFor}
use Rattle.node_pages.specs.Cutting.{IsStored}
use Rattle.node_pages.specs.PageFiles.{contents_of_file}
use Rattle.node_pages.proofs.StoredLaws.{tree_stored}
use Rattle.journal.specs.Views.{JournalView}
use Rattle.store_contents.specs.Contents.{Contents, contents_of_files}
use Rattle.overlays.specs.Views.{contents_after}
use Rattle.paged_seq.specs.PagedMaps.{entries_or_none, is_valid_entry, map_of_file, valid_entries}
use Rattle.paged_seq.proofs.ValidLaws.{valid_test}
use Rattle.call_contract.specs.Books.{IsBookFrom}
use Rattle.call_contract.specs.Calls.{CallLaws, CallMeaning}
use Rattle.call_contract.specs.States.{start}
use Rattle.call_contract.proofs.BookLaws.{sound}
use Rattle.call_contract.proofs.SessionBooks.{number_told}
use Rattle.tx_core.specs.Cores.{CoreView, InState, over, state_from, with_committed}
use Rattle.checkpoint.specs.Bases.{IsUnchanged, contents_of, is_paged}
use Rattle.checkpoint.specs.Checkpoints.{IsCleared, OpenAs}
use Rattle.checkpoint.specs.Renewals.{IsSettledWith, StandThroughout, committed_in, last_number, pages_of}
use Rattle.checkpoint.specs.declared.base.Base.{Base}
use Rattle.checkpoint.specs.declared.base.Base.TheVariants.{Paged, Copied}
use Rattle.checkpoint.specs.declared.renew_fault.RenewFault.{RenewFault}
use Rattle.checkpoint.specs.inside.Phases.{stored}
use Rattle.checkpoint.specs.inside.Renewing.{HoldsTree}
use Rattle.checkpoint.proofs.CutLaws.{cleared_opens}
use Rattle.checkpoint.proofs.RenewAnswers.{always, rebased}

-- ---- the core's state

module _ {C B : Type 0} where
  -- after reads the map of what is committed is as it was
  read_over : (v w : CoreView C B) → w ≡ over v w.base → w ≡ with_committed (over v w.base) w.committed
  read_over v w same = same ∙ (λ i. with_committed (over v w.base) ((sym same i).committed))

  -- one base after another
  over_twice : (v w x : CoreView C B) → w ≡ with_committed (over v w.base) w.committed → x ≡ with_committed (over w x.base) x.committed → x ≡ with_committed (over v x.base) x.committed
  over_twice v w x first second = second ∙ (λ i. with_committed (over (first i) x.base) x.committed)

module _ {C : Type 0} (is_valid : C → Type 0) (m : CallMeaning C) (laws : CallLaws C is_valid m) {B : Type 0} where
  -- what is committed is a valid tree
  pub committed_valid : (core : CoreView C B) (t : Tree) → IsBookFrom is_valid m t core.number core.limit core.book → IsValidTree (state_from m t core).tree
  committed_valid core t legal = (sound is_valid m laws t core.number core.limit core.book legal).valid_tree

  pub number_of_state : (core : CoreView C B) (t : Tree) → IsBookFrom is_valid m t core.number core.limit core.book → last_number core ≡ (state_from m t core).number
  number_of_state core t legal = number_told m (start t core.number core.limit) core.book legal.legal.run

-- ---- bases

module _ {P : Type 0} (is_known : Bool) (history : P → History) (faults : P → ℕ) where
  pub still_paged : (x y : Base P) → IsUnchanged is_known history faults x y → is_paged y ≡ is_paged x
  still_paged (Paged s) (Paged t) same = refl
  still_paged (Paged s) (Copied seq count) same = absurd same
  still_paged (Copied seq count) (Paged t) same = absurd same
  still_paged (Copied seq count) (Copied seq_now count_now) same = refl

  pub same_pages : (x y : Base P) → IsUnchanged is_known history faults x y → IsTrue is_known → pages_of history y ≡ pages_of history x
  same_pages (Paged s) (Paged t) same known = same.0.0 known
  same_pages (Paged s) (Copied seq count) same known = absurd same
  same_pages (Copied seq count) (Paged t) same known = absurd same
  same_pages (Copied seq count) (Copied seq_now count_now) same known = refl

-- ---- the pages hold what is committed

tested : (e : Key × Record) → IsStored e → is_valid_entry e ≡ true
tested e stored = λ i. valid_test e.0 stored.1.0 i && stored.1.1 i

all_kept : (es : Entries) → AllByRecursion IsStored es → valid_entries es ≡ es
all_kept [] all = refl
all_kept (e ∷ es) all = ap (λ (b : Bool). cond b (e ∷ valid_entries es) (valid_entries es)) (tested e all.0) ∙ ap (λ (l : Entries). e ∷ l) (all_kept es all.1)

-- a known file that holds a valid tree has its map
pub map_held : (is_known : Bool) (file : List ℕ) (t : Tree) → IsTrue is_known → HoldsTree t file → contents_after [] (map_of_file is_known file) ≡ Some (map_of t)
map_held false file t known holds = cc
map_held true file t known holds =
    ap (λ (r : Result (Entries × ℕ) ℕ). Some (valid_entries (entries_or_none r))) holds.hold ∙ ap Some (all_kept (map_of t) (tree_stored t holds.valid))

-- pages that stand for a tree are known
pub pages_known : {P : Type 0} (is_known : Bool) (history : P → History) (opening : Base P) (t : Tree) → IsTrue (is_paged opening) → StandsFor (contents_of is_known history opening) t → IsTrue is_known
pages_known true history opening t paged stands = refl
pages_known false history (Paged held) t paged stands = let never = stands.map in cc
pages_known false history (Copied seq count) t paged stands = cc

-- ---- a core that was taken off its pages

-- a core that was read, and then laid over a copy
pub copied_over : {C P : Type 0} (v w x : CoreView C (Base P)) (copy : Entries) (count : ℕ) → w ≡ over v w.base → x ≡ with_committed (over w (Copied copy count)) x.committed → x ≡ with_committed (over v x.base) x.committed
copied_over v w x copy count read taken = over_twice v w x (read_over v w read) (rebased w x (Copied copy count) taken)

-- ---- what the disks stand for, with the number of the last commit

-- where nothing was written
pub stand_unwritten : {A P : Type 0} (contents : Contents) (r : Result A (RenewFault P)) (j p q : History) → q ≡ p → StandThroughout contents r (pair_of j p) (pair_of j q)
stand_unwritten contents r j p q same = subst (λ (h : History). StandThroughout contents r (pair_of j p) (pair_of j h)) (sym same) (record {
  phases = λ settled. none (OpenAs contents) (pair_of j p);
  settled = always r (IsSettledWith contents (pair_of j p) → IsSettledWith contents (pair_of j p)) (λ settled. settled);
})

module _ {C P : Type 0} (v x : CoreView C (Base P)) (m : CallMeaning C) (contents : Base P → Option Entries) (copied : x ≡ with_committed (over v x.base) x.committed) (number : ℕ)
    (t : Tree) (opened : StandsFor (contents v.opening) t) (is_number : number ≡ (state_from m t v).number) where
  -- the same opening
  opened_there : StandsFor (contents x.opening) t
  opened_there = subst (λ (z : CoreView C (Base P)). StandsFor (contents z.opening) t) (sym copied) opened

  -- the same tree
  tree_there : (state_from m t x).tree ≡ (state_from m t v).tree
  tree_there = ap (λ (z : CoreView C (Base P)). (state_from m t z).tree) copied

  stored_there : stored (state_from m t x).tree number ≡ committed_in (state_from m t v)
  stored_there = λ i. record { entries = map_of (tree_there i); number = is_number i }

  pub held_here : (file : List ℕ) → InState m contents x (λ s. contents_of_file file ≡ Ok (map_of s.tree, number)) → contents_of_file file ≡ Ok (map_of (state_from m t v).tree, (state_from m t v).number)
  held_here file holds = holds t opened_there ∙ (λ i. Ok (map_of (tree_there i), is_number i))

  pub phases_here : (j p p_then : History) (new : Pair) → p_then ≡ p
      → InState m contents x (λ s. contents_of_files j.now.reads p_then.now.reads ≡ Ok (stored s.tree number) → PairsLeave (OpenAs (stored s.tree number)) (pair_of j p_then) new)
      → IsSettledWith (committed_in (state_from m t v)) (pair_of j p) → PairsLeave (OpenAs (committed_in (state_from m t v))) (pair_of j p) new
  phases_here j p p_then new same run settled =
      subst (λ (c : Contents). PairsLeave (OpenAs c) (pair_of j p) new) stored_there
      (subst (λ (h : History). PairsLeave (OpenAs (stored (state_from m t x).tree number)) (pair_of j h) new) same
      (run t opened_there ((λ i. contents_of_files j.now.reads (same i).now.reads) ∙ settled.opens ∙ (λ i. Ok (sym stored_there i)))))

  pub settled_here : (is_known : Bool) (journal : JournalView) (pages : History) → IsTrue is_known → IsValidTree (state_from m t v).tree → IsCleared is_known number journal → IsAllSynced pages
      → InState m contents x (λ s. contents_of_file pages.now.reads ≡ Ok (map_of s.tree, number)) → IsSettledWith (committed_in (state_from m t v)) (pair_of journal.history pages)
  settled_here is_known journal pages known valid cleared synced holds = record {
    opens = cleared_opens (state_from m t v).tree (state_from m t v).number journal.history.now.reads pages.now.reads valid (cleared.none known) (held_here pages.now.reads holds);
    journal_synced = cleared.synced known;
    pages_synced = synced;
  }
