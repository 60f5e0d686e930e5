-- What of a store's commits a journal holds, and what a crash leaves of them.
use Rattle.std.specs.Prelude.{◌≡◌, ℕ, ◌+◌, ◌≤◌, Bool, List, ◌++◌, length, map, IsTrue}
use Rattle.node_records.specs.Pending.{FollowOn}
use Rattle.node_records.specs.declared.pending.Pending.{Pending}
use Rattle.tree_model.specs.Tree.{Tree}
use Rattle.outside_traits.specs.CrashImages.{IsImage}
use Rattle.outside_traits.specs.Moments.{History, IsImageSince, Since}
use Rattle.call_contract.specs.Books.{Book}
use Rattle.call_contract.specs.Calls.{CallMeaning}
use Rattle.journal.specs.Appends.{groups_in}
use Rattle.journal.specs.Batches.{HasFirst, pairs_of}
use Rattle.journal.specs.Views.{JournalView}
use Rattle.shared_store.specs.Bodies.{bodies_of}

-- the bytes stand for the groups that a journal had, and behind them for some first of these commits, so many at least
abbrev pub HoldsFirst : JournalView → List Pending → ℕ → List ℕ → Type 0
HoldsFirst first commits least bytes = HasFirst (groups_in first.history) (pairs_of commits) least bytes

-- Since the journal was the first one, commits were written behind its groups: those behind the one of this number, in their order.
pub record HasWritten (is_known : Bool) (first : JournalView) (after least most : ℕ) (journal : JournalView) : Type 0 where
  pub commits : List Pending
  pub numbers : FollowOn after commits
  -- the store has made each of them
  pub made : after + length commits ≤ most
  -- the journal's disk has gone on
  pub since : IsTrue is_known → Since first.history journal.history
  -- at each moment a crash leaves some first of them; now so many at least, and a read gives as many
  pub moments : IsTrue is_known → (image : List ℕ) → IsImageSince first.history journal.history image → HoldsFirst first commits 0 image
  pub now : IsTrue is_known → (image : List ℕ) → IsImage journal.history.now image → HoldsFirst first commits least image
  pub read : IsTrue is_known → HoldsFirst first commits least journal.history.now.reads

-- within a call a crash leaves some first of the commits made behind the one of this number, so many at least
pub record LeavesWritten (first : JournalView) (after least most : ℕ) (old new : History) : Type 0 where
  pub commits : List Pending
  pub numbers : FollowOn after commits
  pub made : after + length commits ≤ most
  pub moments : (image : List ℕ) → IsImageSince old new image → HoldsFirst first commits least image

-- these commits have the bodies of those that a book made first behind another, which it goes on from
pub record HaveBodies {C : Type 0} (m : CallMeaning C) (t : Tree) (before book : Book C) (commits : List Pending) : Type 0 where
  pub later : List (List ℕ)
  pub parts : bodies_of m t book ≡ bodies_of m t before ++ (map (λ (p : Pending). p.body) commits ++ later)
