-- What the first commits of a book in a journal stand for (docs/FILE_FORMAT.md, "Appending").
use Rattle.std.specs.Prelude.{◌≡◌, ℕ, ◌+◌, ◌≤◌, ◌++◌, List, length, map, take, None, Ok}
use Rattle.node_records.specs.Pending.{FollowOn}
use Rattle.node_records.specs.declared.pending.Pending.{Pending}
use Rattle.tree_model.specs.Tree.{Tree}
use Rattle.journal.specs.Batches.{HasFirst, pairs_of}
use Rattle.journal.specs.Journals.{read}
use Rattle.journal.specs.declared.group.Groups.{Groups}
use Rattle.store_contents.specs.StoredTrees.{StandFor}
use Rattle.call_contract.specs.Books.{Book, HasValidCalls, commits as committed}
use Rattle.call_contract.specs.Calls.{CallMeaning}
use Rattle.call_contract.specs.SerialRuns.{Committed, serial}
use Rattle.shared_store.specs.Bodies.{bodies_of}

module _ {C : Type 0} (m : CallMeaning C) where
  -- the files stand for the tree and the number after these transactions, made one after another by one thread on a plain tree
  abbrev pub StandAfter : Tree → ℕ → List (Committed C) → List ℕ → List ℕ → Type 0
  StandAfter t n done journal pages = StandFor journal pages (serial m done t).tree (n + length done)

  -- after the first of them, so many at least
  pub record StandAfterSome (t : Tree) (n : ℕ) (done : List (Committed C)) (least : ℕ) (journal pages : List ℕ) : Type 0 where
    pub count : ℕ
    pub enough : least ≤ count
    pub within : count ≤ length done
    pub stands : StandAfter t n (take count done) journal pages

  -- This holds of the first commits of a book of valid calls, each with the body that the book gives it, in a journal:
  -- of some first of them, so many at least, behind groups that stand for a tree and a number beside the pages.
  abbrev pub OfFirstCommits : (C → Type 0) → (Tree → ℕ → List (Committed C) → ℕ → List ℕ → List ℕ → Type 0) → Type 0
  OfFirstCommits is_valid P =
      (t : Tree) (n least : ℕ) (book : Book C) (commits : List Pending) (later : List (List ℕ)) (groups : Groups) (before journal pages : List ℕ)
      → HasValidCalls is_valid book → bodies_of m t book ≡ map (λ (p : Pending). p.body) commits ++ later → FollowOn n commits
      → read before ≡ Ok groups → groups.images ≡ None → StandFor before pages t n → HasFirst groups (pairs_of commits) least journal
      → P t n (committed book) least journal pages
