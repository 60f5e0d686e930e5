-- The tree that files stand for.
use Rattle.std.proofs.Common.{◌≡◌, ℕ, List, [], Result, Ok, Err, sym, ◌∙◌, ap}
use Rattle.tree_model.specs.Entries.{Entries}
use Rattle.tree_model.specs.StoredTree.{IsStoredTree}
use Rattle.tree_model.specs.Tree.{Tree}
use Rattle.tree_model.proofs.SameMaps.{same_tree}
use Rattle.node_records.specs.declared.open_error.Place.{Place}
use Rattle.store_contents.specs.Contents.{Contents, contents_of_files}
use Rattle.store_contents.specs.StoredTrees.{StandFor, StandForOne}

abbrev entries_read : Result Contents Place → Entries
entries_read (Ok c) = c.entries
entries_read (Err place) = []

abbrev number_read : Result Contents Place → ℕ
number_read (Ok c) = c.number
number_read (Err place) = 0

pub one_tree : (journal pages : List ℕ) (t u : Tree) (m n : ℕ) → StandFor journal pages t m → StandFor journal pages u n → u ≡ t
one_tree journal pages t u m n first other = same_tree u t other.is_valid_tree first.is_valid_tree (ap entries_read (sym other.opens ∙ first.opens))

pub one_number : (journal pages : List ℕ) (t u : Tree) (m n : ℕ) → StandFor journal pages t m → StandFor journal pages u n → n ≡ m
one_number journal pages t u m n first other = ap number_read (sym other.opens ∙ first.opens)

-- files that stand for the map of a tree stand for it alone
pub stand_for_one : (journal pages : List ℕ) (es : Entries) (n : ℕ) → contents_of_files journal pages ≡ Ok (record { entries = es; number = n }) → IsStoredTree es → StandForOne journal pages n
stand_for_one journal pages es n h stored =
    let stand : StandFor journal pages stored.tree n = record { is_valid_tree = stored.is_valid_tree; opens = h ∙ ap (λ (l : Entries). Ok (record { entries = l; number = n })) (sym stored.map) } in
    record {
      tree = stored.tree;
      stand = stand;
      alone = λ other stands. one_tree journal pages stored.tree other n n stand stands;
    }
