-- A walk over all records of pages, with changes made on them.
use Rattle.std.specs.Prelude.{◌≡◌, ◌++◌, ℕ, Bool, IsTrue, List, Option, None, Ok, option_to_list}
use Rattle.tree_model.specs.Changes.{Rising}
use Rattle.tree_model.specs.Entries.{Entries, Sorted, changed}
use Rattle.tree_model.specs.StoredTree.{IsStoredTree, broken_at}
use Rattle.tree_model.specs.declared.change.Change.{Change}
use Rattle.tree_model.specs.declared.key.Key.{Key}
use Rattle.tree_model.specs.declared.record.Record.{Record}
use Rattle.node_pages.specs.PageFiles.{contents_of_file}
use Rattle.node_seq.specs.WalkSteps.{from_entry}
use Rattle.paged_seq.specs.PagedMaps.{file_entries}
use Rattle.tree_rules.specs.Testing.{HasTaken}
use Rattle.tree_rules.specs.declared.tester.Tester.{Tester}

-- the pages in these bytes break no rule, and have this base
abbrev pub PagesHaveBase : List ℕ → ℕ → Type 0
PagesHaveBase file base = contents_of_file file ≡ Ok (file_entries file, base)

-- the first of these entries is this one, or there is none
abbrev pub BeginWith : Option (Key × Record) → Entries → Type 0
BeginWith found es = es ≡ from_entry found es

-- these records were read of a file: their keys rise, and where its bytes are known they are all that it holds
pub record AreRead (is_known : Bool) (file : List ℕ) (records : Entries) : Type 0 where
  pub sorted : Sorted records
  pub all : IsTrue is_known → records ≡ file_entries file

-- of the records that were read, with the changes made, this is the number before the first that breaks a rule of the tree
pub record IsTested (is_known : Bool) (file : List ℕ) (changes : List Change) (found : Option ℕ) : Type 0 where
  pub records : Entries
  pub are : AreRead is_known file records
  pub place : found ≡ broken_at (changed changes records)
  pub tree : found ≡ None → IsStoredTree (changed changes records)

-- on the way: what was read, what is read next, and what was made of the first, with these changes left
pub record IsWalking (is_known : Bool) (file : List ℕ) (changes left : List Change) (found : Option (Key × Record)) (t : Tester) : Type 0 where
  pub walked : Entries
  pub made : Entries
  pub has : HasTaken t made
  pub rising : Rising left
  pub so_far : (es : Entries) → Sorted (walked ++ es) → made ++ changed left es ≡ changed changes (walked ++ es)
  pub sorted : Sorted (walked ++ option_to_list found)
  pub whole : IsTrue is_known → file_entries file ≡ walked ++ from_entry found (file_entries file)
