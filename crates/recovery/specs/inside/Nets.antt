-- The net changes of commits over the records that pages hold (docs/DECISIONS.md, "Commits over pages are one layer").
use Rattle.std.specs.Prelude.{◌≡◌, ℕ, Bool, IsTrue, List, [], ◌∷◌, Option, Some}
use Rattle.tree_model.specs.Entries.{Entries, changed}
use Rattle.tree_model.specs.StoredTree.{IsStoredTree, broken_at}
use Rattle.tree_model.specs.declared.change.Change.{Change}
use Rattle.tree_model.specs.declared.key.Key.{Key}
use Rattle.tree_model.specs.declared.record.Record.{Record}
use Rattle.node_records.specs.declared.open_error.Place.{Place}
use Rattle.node_records.specs.declared.open_error.File.TheVariants.{Tree}
use Rattle.journal.specs.declared.group.Group.{Group}
use Rattle.paged_seq.specs.PagedMaps.{file_entries, valid_entries}
use Rattle.store_contents.specs.Contents.{after_commits, last_of, place_in}
use Rattle.recovery.specs.inside.Walking.{AreRead}

-- what is said of keys, as changes
abbrev pub as_changes : List (Key × Option Record) → List Change
as_changes [] = []
as_changes (e ∷ es) = record { key = e.0; now = e.1 } ∷ as_changes es

-- the map after runs of changes, one after another
abbrev pub after_runs : List (List Change) → Entries → Entries
after_runs [] es = es
after_runs (run ∷ runs) es = after_runs runs (changed run es)

-- the map after older runs and the newest
abbrev pub after_newest : List (List Change) → List Change → Entries → Entries
after_newest older newest es = changed newest (after_runs older es)

-- these changes make of the valid records that pages hold what the commits make of all of them, which is a tree's map; and this is the last number
pub record NetOf (records : Entries) (base : ℕ) (commits : List Group) (changes : List Change) (number : ℕ) : Type 0 where
  pub last : number ≡ last_of commits base
  pub map : changed changes (valid_entries records) ≡ after_commits commits records
  pub tree : IsStoredTree (after_commits commits records)

-- the same of records that were read of a file
pub record IsNetOf (is_known : Bool) (file : List ℕ) (base : ℕ) (commits : List Group) (changes : List Change) (number : ℕ) : Type 0 where
  pub records : Entries
  pub are : AreRead is_known file records
  pub net : NetOf records base commits changes number

-- with these changes made they are a tree's map
pub record MakeTree (is_known : Bool) (file : List ℕ) (changes : List Change) : Type 0 where
  pub records : Entries
  pub are : AreRead is_known file records
  pub tree : IsStoredTree (changed changes records)

-- the place of the first of these entries that breaks a rule of the tree
abbrev pub IsMisfit : Entries → Place → Type 0
IsMisfit es place = (n : ℕ) × (broken_at es ≡ Some n) × (place ≡ place_in Tree n)

-- the same of what commits make of the records of a known file
abbrev pub IsMisfitAfter : Bool → List ℕ → List Group → Place → Type 0
IsMisfitAfter is_known file commits place = IsTrue is_known → IsMisfit (after_commits commits (file_entries file)) place

-- the same of records that were read of a file, with these changes made
pub record MisfitRead (is_known : Bool) (file : List ℕ) (changes : List Change) (place : Place) : Type 0 where
  pub records : Entries
  pub are : AreRead is_known file records
  pub misfit : IsMisfit (changed changes records) place
