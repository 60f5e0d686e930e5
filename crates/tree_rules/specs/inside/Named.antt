-- How a test of a map keeps its catalogue (docs/FILE_FORMAT.md, "The tree").
use Rattle.std.specs.Prelude.{◌≡◌, ℕ, zero, suc, Bool, true, false, not, cond, ◌&&◌, [], ◌∷◌, Option, Some, None, is_some}
use Rattle.std.specs.BTreeMap.{BTreeMap, get}
use Rattle.std.specs.Cmp.Lexicographic.{slice_cmp}
use Rattle.std.specs.Ordering.{nat_cmp}
use Rattle.dewey_labels.specs.Labels.{Label}
use Rattle.tree_model.specs.declared.key.Key.{Key}
use Rattle.tree_model.specs.declared.record.Record.{Record}
use Rattle.tree_model.specs.Entries.{Entries}
use Rattle.tree_model.specs.Names.{is_name}
use Rattle.tree_model.specs.Places.{is_root}
use Rattle.tree_model.specs.StoredTree.{catalogue_in, has_document, label_in}
use Rattle.tree_model.specs.Tree.{Catalogue}
use Rattle.tree_model.specs.ValidTrees.{entries_with, same_label}

-- of none of them nothing, of one true, of more false
abbrev pub whether_one : ℕ → Option Bool
whether_one zero = None
whether_one (suc zero) = Some true
whether_one (suc (suc n)) = Some false

-- each label that a catalogue gives stands in the map, with whether one entry alone gives it
abbrev pub Names : BTreeMap Label Bool → Catalogue → Type 0
Names named catalogue = (l : Label) → get (slice_cmp nat_cmp) named l ≡ whether_one (entries_with l catalogue)

-- the map takes one label more, with whether it is the first of its kind
abbrev pub HasNamed : Option Label → BTreeMap Label Bool → BTreeMap Label Bool → Type 0
HasNamed None old new = new ≡ old
HasNamed (Some label) old new =
    (l : Label) → get (slice_cmp nat_cmp) new l ≡ cond (same_label label l) (Some (not (is_some (get (slice_cmp nat_cmp) old label)))) (get (slice_cmp nat_cmp) old l)

-- the map has lost this label where it is a document's, and no other
abbrev pub HasLost : Label → Bool → BTreeMap Label Bool → BTreeMap Label Bool → Type 0
HasLost label is_document old new =
    (l : Label) → get (slice_cmp nat_cmp) new l ≡ cond (is_document && same_label label l) None (get (slice_cmp nat_cmp) old l)

-- a catalogue entry has a Name, and a label's text as its value
abbrev pub gives_label : Key × Record → Bool
gives_label e = is_name e.0.name && is_some (label_in e.1)

-- each attribute of the root does
abbrev pub all_give_labels : Entries → Bool
all_give_labels [] = true
all_give_labels (e ∷ es) = cond (is_root e.0.label) (gives_label e && all_give_labels es) (all_give_labels es)

-- what is kept of a label that these entries name: nothing where its document is among them
abbrev pub kept_name : Label → Entries → Option Bool
kept_name l es = cond (has_document es (Some l)) None (whether_one (entries_with l (catalogue_in es)))
