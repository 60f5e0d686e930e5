-- Every key of a valid tree is valid: its label is a label within the limits, its name empty or a Name.
use Rattle.std.proofs.Common.{◌≡◌, ◌≤◌, true, [], ◌∷◌, ◌++◌, map, inl, inr, refl, arith}
use Rattle.std.specs.List.{AllByRecursion}
use Rattle.dewey_labels.specs.Labels.{Label, root, is_label, level, Within}
use Rattle.dewey_labels.proofs.Labels.{child_label}
use Rattle.tree_model.specs.declared.key.Key.{Key}
use Rattle.tree_model.specs.declared.record.Record.{Record}
use Rattle.tree_model.specs.Limits.{deepest_level}
use Rattle.tree_model.specs.Names.{Name}
use Rattle.tree_model.specs.Keys.{IsValidKey}
use Rattle.tree_model.specs.Tree.{Attributes, Forest, none, node, attr_entry, own, entries_of, root_attributes, Tree, map_of}
use Rattle.tree_model.specs.ValidTrees.{NamesRise, KeysRise, LimitsKept, IsValidTree}
use Rattle.tree_model.proofs.Lists.{all_append}
use Rattle.tree_model.proofs.WholeTree.{catalogue_entries, names_of_root}

-- the key of an entry is valid
abbrev pub HasValidKey : Key × Record → Type 0
HasValidKey e = IsValidKey e.0

attributes_valid : (lo : Name) (l : Label) (ats : Attributes) → is_label l ≡ true → Within l → level l ≤ deepest_level → NamesRise lo ats → AllByRecursion HasValidKey (map (attr_entry l) ats)
attributes_valid lo l [] h i d w = tt
attributes_valid lo l (a ∷ ats) h i d w = (record { label = (h, i); level = d; name = inr w.1 }, attributes_valid a.0 l ats h i d w.2)

forest_valid : (p b : Label) (f : Forest) → is_label p ≡ true → KeysRise p b f → LimitsKept f → AllByRecursion HasValidKey (entries_of f)
forest_valid p b none h w v = tt
forest_valid p b (node l r ats ch nx) h w v =
    let labelled = child_label p l h w.0 in
    all_append HasValidKey (own l r ats ++ entries_of ch) (entries_of nx)
    (all_append HasValidKey (own l r ats) (entries_of ch) (record { label = (labelled, w.2); level = v.0; name = inl refl }, attributes_valid [] l ats labelled w.2 v.0 w.3) (forest_valid l l ch labelled w.4 v.3))
    (forest_valid p l nx h w.5 v.4)

-- of every entry of the map
pub keys_valid : (t : Tree) → IsValidTree t → AllByRecursion HasValidKey (map_of t)
keys_valid t w = all_append HasValidKey (catalogue_entries t.catalogue) (entries_of t.documents)
    (attributes_valid [] root (root_attributes t.catalogue) refl root_within (omega arith) (names_of_root [] t.catalogue w.catalogue.names))
    (forest_valid root root t.documents refl w.keys w.limits)
  where
    root_within : Within root
    root_within = (omega arith, (omega arith, tt))
