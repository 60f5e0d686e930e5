-- A map that is copied entry by entry, from the root's own key on.
use Rattle.std.proofs.Common.{◌≡◌, [], ◌∷◌, ◌++◌, Less, nat_cmp, refl, sym, ap, ◌∙◌}
use Rattle.std.proofs.lemmas.List.{append-nil}
use Rattle.std.specs.Cmp.Lexicographic.{slice_cmp}
use Rattle.std.specs.List.{AllByRecursion}
use Rattle.dewey_labels.specs.Labels.{root}
use Rattle.tree_model.specs.declared.key.Key.{Key}
use Rattle.tree_model.specs.declared.record.Record.{Record}
use Rattle.tree_model.specs.Entries.{Entries, Above, Sorted, entries_above, put}
use Rattle.tree_model.specs.Keys.{node_key}
use Rattle.tree_model.specs.Names.{Name}
use Rattle.tree_model.specs.Tree.{Catalogue, Tree, entries_of, map_of}
use Rattle.tree_model.specs.ValidTrees.{NamesRise, IsValidTree}
use Rattle.tree_model.proofs.Entries.{beyond_all, put_past, sorted_below}
use Rattle.tree_model.proofs.Lists.{all_append}
use Rattle.tree_model.proofs.UnbrokenTrees.{sorted_prefix}
use Rattle.tree_model.proofs.WholeTree.{catalogue_entries, documents_above}

-- the last entry is put behind the others
put_last : (x : Key × Record) (xs : Entries) → Sorted (xs ++ (x ∷ [])) → put x xs ≡ xs ++ (x ∷ [])
put_last x xs s = ap (put x) (sym (append-nil xs)) ∙ put_past x xs [] (sorted_below xs [] x s)

pub one_copied : (x : Key × Record) (xs map : Entries) → (Sorted xs → map ≡ xs) → Sorted (xs ++ (x ∷ [])) → put x map ≡ xs ++ (x ∷ [])
one_copied x xs map so_far s = ap (put x) (so_far (sorted_prefix xs (x ∷ []) s)) ∙ put_last x xs s

name_above : (lo n : Name) → slice_cmp nat_cmp lo n ≡ Less → slice_cmp nat_cmp [] n ≡ Less
name_above [] [] h = h
name_above (y ∷ ys) [] h = cc
name_above lo (x ∷ xs) h = refl

catalogue_above : (lo : Name) (cat : Catalogue) → NamesRise lo cat → AllByRecursion (Above (node_key root)) (catalogue_entries cat)
catalogue_above lo [] w = tt
catalogue_above lo (c ∷ cat) w = (name_above lo c.0 w.0, catalogue_above c.0 cat w.2)

-- all entries of a valid tree's map lie above the root's own key
pub above_root : (t : Tree) → IsValidTree t → entries_above (node_key root) (map_of t) ≡ map_of t
above_root t w =
    beyond_all (node_key root) (map_of t)
    (all_append (Above (node_key root)) (catalogue_entries t.catalogue) (entries_of t.documents) (catalogue_above [] t.catalogue w.catalogue.names) (documents_above [] t w))
