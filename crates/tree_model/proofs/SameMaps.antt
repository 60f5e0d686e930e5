-- A map is that of one valid tree alone.
use Rattle.std.proofs.Common.{◌≡◌, ℕ, true, false, List, [], ◌∷◌, ◌++◌, map, filter, is_eq, refl, sym, ap, subst, ◌∙◌, append_assoc, append-nil}
use Rattle.std.proofs.lemmas.List.{append_cancel_left}
use Rattle.dewey_labels.specs.Labels.{Label, root}
use Rattle.dewey_labels.specs.Sides.{under, right, side, is_under, is_right}
use Rattle.dewey_labels.proofs.Sides.{side_itself, right_before, under_before}
use Rattle.tree_model.specs.declared.record.Record.{Record}
use Rattle.tree_model.specs.declared.record.Record.TheVariants.{Document, Element, Text, Attr}
use Rattle.tree_model.specs.Keys.{node_key}
use Rattle.tree_model.specs.Entries.{Entries}
use Rattle.tree_model.specs.Tree.{Attributes, Forest, none, node, attr_entry, own, entries_of, Tree, map_of}
use Rattle.tree_model.specs.ValidTrees.{KeysRise, IsValidTree, same_label}
use Rattle.tree_model.specs.StoredTree.{catalogue_in}
use Rattle.tree_model.proofs.Lists.{all_append, all_on}
use Rattle.tree_model.proofs.Entries.{head_of}
use Rattle.tree_model.proofs.Split.{own_all, Labelled, SideIs, all_under, all_right}
use Rattle.tree_model.proofs.Stretches.{middle}
use Rattle.tree_model.proofs.Found.{some_is}
use Rattle.tree_model.proofs.EntryLimits.{list_itself}
use Rattle.tree_model.proofs.WholeTree.{catalogue_entries}
use Rattle.tree_model.proofs.StoredCatalogues.{catalogue_before, forest_not_root}
use Rattle.tree_model.proofs.UnbrokenTrees.{catalogue_of_entries, catalogue_labels}

-- ---- attributes are read from their entries

abbrev value_in : Record → List ℕ
value_in Document = []
value_in (Element n) = []
value_in (Text t) = []
value_in (Attr v) = v

abbrev attributes_in : Entries → Attributes
attributes_in [] = []
attributes_in (e ∷ es) = (e.0.name, value_in e.1) ∷ attributes_in es

attributes_again : (l : Label) (ats : Attributes) → attributes_in (map (attr_entry l) ats) ≡ ats
attributes_again l [] = refl
attributes_again l (a ∷ ats) = ap (λ v. a ∷ v) (attributes_again l ats)

abbrev tail_of : Entries → Entries
tail_of [] = []
tail_of (e ∷ es) = es

-- ---- the three parts of a forest, by where their labels lie

module _ (p b l : Label) (r : Record) (ats : Attributes) (ch nx : Forest) (w : KeysRise p b (node l r ats ch nx)) where
  abbrev whole : Entries
  whole = entries_of (node l r ats ch nx)

  own_part : filter (λ e. same_label l e.0.label) whole ≡ own l r ats
  own_part = ap (filter (λ e. same_label l e.0.label)) (append_assoc (own l r ats) (entries_of ch) (entries_of nx)) ∙ middle (λ e. same_label l e.0.label) [] (own l r ats) (entries_of ch ++ entries_of nx) tt
      (own_all (λ k. same_label l k ≡ true) l r ats (ap is_eq (list_itself l)))
      (all_append (Labelled (λ k. same_label l k ≡ false)) (entries_of ch) (entries_of nx)
      (all_on (Labelled (SideIs l under)) (Labelled (λ k. same_label l k ≡ false)) (λ e s. ap is_eq (under_before l e.0.label s)) (entries_of ch) (all_under l l ch w.4))
      (all_on (Labelled (SideIs l right)) (Labelled (λ k. same_label l k ≡ false)) (λ e s. ap is_eq (right_before l e.0.label s)) (entries_of nx) (all_right p l nx w.0 w.5)))

  children_part : filter (λ e. is_under (side l e.0.label)) whole ≡ entries_of ch
  children_part = middle (λ e. is_under (side l e.0.label)) (own l r ats) (entries_of ch) (entries_of nx)
      (own_all (λ k. is_under (side l k) ≡ false) l r ats (ap is_under (side_itself l)))
      (all_on (Labelled (SideIs l under)) (Labelled (λ k. is_under (side l k) ≡ true)) (λ e s. ap is_under s) (entries_of ch) (all_under l l ch w.4))
      (all_on (Labelled (SideIs l right)) (Labelled (λ k. is_under (side l k) ≡ false)) (λ e s. ap is_under s) (entries_of nx) (all_right p l nx w.0 w.5))

  behind_part : filter (λ e. is_right (side l e.0.label)) whole ≡ entries_of nx
  behind_part = ap (filter (λ e. is_right (side l e.0.label))) (sym (append-nil whole)) ∙ middle (λ e. is_right (side l e.0.label)) (own l r ats ++ entries_of ch) (entries_of nx) []
      (all_append (Labelled (λ k. is_right (side l k) ≡ false)) (own l r ats) (entries_of ch)
      (own_all (λ k. is_right (side l k) ≡ false) l r ats (ap is_right (side_itself l)))
      (all_on (Labelled (SideIs l under)) (Labelled (λ k. is_right (side l k) ≡ false)) (λ e s. ap is_right s) (entries_of ch) (all_under l l ch w.4)))
      (all_on (Labelled (SideIs l right)) (Labelled (λ k. is_right (side l k) ≡ true)) (λ e s. ap is_right s) (entries_of nx) (all_right p l nx w.0 w.5))
      tt

-- ---- one forest, and one tree

pub same_forest : (p b c : Label) (f g : Forest) → KeysRise p b f → KeysRise p c g → entries_of f ≡ entries_of g → f ≡ g
same_forest p b c none none w v h = refl
same_forest p b c none (node m q ats' ch' nx') w v h = cc
same_forest p b c (node l r ats ch nx) none w v h = cc
same_forest p b c (node l r ats ch nx) (node m q ats' ch' nx') w v h =
    let first : (node_key l, r) ≡ (node_key m, q) = some_is _ _ (ap head_of h) in
    let labels : l ≡ m = ap (λ e. e.0.label) first in
    let records : r ≡ q = ap (λ e. e.1) first in
    let owns : own l r ats ≡ own m q ats' = sym (own_part p b l r ats ch nx w) ∙ (λ i. filter (λ e. same_label (labels i) e.0.label) (h i)) ∙ own_part p c m q ats' ch' nx' v in
    let attributes : ats ≡ ats' = sym (attributes_again l ats) ∙ ap (λ es. attributes_in (tail_of es)) owns ∙ attributes_again m ats' in
    let children : ch ≡ ch' = same_forest l l m ch ch' w.4 (subst (λ k. KeysRise k m ch') (sym labels) v.4) (sym (children_part p b l r ats ch nx w) ∙ (λ i. filter (λ e. is_under (side (labels i) e.0.label)) (h i)) ∙ children_part p c m q ats' ch' nx' v) in
    let behind : nx ≡ nx' = same_forest p l m nx nx' w.5 v.5 (sym (behind_part p b l r ats ch nx w) ∙ (λ i. filter (λ e. is_right (side (labels i) e.0.label)) (h i)) ∙ behind_part p c m q ats' ch' nx' v) in
    λ i. node (labels i) (records i) (attributes i) (children i) (behind i)

-- the catalogue is the one that the map gives
catalogue_again : (t : Tree) → IsValidTree t → catalogue_in (map_of t) ≡ t.catalogue
catalogue_again t w = catalogue_before (catalogue_entries t.catalogue) (entries_of t.documents) (forest_not_root root t.documents w.keys) ∙ catalogue_of_entries t.catalogue (catalogue_labels t w)

pub same_tree : (t u : Tree) → IsValidTree t → IsValidTree u → map_of t ≡ map_of u → t ≡ u
same_tree t u w v h =
    let catalogues : t.catalogue ≡ u.catalogue = sym (catalogue_again t w) ∙ ap catalogue_in h ∙ catalogue_again u v in
    let behind : entries_of t.documents ≡ entries_of u.documents = append_cancel_left (catalogue_entries t.catalogue) (entries_of t.documents) (entries_of u.documents) (h ∙ ap (λ c. catalogue_entries c ++ entries_of u.documents) (sym catalogues)) in
    let documents = same_forest root root root t.documents u.documents w.keys v.keys behind in
    λ i. record { catalogue = catalogues i; documents = documents i }
