-- The map of a valid tree breaks no rule.
use Rattle.std.proofs.Common.{◌≡◌, ℕ, List, ◌≤◌, Bool, true, false, cond, ◌&&◌, ◌||◌, not, ◌==◌, nat_le, [], ◌∷◌, ◌++◌, map, length, Some, None, Less, nat_cmp, is_eq, IsTrue, refl, sym, ap, subst, ◌∙◌, arith, append_assoc, append-nil, true≢false}
use Rattle.std.proofs.lemmas.Bool.{and_from}
use Rattle.std.proofs.lemmas.Bool.Decides.{nat_tests}
use Rattle.std.specs.Cmp.Lexicographic.{slice_cmp, nat_list_cmp_total}
use Rattle.std.specs.List.{AllByRecursion}
use Rattle.dewey_labels.specs.Labels.{Label, root, is_child, is_label, level, Within, IsLabel}
use Rattle.dewey_labels.specs.Lists.{is_empty}
use Rattle.dewey_labels.specs.Sides.{above, left, same, under, right, side, is_in, is_under}
use Rattle.dewey_labels.proofs.Sides.{side_itself, under_before, in_under}
use Rattle.dewey_labels.proofs.Codes.{child_under, children_right}
use Rattle.dewey_labels.proofs.Labels.{child_label, parent_of_child}
use Rattle.dewey_labels.proofs.LabelOf.{label_of-label_text}
use Rattle.tree_model.specs.declared.key.Key.{Key}
use Rattle.tree_model.specs.declared.record.Record.{Record}
use Rattle.tree_model.specs.declared.record.Record.TheVariants.{Document, Element, Text, Attr}
use Rattle.tree_model.specs.Limits.{deepest_level}
use Rattle.tree_model.specs.Names.{Name, is_name}
use Rattle.tree_model.specs.Keys.{key_cmp, key_at, node_key}
use Rattle.tree_model.specs.Entries.{Entries, Below, Above, Sorted, get}
use Rattle.std.specs.Option.{option_or}
use Rattle.tree_model.specs.Tree.{Attributes, Forest, none, node, attr_entry, own, entries_of, Catalogue, root_attribute, Tree, map_of, choose, at, labels, record_of}
use Rattle.tree_model.specs.ValidTrees.{NamesRise, KeysRise, KindsAllowed, LimitsKept, ValuesFit, IsValidTree, may_stand, may_follow, may_have, same_label, entries_with, is_among}
use Rattle.tree_model.specs.Places.{is_root}
use Rattle.tree_model.specs.StoredTree.{with_label, catalogue_in, has_under, may_join, may_stand_at, node_fits, attribute_fits, is_element_record, entry_fits, misfit_at, is_document_record, has_document, catalogue_fits, broken_at}
use Rattle.tree_model.proofs.Lists.{all_append, all_before, all_on}
use Rattle.tree_model.proofs.Entries.{get_past, get_here, sorted_below}
use Rattle.tree_model.proofs.Split.{own_all, Labelled}
use Rattle.tree_model.proofs.NamedLists.{name_starts}
use Rattle.tree_model.proofs.WholeTree.{catalogue_entries, get_node, map_sorted}
use Rattle.tree_model.proofs.StoredCatalogues.{later_not_below, name_not_empty, NotRoot, same_label_is, under_not_root, catalogue_before, others_fit, forest_not_root}

-- ---- entries that fit one behind another

-- each entry entry_fits behind those before it
abbrev pub AllFit : Entries → Entries → Type 0
AllFit before [] = Unit {0}
AllFit before (e ∷ es) = (entry_fits before e ≡ true) × AllFit (before ++ (e ∷ [])) es

pub no_misfit : (before es : Entries) → AllFit before es → misfit_at before es ≡ None
no_misfit before [] h = refl
no_misfit before (e ∷ es) h = ap (λ b. cond b (misfit_at (before ++ (e ∷ [])) es) (Some (length before))) h.0 ∙ no_misfit (before ++ (e ∷ [])) es h.1

pub none_misfits : (before es : Entries) → misfit_at before es ≡ None → AllFit before es
none_misfits before [] h = tt
none_misfits before (e ∷ es) h = elim (entry_fits before e) as (λ b. entry_fits before e ≡ b → cond b (misfit_at (before ++ (e ∷ [])) es) (Some (length before)) ≡ None → AllFit before (e ∷ es)) [
  | true ↦ λ q g. (q, none_misfits (before ++ (e ∷ [])) es g)
  | false ↦ λ _ g. cc
] refl h

fit_on : (before xs ys : Entries) → AllFit before xs → AllFit (before ++ xs) ys → AllFit before (xs ++ ys)
fit_on before [] ys h g = subst (λ v. AllFit v ys) (append-nil before) g
fit_on before (e ∷ xs) ys h g = (h.0, fit_on (before ++ (e ∷ [])) xs ys h.1 (subst (λ v. AllFit v ys) (sym (append_assoc before (e ∷ []) xs)) g))

-- ---- what is found and what lies under a label

-- a record that is found is found with more entries behind
get_on : (k : Key) (xs ys : Entries) (r : Record) → get k xs ≡ Some r → get k (xs ++ ys) ≡ Some r
get_on k [] ys r h = cc
get_on k (e ∷ xs) ys r h = elim (is_eq (key_cmp k e.0)) as (λ b. cond b (Some e.1) (get k xs) ≡ Some r → cond b (Some e.1) (get k (xs ++ ys)) ≡ Some r) [ true ↦ λ g. g | false ↦ get_on k xs ys r ] h

-- a label doesn't lie under another one
abbrev NotUnder : Label → Label → Type 0
NotUnder l k = is_under (side l k) ≡ false

none_under : (l : Label) (es : Entries) → AllByRecursion (Labelled (NotUnder l)) es → has_under l es ≡ false
none_under l [] h = refl
none_under l (e ∷ es) h = ap (λ b. b || has_under l es) h.0 ∙ none_under l es h.1

-- what lies below a node's key doesn't lie under the node
below_not_under : (l : Label) (e : Key × Record) → Below (node_key l) e → NotUnder l e.0.label
below_not_under l e h = elim (side l e.0.label) as (λ s. side l e.0.label ≡ s → is_under s ≡ false) [
  | above ↦ λ _. refl
  | left ↦ λ _. refl
  | same ↦ λ _. refl
  | under ↦ λ s. absurd (later_not_below l [] e (under_before l e.0.label s) h)
  | right ↦ λ _. refl
] refl

-- behind entries below it a node is found, and nothing lies under it yet
node_found : (l : Label) (r : Record) (ats : Attributes) (before : Entries) → AllByRecursion (Below (node_key l)) before → get (node_key l) (before ++ own l r ats) ≡ Some r
node_found l r ats before h = get_past (node_key l) before (own l r ats) h ∙ get_here (node_key l, r) (map (attr_entry l) ats)

none_under_node : (l : Label) (r : Record) (ats : Attributes) (before : Entries) → AllByRecursion (Below (node_key l)) before → has_under l (before ++ own l r ats) ≡ false
none_under_node l r ats before h = none_under l (before ++ own l r ats) (all_append (Labelled (NotUnder l)) before (own l r ats) (all_on (Below (node_key l)) (Labelled (NotUnder l)) (below_not_under l) before h) (own_all (NotUnder l) l r ats (ap is_under (side_itself l))))

-- ---- one node with its attributes

-- at a label under the root the test is that on a node, or on an attribute
fits_node : (l : Label) (r : Record) (before : Entries) → NotRoot l → node_fits l r before ≡ true → entry_fits before (node_key l, r) ≡ true
fits_node l r before n h = ap (λ b. cond b false (node_fits l r before)) n ∙ h

fits_attribute : (l : Label) (a : Name × List ℕ) (before : Entries) → NotRoot l → is_name a.0 ≡ true → attribute_fits (key_at l a.0) (Attr a.1) before ≡ true → entry_fits before (attr_entry l a) ≡ true
fits_attribute l a before n named h =
    ap (λ b. cond b (not (is_empty a.0)) (cond (is_empty a.0) (node_fits l (Attr a.1) before) (attribute_fits (key_at l a.0) (Attr a.1) before))) n
    ∙ ap (λ b. cond b (node_fits l (Attr a.1) before) (attribute_fits (key_at l a.0) (Attr a.1) before)) (name_not_empty a.0 (name_starts a.0 named)) ∙ h

short_is : (n m : ℕ) → n ≤ m → nat_le n m ≡ true
short_is n m h = grind (arith, nat_tests)

attributes_fit : (l : Label) (m lo : Name) (before : Entries) (ats : Attributes) → NotRoot l → get (node_key l) before ≡ Some (Element m) → NamesRise lo ats → ValuesFit ats → AllFit before (map (attr_entry l) ats)
attributes_fit l m lo before [] n h w v = tt
attributes_fit l m lo before (a ∷ ats) n h w v = (
  fits_attribute l a before n w.1 (and_from _ _ w.1 (and_from _ _ v.0 (ap is_element_record h))),
  attributes_fit l m a.0 (before ++ (attr_entry l a ∷ [])) ats n (get_on (node_key l) before (attr_entry l a ∷ []) (Element m) h) w.2 v.1,
)

-- only an element has attributes
own_fits : (l : Label) (r : Record) (ats : Attributes) (before : Entries) → NotRoot l → AllByRecursion (Below (node_key l)) before → node_fits l r before ≡ true → may_have r ats ≡ true → NamesRise [] ats → ValuesFit ats → AllFit before (own l r ats)
own_fits l r [] before n b f h w v = (fits_node l r before n f, tt)
own_fits l (Element m) (a ∷ ats) before n b f h w v = (fits_node l (Element m) before n f, attributes_fit l m [] (before ++ ((node_key l, Element m) ∷ [])) (a ∷ ats) n (node_found l (Element m) [] before b) w v)
own_fits l Document (a ∷ ats) before n b f h w v = absurd (true≢false (sym h))
own_fits l (Text t) (a ∷ ats) before n b f h w v = absurd (true≢false (sym h))
own_fits l (Attr t) (a ∷ ats) before n b f h w v = absurd (true≢false (sym h))

-- ---- the nodes below a node

-- a row below a document has no node before it
abbrev Room : Record → Bool → Forest → Type 0
Room Document taken (node l r ats ch nx) = taken ≡ false
Room p taken f = Unit {0}

room_fresh : (p : Record) (taken : Bool) (f : Forest) → taken ≡ false → Room p taken f
room_fresh Document taken none h = tt
room_fresh Document taken (node l r ats ch nx) h = h
room_fresh (Element n) taken f h = tt
room_fresh (Text t) taken f h = tt
room_fresh (Attr v) taken f h = tt

room_behind : (p : Record) (taken : Bool) (f : Forest) → may_follow (Some p) f ≡ true → Room p taken f
room_behind Document taken none h = tt
room_behind Document taken (node l r ats ch nx) h = absurd (true≢false (sym h))
room_behind (Element n) taken f h = tt
room_behind (Text t) taken f h = tt
room_behind (Attr v) taken f h = tt

joins : (p r : Record) (taken : Bool) (l : Label) (ats : Attributes) (ch nx : Forest) → may_stand (Some p) r ≡ true → Room p taken (node l r ats ch nx) → may_join (Some p) r taken ≡ true
joins Document r taken l ats ch nx h g = and_from _ _ h (ap not g)
joins (Element n) r taken l ats ch nx h g = h
joins (Text t) r taken l ats ch nx h g = h
joins (Attr v) r taken l ats ch nx h g = h

-- entries in the two groupings that are met, and the first of sorted parts
down_group : (b o c n : Entries) → b ++ ((o ++ c) ++ n) ≡ ((b ++ o) ++ c) ++ n
down_group b o c n = simp append_assoc refl

pub sorted_prefix : (xs ys : Entries) → Sorted (xs ++ ys) → Sorted xs
sorted_prefix [] ys s = tt
sorted_prefix (x ∷ xs) ys s = (all_before (Above x.0) xs ys s.0, sorted_prefix xs ys s.1)

children_fit : (p b : Label) (q : Record) (before : Entries) (f : Forest) → is_label p ≡ true → NotRoot p → side root p ≡ under → KeysRise p b f → KindsAllowed (Some q) f → LimitsKept f
    → get (node_key p) before ≡ Some q → Room q (has_under p before) f → Sorted (before ++ entries_of f) → AllFit before (entries_of f)
children_fit p b q before none h n u w k m g room s = tt
children_fit p b q before (node l r ats ch nx) h n u w k m g room s =
    let c = entries_of ch in
    let l_under : side root l ≡ under = in_under root p l u (ap is_in (child_under p l w.0)) in
    let l_other : NotRoot l = under_not_root l l_under in
    let low : AllByRecursion (Below (node_key l)) before = sorted_below before _ (node_key l, r) s in
    let down : Sorted ((before ++ own l r ats) ++ c) = sorted_prefix ((before ++ own l r ats) ++ c) (entries_of nx) (subst Sorted (down_group before (own l r ats) c (entries_of nx)) s) in
    let along : Sorted ((before ++ (own l r ats ++ c)) ++ entries_of nx) = subst Sorted (sym (append_assoc before (own l r ats ++ c) (entries_of nx))) s in
    let here : may_stand_at l r before ≡ true =
    ap (λ v. cond (is_root v) (may_stand None r && (entries_with l (catalogue_in before) == 1)) (may_join (get (node_key v) before) r (has_under v before))) (parent_of_child p l h w.0)
    ∙ (λ i. cond (n i) (may_stand None r && (entries_with l (catalogue_in before) == 1)) (may_join (g i) r (has_under p before)))
    ∙ joins q r (has_under p before) l ats ch nx k.0 room in
    fit_on before (own l r ats ++ c) (entries_of nx)
    (fit_on before (own l r ats) c
    (own_fits l r ats before l_other low (and_from _ _ (short_is (level l) deepest_level m.0) (and_from _ _ m.1 here)) k.2 w.3 m.2)
    (children_fit l l r (before ++ own l r ats) ch (child_label p l h w.0) l_other l_under w.4 k.3 m.3 (node_found l r ats before low) (room_fresh r _ ch (none_under_node l r ats before low)) down))
    (children_fit p l q (before ++ (own l r ats ++ c)) nx h n u w.5 k.4 m.4 (get_on (node_key p) before (own l r ats ++ c) q g) (room_behind q _ nx k.1) along)

-- ---- the documents

-- a node of the first row is a document
pub document_is : (r : Record) → may_stand None r ≡ true → r ≡ Document
document_is Document h = refl
document_is (Element n) h = cc
document_is (Text t) h = cc
document_is (Attr v) h = cc

documents_fit : (b : Label) (cat : Catalogue) (before : Entries) (f : Forest) → KeysRise root b f → KindsAllowed None f → LimitsKept f
    → catalogue_in before ≡ cat → AllByRecursion (λ l. entries_with l cat ≡ 1) (labels f) → Sorted (before ++ entries_of f) → AllFit before (entries_of f)
documents_fit b cat before none w k m c g s = tt
documents_fit b cat before (node l r ats ch nx) w k m c g s =
    let l_under : side root l ≡ under = child_under root l w.0 in
    let l_other : NotRoot l = under_not_root l l_under in
    let low : AllByRecursion (Below (node_key l)) before = sorted_below before _ (node_key l, r) s in
    let tree = own l r ats ++ entries_of ch in
    let down : Sorted ((before ++ own l r ats) ++ entries_of ch) = sorted_prefix ((before ++ own l r ats) ++ entries_of ch) (entries_of nx) (subst Sorted (down_group before (own l r ats) (entries_of ch) (entries_of nx)) s) in
    let along : Sorted ((before ++ tree) ++ entries_of nx) = subst Sorted (sym (append_assoc before tree (entries_of nx))) s in
    let one : (entries_with l (catalogue_in before) == 1) ≡ true = ap (λ v. entries_with l v == 1) c ∙ ap (λ v. v == 1) g.0 in
    let here : may_stand_at l r before ≡ true =
    ap (λ v. cond (is_root v) (may_stand None r && (entries_with l (catalogue_in before) == 1)) (may_join (get (node_key v) before) r (has_under v before))) (parent_of_child root l refl w.0)
    ∙ and_from _ _ k.0 one in
    let tree_others : AllByRecursion (Labelled NotRoot) tree = all_before (Labelled NotRoot) tree (entries_of nx) (forest_not_root b (node l r ats ch nx) w) in
    fit_on before tree (entries_of nx)
    (fit_on before (own l r ats) (entries_of ch)
    (own_fits l r ats before l_other low (and_from _ _ (short_is (level l) deepest_level m.0) (and_from _ _ m.1 here)) k.2 w.3 m.2)
    (children_fit l l r (before ++ own l r ats) ch (child_label root l refl w.0) l_other l_under w.4 k.3 m.3 (node_found l r ats before low) (room_fresh r _ ch (none_under_node l r ats before low)) down))
    (documents_fit l cat (before ++ tree) nx w.5 k.4 m.4 (catalogue_before before tree tree_others ∙ c) g.1 along)

-- ---- the catalogue

-- the root's attributes stand anywhere behind each other
roots_fit : (lo : Name) (before : Entries) (cat : Catalogue) → NamesRise lo cat → AllFit before (catalogue_entries cat)
roots_fit lo before [] w = tt
roots_fit lo before (c ∷ cat) w = (ap not (name_not_empty c.0 (name_starts c.0 w.1)), roots_fit c.0 (before ++ (attr_entry root (root_attribute c) ∷ [])) cat w.2)

-- each label is found in its text
pub catalogue_of_entries : (cat : Catalogue) → AllByRecursion (λ c. IsLabel c.1) cat → catalogue_in (catalogue_entries cat) ≡ cat
catalogue_of_entries [] h = refl
catalogue_of_entries (c ∷ cat) h = λ i. with_label c.0 (label_of-label_text c.1 h.0 i) (catalogue_of_entries cat h.1 i)

-- a label among those of a row
record InRow (p b l : Label) : Type 0 where
  pub is_child_of : is_child p l ≡ true
  pub behind : slice_cmp nat_cmp b l ≡ Less
  pub within : Within l

in_row : (p b l : Label) (f : Forest) → KeysRise p b f → is_among l (labels f) ≡ true → InRow p b l
in_row p b l none w h = cc
in_row p b l (node m r ats ch nx) w h = elim (same_label l m) as (λ t. same_label l m ≡ t → (t || is_among l (labels nx)) ≡ true → InRow p b l) [
  | true ↦ λ e _. let same_is : l ≡ m = same_label_is l m e in subst (InRow p b) (sym same_is) (record { is_child_of = w.0; behind = w.1; within = w.2 })
  | false ↦ λ _ g. let r = in_row p m l nx w.5 g in record { is_child_of = r.is_child_of; behind = nat_list_cmp_total.trans b m l w.1 r.behind; within = r.within }
] refl h

-- is found there
found_in_row : (p b l : Label) (f : Forest) → KeysRise p b f → KindsAllowed None f → is_among l (labels f) ≡ true → record_of (at l f) ≡ Some Document
found_in_row p b l none w k h = cc
found_in_row p b l (node m r ats ch nx) w k h = elim (same_label l m) as (λ t. same_label l m ≡ t → (t || is_among l (labels nx)) ≡ true → record_of (choose (side m l) none (node m r ats ch nx) (at l ch) (at l nx)) ≡ Some Document) [
  | true ↦ λ e _. ap (λ s. record_of (choose s none (node m r ats ch nx) (at l ch) (at l nx))) (ap (side m) (same_label_is l m e) ∙ side_itself m) ∙ ap Some (document_is r k.0)
  | false ↦ λ _ g. let there = in_row p m l nx w.5 g in ap (λ s. record_of (choose s none (node m r ats ch nx) (at l ch) (at l nx))) (children_right p m l w.0 there.is_child_of there.behind) ∙ found_in_row p m l nx w.5 k.4 g
] refl h

module _ (t : Tree) (w : IsValidTree t) where
  abbrev cat : Catalogue
  cat = t.catalogue

  -- a catalogue entry's label is a document's
  entry_label : (l : Label) → is_among l (labels t.documents) ≡ true → IsLabel l
  entry_label l h = let there = in_row root root l t.documents w.keys h in (child_label root l refl there.is_child_of, there.within)

  entry_document : (l : Label) → is_among l (labels t.documents) ≡ true → has_document (map_of t) (Some l) ≡ true
  entry_document l h = ap is_document_record (get_node l t w ∙ found_in_row root root l t.documents w.keys w.kinds h)

  pub catalogue_labels : AllByRecursion (λ c. IsLabel c.1) cat
  catalogue_labels = all_on (λ e. IsTrue (is_among e.1 (labels t.documents))) (λ c. IsLabel c.1) (λ e h. entry_label e.1 h) cat w.catalogue.each_entry

  -- so all of them fit
  entries_fit : (lo : Name) (c : Catalogue) (rest : Entries) → NamesRise lo c → AllByRecursion (λ e. IsTrue (is_among e.1 (labels t.documents))) c → catalogue_fits (map_of t) rest ≡ true → catalogue_fits (map_of t) (catalogue_entries c ++ rest) ≡ true
  entries_fit lo [] rest n h g = g
  entries_fit lo (e ∷ c) rest n h g = and_from _ _ (and_from _ _ n.1 (ap (has_document (map_of t)) (label_of-label_text e.1 (entry_label e.1 h.0)) ∙ entry_document e.1 h.0)) (entries_fit e.0 c rest n.2 h.1 g)

  -- a valid tree's map breaks no rule
  pub unbroken : broken_at (map_of t) ≡ None
  unbroken =
      let roots = catalogue_entries cat in
      let docs = entries_of t.documents in
      let all_fit : AllFit [] (roots ++ docs) = fit_on [] roots docs (roots_fit [] [] cat w.catalogue.names) (documents_fit root cat roots t.documents w.keys w.kinds w.limits (catalogue_of_entries cat catalogue_labels) w.catalogue.each_document (map_sorted t w)) in
      let ends : catalogue_fits (map_of t) (map_of t) ≡ true = entries_fit [] cat docs w.catalogue.names w.catalogue.each_entry (others_fit (map_of t) docs (forest_not_root root t.documents w.keys)) in
      λ i. option_or (no_misfit [] (map_of t) all_fit i) (cond (ends i) None (Some (length (map_of t))))
