-- What the reads of the steps find in the map of a valid tree.
use Rattle.std.proofs.Common.{◌≡◌, ℕ, true, false, cond, if◌then◌else◌, List, [], ◌∷◌, ◌++◌, Option, Some, None, IfSome, option_map, IfOk, Result, Ok, Err, Less, Equal, Greater, nat_cmp, is_lt, is_eq, inr, ⊎_elim, refl, sym, ap, subst, ◌∙◌, true≢false, ◌+◌, ◌==◌, length, drop, arith}
use Rattle.std.specs.Ordering.{ordering_then}
use Rattle.std.specs.Cmp.Lexicographic.{slice_cmp}
use Rattle.std.specs.List.{AllByRecursion}
use Rattle.dewey_labels.specs.Labels.{Label, IsLabel, root, parent, is_label}
use Rattle.dewey_labels.specs.Sides.{side, is_in, is_under, ahead, rest, first_code, child_toward}
use Rattle.dewey_labels.proofs.Sides.{side_itself}
use Rattle.dewey_labels.proofs.Toward.{toward_is_taken, toward_is_label}
use Rattle.std.proofs.lemmas.List.{take-append-drop}
use Rattle.dewey_labels.proofs.Codes.{child_under, cut_in, eq_is}
use Rattle.tree_model.specs.declared.key.Key.{Key}
use Rattle.tree_model.specs.declared.record.Record.{Record}
use Rattle.tree_model.specs.declared.record.Record.TheVariants.{Document}
use Rattle.tree_model.specs.Names.{Name}
use Rattle.tree_model.specs.Keys.{key_at, key_cmp, node_key, top_name}
use Rattle.tree_model.specs.Entries.{Entries, Above, Below, get, first_above, last_below}
use Rattle.tree_model.specs.inside.Seeks.{behind_attributes, behind_tree, if_under, if_child}
use Rattle.tree_model.specs.Tree.{Forest, none, node, entries_of, Tree, map_of, root_attributes, at, found, prev_of, record_of, attributes_of, below, behind, attr_entry, root_attribute, Catalogue, head_label, last_label, next_of, beside}
use Rattle.tree_model.specs.inside.FoundNodes.{up}
use Rattle.tree_model.specs.Places.{is_root, row, attributes_at, first_in, last_in}
use Rattle.tree_model.specs.ValidTrees.{KeysRise, NamesRise, IsValidTree}
use Rattle.tree_model.proofs.Lists.{all_on}
use Rattle.tree_model.proofs.Entries.{head_of, first_above_past, first_above_head, first_above_has, last_below_has, get_past, get_none, get_skip}
use Rattle.tree_model.proofs.EntryLimits.{own_below_top}
use Rattle.tree_model.proofs.Split.{Labelled, Later, before_of, after_of, split, all_ahead, all_later}
use Rattle.tree_model.proofs.Seeks.{ahead_below_node, later_above}
use Rattle.tree_model.proofs.Found.{some_is, at_keys, at_label, up_parent}
use Rattle.tree_model.proofs.Keys.{list_tied}
use Rattle.tree_model.proofs.NamedLists.{none_named}
use Rattle.tree_model.proofs.Stretches.{attr_record}
use Rattle.tree_model.proofs.PlaceLaws.{not_root}
use Rattle.tree_model.proofs.StoredCatalogues.{root_is}
use Rattle.tree_model.proofs.TreeReads.{first_in_tree, next_in_tree, last_in_tree, attribute_in_tree, last_document_in_tree}
use Rattle.tree_model.proofs.ValidKeys.{HasValidKey, keys_valid}
use Rattle.tree_model.proofs.WholeTree.{catalogue_entries, names_of_root, beside_root, documents_above, get_document, get_node, prev_in_tree}
use Rattle.node_seq.specs.Reads.{Finds}
use Rattle.node_seq.specs.Trees.{OnTree}
use Rattle.dom_reads.specs.inside.Steps.{value_of, toward_key, if_behind}
use Rattle.dom_reads.proofs.FoundLabels.{IsPlace, all_places, above_place}

-- ---- children

-- what is found under a label is the child itself, where it is the first tree's label of a row below
pub child_of_row : (p b : Label) (f : Forest) (o : Option (Key × Record)) → KeysRise p b f → if_under p o ≡ head_label f → if_child p o ≡ head_label f
child_of_row p b f None w h = h
child_of_row p b f (Some e) w h = elim (is_under (side p e.0.label)) as (λ u. cond u (Some e.0.label) None ≡ head_label f → cond u (Some (p ++ first_code (rest p e.0.label))) None ≡ head_label f) [
  | true ↦ λ g. cut_there f w g
  | false ↦ λ g. g
] h
  where
    cut_there : (f : Forest) → KeysRise p b f → Some e.0.label ≡ head_label f → Some (p ++ first_code (rest p e.0.label)) ≡ head_label f
    cut_there none w g = cc
    cut_there (node c r ats ch nx) w g =
        let is : e.0.label ≡ c = some_is e.0.label c g in
        ap (λ k. Some (p ++ first_code (rest p k))) is ∙ ap Some (cut_in p c c w.0 (ap is_in (side_itself c)))

-- no entry lies under a label that is no place's
none_under : (t : Tree) (l : Label) (o : Option (Key × Record)) → IsValidTree t → is_label l ≡ true → is_root l ≡ false → found (at l t.documents) ≡ false
    → ((e : Key × Record) → o ≡ Some e → IsPlace t e.0.label × (is_label e.0.label ≡ true)) → if_child l o ≡ None
none_under t l None w hl r y h = refl
none_under t l (Some e) w hl r y h = elim (is_under (side l e.0.label)) as (λ u. is_under (side l e.0.label) ≡ u → cond u (Some (l ++ first_code (rest l e.0.label))) None ≡ None) [
  | true ↦ λ u. ⊎_elim (λ q. absurd (true≢false (sym q ∙ r))) (λ q. absurd (true≢false (sym q ∙ y))) (above_place t l e.0.label w hl (h e refl).1 u (h e refl).0)
  | false ↦ λ _. refl
] refl

-- what is found above a key, or below it, is an entry of the map
found_above : (t : Tree) (k : Key) (e : Key × Record) → IsValidTree t → first_above k (map_of t) ≡ Some e → IsPlace t e.0.label × (is_label e.0.label ≡ true)
found_above t k e w h = (first_above_has (Labelled (IsPlace t)) k e (map_of t) (all_places t w) h, (first_above_has HasValidKey k e (map_of t) (keys_valid t w) h).label.0)

found_below : (t : Tree) (k : Key) (e : Key × Record) → IsValidTree t → last_below k (map_of t) ≡ Some e → IsPlace t e.0.label × (is_label e.0.label ≡ true)
found_below t k e w h = (last_below_has (Labelled (IsPlace t)) k e (map_of t) (all_places t w) h, (last_below_has HasValidKey k e (map_of t) (keys_valid t w) h).label.0)

-- a label that is the root's, that of a node, or of neither
pub by_place : (P : Type 0) (l : Label) (t : Tree) → (l ≡ root → P) → (is_root l ≡ false → found (at l t.documents) ≡ true → P) → (is_root l ≡ false → found (at l t.documents) ≡ false → P) → P
by_place P l t at_the_root there nowhere = elim (is_root l) as (λ b. is_root l ≡ b → P) [
  | true ↦ λ r. at_the_root (root_is l r)
  | false ↦ λ r. elim (found (at l t.documents)) as (λ b. found (at l t.documents) ≡ b → P) [ true ↦ λ y. there r y | false ↦ λ y. nowhere r y ] refl
] refl

none_below : (g : Forest) → found g ≡ false → below g ≡ none
none_below none y = refl
none_below (node l r ats ch nx) y = cc

-- the row below a label that isn't the root's
pub row_of : (l : Label) (t : Tree) → is_root l ≡ false → row l t ≡ below (at l t.documents)
row_of l t r = ap (λ b. if b then t.documents else below (at l t.documents)) r

row_keys : (l : Label) (t : Tree) → IsValidTree t → found (at l t.documents) ≡ true → KeysRise l l (below (at l t.documents))
row_keys l t w y =
    let there = at_keys root root l t.documents w.keys in
    by (at l t.documents) there.0 there.1 (at_label l t.documents) y
  where
    by : (g : Forest) (b : Label) → KeysRise (up l root t.documents) b g → (found g ≡ true → head_label g ≡ Some l) → found g ≡ true → KeysRise l l (below g)
    by none b v q y' = cc
    by (node m r ats ch nx) b v q y' = subst (λ k. KeysRise k k ch) (some_is m l (q refl)) v.4

-- the first document is what lies behind the catalogue
first_document : (t : Tree) → IsValidTree t → if_child root (first_above (behind_attributes root) (map_of t)) ≡ head_label t.documents
first_document t w =
    let k = behind_attributes root in
    let cat = catalogue_entries t.catalogue in
    let docs = entries_of t.documents in
    let lows : AllByRecursion (Below k) cat = (own_below_top root Document (root_attributes t.catalogue) (names_of_root [] t.catalogue w.catalogue.names)).1 in
    ap (if_child root) (first_above_past k cat docs lows ∙ first_above_head k docs (documents_above top_name t w))
    ∙ child_of_row root root t.documents (head_of docs) w.keys (head_under t.documents w.keys)
  where
    head_under : (f : Forest) → KeysRise root root f → if_under root (head_of (entries_of f)) ≡ head_label f
    head_under none v = refl
    head_under (node c r ats ch nx) v = ap (λ s. cond (is_under s) (Some c) None) (child_under root c v.0)

pub first_child_is : (l : Label) (t : Tree) → IsValidTree t → is_label l ≡ true → if_child l (first_above (behind_attributes l) (map_of t)) ≡ first_in l t
first_child_is l t w hl = by_place (if_child l (first_above (behind_attributes l) (map_of t)) ≡ first_in l t) l t
    (λ e. subst (λ k. if_child k (first_above (behind_attributes k) (map_of t)) ≡ first_in k t) (sym e) (first_document t w))
    (λ r y. child_of_row l l (below (at l t.documents)) (first_above (behind_attributes l) (map_of t)) (row_keys l t w y) (first_in_tree l t w y) ∙ sym (ap head_label (row_of l t r)))
    (λ r y. none_under t l (first_above (behind_attributes l) (map_of t)) w hl r y (λ e h. found_above t (behind_attributes l) e w h) ∙ sym (ap head_label (row_of l t r ∙ none_below (at l t.documents) y)))

pub last_child_is : (l : Label) (t : Tree) → IsValidTree t → is_label l ≡ true → if_child l (last_below (behind_tree l) (map_of t)) ≡ last_in l t
last_child_is l t w hl = by_place (if_child l (last_below (behind_tree l) (map_of t)) ≡ last_in l t) l t
    (λ e. subst (λ k. if_child k (last_below (behind_tree k) (map_of t)) ≡ last_in k t) (sym e) (last_document_in_tree t w))
    (λ r y. last_in_tree l t w y ∙ sym (ap last_label (row_of l t r)))
    (λ r y. none_under t l (last_below (behind_tree l) (map_of t)) w hl r y (λ e h. found_below t (behind_tree l) e w h) ∙ sym (ap last_label (row_of l t r ∙ none_below (at l t.documents) y)))

-- ---- siblings

-- the trees behind a found node: a row below its parent, all behind its label
behind_keys : (l : Label) (t : Tree) → IsValidTree t → found (at l t.documents) ≡ true → KeysRise (parent l) l (behind (at l t.documents))
behind_keys l t w y =
    let there = at_keys root root l t.documents w.keys in
    subst (λ p. KeysRise p l (behind (at l t.documents))) (up_parent l t.documents w.keys y) (by (at l t.documents) there.0 there.1 (at_label l t.documents) y)
  where
    by : (g : Forest) (b : Label) → KeysRise (up l root t.documents) b g → (found g ≡ true → head_label g ≡ Some l) → found g ≡ true → KeysRise (up l root t.documents) l (behind g)
    by none b v q y' = cc
    by (node m r ats ch nx) b v q y' = subst (λ k. KeysRise (up l root t.documents) k nx) (some_is m l (q refl)) v.5

head_behind : (p b : Label) (f : Forest) → KeysRise p b f → if_behind b (head_label f) ≡ head_label f
head_behind p b none w = refl
head_behind p b (node m r ats ch nx) w = ap (λ o. if is_lt o then Some m else None) w.1

pub next_is : (l : Label) (t : Tree) → IsValidTree t → found (at l t.documents) ≡ true → if_behind l (if_child (parent l) (first_above (behind_tree l) (map_of t))) ≡ next_of (at l t.documents)
next_is l t w y =
    let v = behind_keys l t w y in
    ap (if_behind l) (child_of_row (parent l) l (behind (at l t.documents)) (first_above (behind_tree l) (map_of t)) v (next_in_tree l t w y)) ∙ head_behind (parent l) l (behind (at l t.documents)) v

pub prev_is : (l : Label) (t : Tree) → IsValidTree t → found (at l t.documents) ≡ true → if_child (parent l) (last_below (node_key l) (map_of t)) ≡ prev_of None l t.documents
prev_is l t w y = subst (λ p. if_child p (last_below (node_key l) (map_of t)) ≡ prev_of None l t.documents) (up_parent l t.documents w.keys y) (prev_in_tree l t w y)

-- what is cut out of a label comes no later than the label
past_prefix : (l w k : Label) → slice_cmp nat_cmp (l ++ w) k ≡ Less → slice_cmp nat_cmp l k ≡ Less
past_prefix [] [] [] h = cc
past_prefix [] (x ∷ w) [] h = cc
past_prefix [] w (y ∷ k) h = refl
past_prefix (x ∷ l) w [] h = cc
past_prefix (x ∷ l) w (y ∷ k) h =
    elim (nat_cmp x y) as (λ o. ordering_then o (slice_cmp nat_cmp (l ++ w) k) ≡ Less → ordering_then o (slice_cmp nat_cmp l k) ≡ Less) [
      | Less ↦ λ _. refl
      | Equal ↦ λ g. past_prefix l w k g
      | Greater ↦ λ g. cc
    ] h

-- the child on the way to what was found is that on the way to its key
pub child_by_key : (p : Label) (o : Option (Key × Record)) → toward_key p (option_map (λ e. e.0) o) ≡ if_child p o
child_by_key p None = refl
child_by_key p (Some e) = refl

-- the child on the way to what lies before a label lies before it
pub before_label : (l p : Label) (o : Option (Key × Record)) → IfSome o (Below (node_key l)) → IfSome (if_child p o) (λ k. slice_cmp nat_cmp k l ≡ Less)
before_label l p None h = tt
before_label l p (Some e) h = elim (is_under (side p e.0.label)) as (λ u. is_under (side p e.0.label) ≡ u → IfSome (cond u (Some (p ++ first_code (rest p e.0.label))) None) (λ k. slice_cmp nat_cmp k l ≡ Less)) [
  | true ↦ λ u.
      let child = p ++ first_code (rest p e.0.label) in
      let n = length p + length (first_code (rest p e.0.label)) in
      let whole : e.0.label ≡ child ++ drop n e.0.label = sym (take-append-drop n e.0.label) ∙ ap (λ v. v ++ drop n e.0.label) (toward_is_taken p e.0.label u).1 in
      past_prefix child (drop n e.0.label) l (subst (λ k. slice_cmp nat_cmp k l ≡ Less) whole (label_below e.0.label l e.0.name h))
  | false ↦ λ _. tt
] refl
  where
    none_before : (n : List ℕ) → slice_cmp nat_cmp n [] ≡ Less → ⊥
    none_before [] v = cc
    none_before (x ∷ n) v = cc

    label_below : (k l n : List ℕ) → key_cmp (key_at k n) (node_key l) ≡ Less → slice_cmp nat_cmp k l ≡ Less
    label_below k l n g = elim (slice_cmp nat_cmp k l) as (λ o. ordering_then o (slice_cmp nat_cmp n []) ≡ Less → o ≡ Less) [
      | Less ↦ λ _. refl
      | Equal ↦ λ v. absurd (none_before n v)
      | Greater ↦ λ v. cc
    ] g

pub before_key : (l p : Label) (o : Option Key) → IfSome o (λ k. key_cmp k (node_key l) ≡ Less) → IfSome (toward_key p o) (λ k. slice_cmp nat_cmp k l ≡ Less)
before_key l p None h = tt
before_key l p (Some k) h = before_label l p (Some (k, Document)) h

-- the root has no siblings
pub root_not_found : (l : Label) (t : Tree) → IsValidTree t → found (at l t.documents) ≡ true → l ≡ root → ⊥
root_not_found l t w y e = true≢false (sym (ap is_root e) ∙ not_root l t w y)

-- ---- attributes

-- what lies before a label that no node has lies below each key with it, and what lies behind it above them
nowhere : (l : Label) (n : Name) (t : Tree) → IsValidTree t → is_root l ≡ false → found (at l t.documents) ≡ false → get (key_at l n) (map_of t) ≡ None
nowhere l n t w r y =
    let k = key_at l n in
    let f = t.documents in
    let parts : entries_of f ≡ before_of l f ++ after_of l f = split l f ∙ ap (λ g. before_of l f ++ (entries_of g ++ after_of l f)) (none_found (at l f) y) in
    past_root k n t.catalogue (entries_of f) r
    ∙ ap (get k) parts
    ∙ get_past k (before_of l f) (after_of l f) (all_on (Labelled (λ v. ahead (side l v) ≡ true)) (Below k) (ahead_below_node l n) (before_of l f) (all_ahead root root l f w.keys))
    ∙ get_none k (after_of l f) (all_on (Labelled (Later l)) (Above k) (λ e h. later_above l n e h) (after_of l f) (all_later root root l f w.keys))
  where
    none_found : (g : Forest) → found g ≡ false → g ≡ none
    none_found none y = refl
    none_found (node m r ats ch nx) y = cc

    past_root : (k : Key) (n : Name) (cat : Catalogue) (es : Entries) → is_root k.label ≡ false → get k (catalogue_entries cat ++ es) ≡ get k es
    past_root k n [] es r = refl
    past_root k n (c ∷ cat) es r = get_skip k (attr_entry root (root_attribute c)) (catalogue_entries cat ++ es) (apart k.label c.0 r) ∙ past_root k n cat es r
      where
        apart : (l m : List ℕ) → is_root l ≡ false → is_eq (ordering_then (slice_cmp nat_cmp l root) (slice_cmp nat_cmp k.name m)) ≡ false
        apart l m r = elim (slice_cmp nat_cmp l root) as (λ o. slice_cmp nat_cmp l root ≡ o → is_eq (ordering_then o (slice_cmp nat_cmp k.name m)) ≡ false) [
          | Less ↦ λ _. refl
          | Equal ↦ λ q. absurd (true≢false (ap is_eq (sym (subst (λ z. slice_cmp nat_cmp root z ≡ Equal) (sym (list_tied l root q)) refl)) ∙ r))
          | Greater ↦ λ _. refl
        ] refl

-- the attributes of a place that isn't the root
pub attributes_there : (l : Label) (t : Tree) → is_root l ≡ false → attributes_at l t ≡ attributes_of (at l t.documents)
attributes_there l t r = ap (λ b. if b then root_attributes t.catalogue else attributes_of (at l t.documents)) r

pub no_attributes : (g : Forest) → found g ≡ false → attributes_of g ≡ []
no_attributes none y = refl
no_attributes (node m r ats ch nx) y = cc

-- the record at an attribute's key is the attribute's, at each label
pub attribute_is : (l : Label) (d : ℕ) (n : Name) (t : Tree) → IsValidTree t → get (key_at l (d ∷ n)) (map_of t) ≡ attr_record (beside (d ∷ n) (attributes_at l t))
attribute_is l d n t w = by_place (get (key_at l (d ∷ n)) (map_of t) ≡ attr_record (beside (d ∷ n) (attributes_at l t))) l t
    (λ e. subst (λ k. get (key_at k (d ∷ n)) (map_of t) ≡ attr_record (beside (d ∷ n) (attributes_at k t))) (sym e) (get_document d n t w ∙ ap attr_record (sym (beside_root (d ∷ n) t.catalogue))))
    (λ r y. attribute_in_tree l d n t w y ∙ sym (ap (λ ats. attr_record (beside (d ∷ n) ats)) (attributes_there l t r)))
    (λ r y. nowhere l (d ∷ n) t w r y ∙ sym (ap (λ ats. attr_record (beside (d ∷ n) ats)) (attributes_there l t r ∙ no_attributes (at l t.documents) y)))

value_of_record : (o : Option (List ℕ)) → value_of (attr_record o) ≡ o
value_of_record None = refl
value_of_record (Some v) = refl

pub value_is : (l : Label) (n : Name) (t : Tree) → (length n == 0) ≡ false → IsValidTree t → value_of (get (key_at l n) (map_of t)) ≡ beside n (attributes_at l t)
value_is l [] t e w = cc
value_is l (d ∷ n) t e w = ap value_of (attribute_is l d n t w) ∙ value_of_record (beside (d ∷ n) (attributes_at l t))

-- the names of a place's attributes rise
pub names_at : (l : Label) (t : Tree) → IsValidTree t → NamesRise [] (attributes_at l t)
names_at l t w = elim (is_root l) as (λ b. NamesRise [] (if b then root_attributes t.catalogue else attributes_of (at l t.documents))) [
  | true ↦ names_of_root [] t.catalogue w.catalogue.names
  | false ↦ let there = at_keys root root l t.documents w.keys in of_keys (at l t.documents) there.0 there.1
]
  where
    of_keys : (g : Forest) (b : Label) → KeysRise (up l root t.documents) b g → NamesRise [] (attributes_of g)
    of_keys none b v = tt
    of_keys (node m r ats ch nx) b v = v.3

-- no attribute has the empty name
pub no_empty_name : (l : Label) (n : Name) (t : Tree) → (length n == 0) ≡ true → IsValidTree t → beside n (attributes_at l t) ≡ None
no_empty_name l (d ∷ n) t e w = let none : length (d ∷ n) ≡ 0 = eq_is (length (d ∷ n)) 0 e in absurd (omega arith)
no_empty_name l [] t e w = none_named [] [] (attributes_at l t) (names_at l t w) (inr refl)

-- ---- what a read of the map tells of the tree

-- of a node's key
pub record_found : {E : Type 0} (contents : Option Entries) (result : Result (Option Record) E) (k : Key) (l : Label) → k ≡ node_key l → Finds contents result (get k) → OnTree contents result (λ t r. r ≡ record_of (at l t.documents))
record_found contents (Ok r) k l e h = λ t stands. h (map_of t) stands.map ∙ ap (λ j. get j (map_of t)) e ∙ get_node l t stands.valid
record_found contents (Err error) k l e h = tt

-- ---- labels

-- the child on the way to a label is one
pub child_is_label : (p : Label) (o : Option (Key × Record)) → IsLabel p → IfSome o (λ e. IsLabel e.0.label) → IfSome (if_child p o) IsLabel
child_is_label p None hp h = tt
child_is_label p (Some e) hp h = elim (is_under (side p e.0.label)) as (λ u. is_under (side p e.0.label) ≡ u → IfSome (cond u (Some (p ++ first_code (rest p e.0.label))) None) IsLabel) [
  | true ↦ λ u. toward_is_label p e.0.label hp h u
  | false ↦ λ _. tt
] refl

pub toward_label : {E : Type 0} (p k : Label) (result : Result (Option Label) E) → IsLabel p → IsLabel k → IfOk result (λ found. found ≡ child_toward p k) → IfOk result (λ found. IfSome found IsLabel)
toward_label p k (Err e) hp hk h = tt
toward_label p k (Ok o) hp hk h = subst (λ found. IfSome found IsLabel) (sym h) (child_is_label p (Some (key_at k [], Document)) hp hk)
