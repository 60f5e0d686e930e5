-- A map that breaks no rule is that of a valid tree: entry after entry is put at the end of the tree of those before it.
use Rattle.std.proofs.Common.{◌≡◌, ℕ, List, ◌≤◌, Bool, true, false, cond, ◌&&◌, ◌||◌, not, ◌==◌, nat_le, [], ◌∷◌, ◌++◌, map, Option, Some, None, Less, Equal, Greater, nat_cmp, refl, sym, ap, subst, ◌∙◌, arith, append_assoc, append-nil, true≢false}
use Rattle.std.proofs.lemmas.Bool.Decides.{nat_tests}
use Rattle.std.proofs.lemmas.List.{map-append}
use Rattle.std.specs.Ordering.{ordering_then}
use Rattle.std.specs.Cmp.Lexicographic.{slice_cmp}
use Rattle.std.specs.List.{AllByRecursion}
use Rattle.dewey_labels.specs.Labels.{Label, root, is_child, parent, level, IsLabel}
use Rattle.dewey_labels.specs.Sides.{under, right, side, is_in, is_under}
use Rattle.dewey_labels.proofs.Sides.{side_itself, right_within, right_before, under_before}
use Rattle.dewey_labels.proofs.Codes.{child_under, eq_is, first_of_both, second_of_both}
use Rattle.dewey_labels.proofs.Labels.{is_label-parent, child_of_parent}
use Rattle.tree_model.specs.declared.key.Key.{Key}
use Rattle.tree_model.specs.declared.record.Record.{Record}
use Rattle.tree_model.specs.declared.record.Record.TheVariants.{Document, Element, Text, Attr}
use Rattle.tree_model.specs.Limits.{deepest_level}
use Rattle.tree_model.specs.Names.{Name, is_name}
use Rattle.tree_model.specs.Keys.{key_at, node_key}
use Rattle.tree_model.specs.Entries.{Entries, Below, Above, Sorted, get}
use Rattle.tree_model.specs.Tree.{Attributes, Forest, none, node, attr_entry, own, entries_of, Catalogue, at, found, head_label, labels, record_of, edit, then_trees}
use Rattle.tree_model.specs.inside.FoundNodes.{up, low}
use Rattle.tree_model.specs.ValidTrees.{NamesRise, KeysRise, KindsAllowed, LimitsKept, may_stand, may_have, entries_with}
use Rattle.tree_model.specs.Records.{is_data, record_fits}
use Rattle.tree_model.specs.Places.{is_root}
use Rattle.tree_model.specs.StoredTree.{catalogue_in, has_under, may_join, node_fits, is_value, is_element_record, attribute_fits, entry_fits}
use Rattle.tree_model.proofs.Lists.{all_append, all_behind, all_before, all_on}
use Rattle.tree_model.proofs.Entries.{get_past, sorted_below, sorted_behind}
use Rattle.tree_model.proofs.Split.{Labelled, SideIs, Later, all_under, before_of, after_of, split}
use Rattle.tree_model.proofs.Found.{some_is, at_label, Lies, lies}
use Rattle.tree_model.proofs.EntryLimits.{list_itself}
use Rattle.tree_model.proofs.NamedLists.{name_starts}
use Rattle.tree_model.proofs.ForwardReads.{behind_right, get_law}
use Rattle.tree_model.proofs.Edits.{over, edit_entries, edit_keys, edit_kinds, edit_limits}
use Rattle.tree_model.proofs.EditedTrees.{labels-edit}
use Rattle.tree_model.proofs.Joins.{end_of, entries-then_trees, labels-then_trees, keys-then_trees, kinds-then_trees, limits-then_trees}
use Rattle.tree_model.proofs.StoredCatalogues.{later_not_below, NotRoot, root_is, not_root_under, catalogue_before, forest_not_root}
use Rattle.tree_model.proofs.UnbrokenTrees.{AllFit}

-- ---- entries below a key

-- what lies below a node's key has an earlier label
below_earlier : (l : Label) (e : Key × Record) → Below (node_key l) e → slice_cmp nat_cmp e.0.label l ≡ Less
below_earlier l e h = elim (slice_cmp nat_cmp e.0.label l) as (λ o. ordering_then o (slice_cmp nat_cmp e.0.name []) ≡ Less → o ≡ Less) [
  | Less ↦ λ _. refl
  | Equal ↦ λ g. absurd (none_before e.0.name g)
  | Greater ↦ λ g. cc
] h
  where
    none_before : (n : Name) → slice_cmp nat_cmp n [] ≡ Less → ⊥
    none_before [] g = cc
    none_before (d ∷ n) g = cc

-- the last of some trees below a key has an earlier label
end_earlier : (b l : Label) (f : Forest) → slice_cmp nat_cmp b l ≡ Less → AllByRecursion (Below (node_key l)) (entries_of f) → slice_cmp nat_cmp (end_of b f) l ≡ Less
end_earlier b l none h g = h
end_earlier b l (node m r ats ch nx) h g = end_earlier m l nx (below_earlier l (node_key m, r) g.0) (all_behind (Below (node_key l)) (own m r ats ++ entries_of ch) (entries_of nx) g)

-- of what has later labels nothing lies below a key
none_later : (l : Label) (n : Name) (es : Entries) → AllByRecursion (Labelled (Later l)) es → AllByRecursion (Below (key_at l n)) es → es ≡ []
none_later l n [] h g = refl
none_later l n (e ∷ es) h g = absurd (later_not_below l n e h.0 g.0)

-- the names of attributes below the key of another one rise up to its name
names_with_last : (l : Label) (lo n : Name) (v : List ℕ) (ats : Attributes) → slice_cmp nat_cmp lo n ≡ Less → is_name n ≡ true → AllByRecursion (Below (key_at l n)) (map (attr_entry l) ats) → NamesRise lo ats → NamesRise lo (ats ++ ((n, v) ∷ []))
names_with_last l lo n v [] h named g w = (h, named, tt)
names_with_last l lo n v (a ∷ ats) h named g w = (w.0, w.1, names_with_last l a.0 n v ats (sym (ap (λ o. ordering_then o (slice_cmp nat_cmp a.0 n)) (list_itself l)) ∙ g.0) named g.1 w.2)

-- ---- a forest with given entries

-- the tree of the entries so far, whose documents the catalogue names
pub record Grown (cat : Catalogue) (docs : Entries) : Type 0 where
  pub forest : Forest
  pub keys : KeysRise root root forest
  pub kinds : KindsAllowed None forest
  pub limits : LimitsKept forest
  pub entries : entries_of forest ≡ docs
  pub named : AllByRecursion (λ l. entries_with l cat ≡ 1) (labels forest)

-- one entry more behind a tree behind which there are none
regrown : (b t n a : Entries) (x : Key × Record) → n ++ a ≡ [] → b ++ (((t ++ (x ∷ [])) ++ n) ++ a) ≡ (b ++ ((t ++ n) ++ a)) ++ (x ∷ [])
regrown b t [] [] x h = simp (append_assoc, append-nil) refl
regrown b t [] (y ∷ a) x h = cc
regrown b t (y ∷ n) a x h = cc

module _ (cat : Catalogue) (docs : Entries) (z : Grown cat docs) (p : Label) (q : Record) (ats : Attributes) (ch nx : Forest) (e : at p z.forest ≡ node p q ats ch nx) where
  abbrev f : Forest
  f = z.forest

  abbrev place : Lies (up p root f) p q ats ch nx (entries_of f)
  place = lies root root p p q ats ch nx f z.keys e

  -- where all entries lie below a key in the node's subtree, none stands behind that subtree
  nothing_behind : (l : Label) (n : Name) → is_in (side p l) ≡ true → AllByRecursion (Below (key_at l n)) docs → entries_of nx ++ after_of p f ≡ []
  nothing_behind l n i low =
      let back = entries_of nx ++ after_of p f in
      none_later l n back
      (all_on (Labelled (SideIs p right)) (Labelled (Later l)) (λ x s. right_before l x.0.label (right_within p x.0.label l x.0.label s i (ap is_in (side_itself x.0.label)))) back (behind_right (up p root f) p q ats ch nx (entries_of f) place))
      (all_behind (Below (key_at l n)) ((before_of p f ++ own p q ats) ++ entries_of ch) back (subst (AllByRecursion (Below (key_at l n))) (sym z.entries ∙ place.whole) low))

  -- the node's own entries, and its children's, are among all
  tree_has : (P : Key × Record → Type 0) → AllByRecursion P docs → AllByRecursion P (own p q ats) × AllByRecursion P (entries_of ch)
  tree_has P h =
      let all = subst (AllByRecursion P) (sym z.entries ∙ place.whole) h in
      let prefix = all_before P ((before_of p f ++ own p q ats) ++ entries_of ch) (entries_of nx ++ after_of p f) all in
      (all_behind P (before_of p f) (own p q ats) (all_before P (before_of p f ++ own p q ats) (entries_of ch) prefix), all_behind P (before_of p f ++ own p q ats) (entries_of ch) prefix)

  -- a change at the node that puts one entry behind its subtree
  extended : (h : Forest → Forest) (x : Key × Record) → ((g : Forest) → labels (h g) ≡ labels g)
      → ((o b : Label) → KeysRise o b (node p q ats ch nx) → KeysRise o b (h (node p q ats ch nx)))
      → ((o : Option Record) → KindsAllowed o (node p q ats ch nx) → KindsAllowed o (h (node p q ats ch nx)))
      → (LimitsKept (node p q ats ch nx) → LimitsKept (h (node p q ats ch nx)))
      → entries_of (h (node p q ats ch nx)) ≡ ((own p q ats ++ entries_of ch) ++ (x ∷ [])) ++ entries_of nx
      → entries_of nx ++ after_of p f ≡ [] → Grown cat (docs ++ (x ∷ []))
  extended h x row keys kinds limits more last = record {
    forest = edit p h f;
    keys = edit_keys root root p h f z.keys (subst (λ g. KeysRise (up p root f) (low p root f) g → KeysRise (up p root f) (low p root f) (h g)) (sym e) (keys (up p root f) (low p root f)));
    kinds = edit_kinds None p h f z.kinds (subst (λ g. KindsAllowed (over p None f) g → KindsAllowed (over p None f) (h g)) (sym e) (kinds (over p None f)));
    limits = edit_limits p h f z.limits (subst (λ g. LimitsKept g → LimitsKept (h g)) (sym e) limits);
    entries =
        edit_entries p h f (ap found e)
        ∙ ap (λ g. before_of p f ++ (entries_of (h g) ++ after_of p f)) e
        ∙ ap (λ v. before_of p f ++ (v ++ after_of p f)) more
        ∙ regrown (before_of p f) (own p q ats ++ entries_of ch) (entries_of nx) (after_of p f) x last
        ∙ ap (λ v. v ++ (x ∷ [])) (sym (ap (λ g. before_of p f ++ (entries_of g ++ after_of p f)) e) ∙ sym (split p f) ∙ z.entries);
    named = subst (AllByRecursion (λ l. entries_with l cat ≡ 1)) (sym (labels-edit p h f row)) z.named;
  }

-- ---- one entry more

within_is : (n m : ℕ) → nat_le n m ≡ true → n ≤ m
within_is n m h = grind (arith, nat_tests)

-- a node without attributes and children
abbrev leaf : Label → Record → Forest
leaf l r = node l r [] none none

-- a first node with one more child, and with one more attribute
abbrev with_child : Forest → Forest → Forest
with_child c none = none
with_child c (node l r ats ch nx) = node l r ats (then_trees ch c) nx

abbrev with_last_attribute : Name × List ℕ → Forest → Forest
with_last_attribute a none = none
with_last_attribute a (node l r ats ch nx) = node l r (ats ++ (a ∷ [])) ch nx

child_row : (c g : Forest) → labels (with_child c g) ≡ labels g
child_row c none = refl
child_row c (node l r ats ch nx) = refl

attribute_row : (a : Name × List ℕ) (g : Forest) → labels (with_last_attribute a g) ≡ labels g
attribute_row a none = refl
attribute_row a (node l r ats ch nx) = refl

-- no entry lies under the label where the test finds none
under_none : (p : Label) (es : Entries) → has_under p es ≡ false → AllByRecursion (Labelled (λ k. is_under (side p k) ≡ false)) es
under_none p [] h = tt
under_none p (e ∷ es) h = elim (is_under (side p e.0.label)) as (λ b. is_under (side p e.0.label) ≡ b → (b || has_under p es) ≡ false → AllByRecursion (Labelled (λ k. is_under (side p k) ≡ false)) (e ∷ es)) [
  | true ↦ λ _ g. absurd (true≢false g)
  | false ↦ λ q g. (q, under_none p es g)
] refl h

-- a row of children of which none lies under the parent is empty
no_children : (p b : Label) (ch : Forest) → KeysRise p b ch → AllByRecursion (Labelled (λ k. is_under (side p k) ≡ false)) (entries_of ch) → ch ≡ none
no_children p b none w h = refl
no_children p b (node l r ats ch nx) w h = absurd (true≢false (sym (ap is_under (child_under p l w.0)) ∙ h.0))

-- any node may be without attributes
alone : (r : Record) → may_have r [] ≡ true
alone Document = refl
alone (Element n) = refl
alone (Text t) = refl
alone (Attr v) = refl

-- the kinds of a row with one more node
joined_kinds : (q r : Record) (taken : Bool) (l : Label) (ch : Forest) → may_join (Some q) r taken ≡ true → (taken ≡ false → ch ≡ none) → KindsAllowed (Some q) ch → KindsAllowed (Some q) (then_trees ch (leaf l r))
joined_kinds Document r taken l ch h empty w =
    subst (λ g. KindsAllowed (Some Document) (then_trees g (leaf l r))) (sym (empty (not_taken taken (second_of_both (may_stand (Some Document) r) (not taken) h)))) (first_of_both (may_stand (Some Document) r) (not taken) h, refl, alone r, tt, tt)
  where
    not_taken : (b : Bool) → not b ≡ true → b ≡ false
    not_taken true g = absurd (true≢false (sym g))
    not_taken false g = refl
joined_kinds (Element n) r taken l ch h empty w = kinds-then_trees (Some (Element n)) ch (leaf l r) (λ _. refl) w (h, refl, alone r, tt, tt)
joined_kinds (Text t) r taken l ch h empty w = absurd (none_below_text r h)
  where
    none_below_text : (r : Record) → may_stand (Some (Text t)) r ≡ true → ⊥
    none_below_text Document g = cc
    none_below_text (Element n) g = cc
    none_below_text (Text u) g = cc
    none_below_text (Attr v) g = cc
joined_kinds (Attr v) r taken l ch h empty w = absurd (none_below_value r h)
  where
    none_below_value : (r : Record) → may_stand (Some (Attr v)) r ≡ true → ⊥
    none_below_value Document g = cc
    none_below_value (Element n) g = cc
    none_below_value (Text u) g = cc
    none_below_value (Attr u) g = cc

-- the entries before a node of the tree are the root's, then the documents'
abbrev pub AtRoot : Entries → Type 0
AtRoot es = AllByRecursion (Labelled (λ k. k ≡ root)) es

roots_below : (p : Label) (roots : Entries) → side root p ≡ under → AtRoot roots → AllByRecursion (Below (node_key p)) roots
roots_below p roots u h = all_on (Labelled (λ k. k ≡ root)) (Below (node_key p)) (λ e is. ap (λ o. ordering_then o (slice_cmp nat_cmp e.0.name [])) (subst (λ k. slice_cmp nat_cmp k p ≡ Less) (sym is) (under_before root p u))) roots h

-- a node that the test finds there
record Parent (f : Forest) (p : Label) (q : Record) : Type 0 where
  ats : Attributes
  ch : Forest
  nx : Forest
  is : at p f ≡ node p q ats ch nx

parent_found : (f : Forest) (p : Label) (q : Record) → record_of (at p f) ≡ Some q → Parent f p q
parent_found f p q h = elim (at p f) as (λ g. at p f ≡ g → (found g ≡ true → head_label g ≡ Some p) → record_of g ≡ Some q → Parent f p q) [
  | none ↦ λ _ _ e. cc
  | node m r ats ch nx ↦ λ e l s. record { ats = ats; ch = ch; nx = nx; is = subst (λ k. at p f ≡ node k q ats ch nx) (some_is m p (l refl)) (subst (λ k. at p f ≡ node m k ats ch nx) (some_is r q s) e) }
] refl (at_label p f) h

module _ (roots docs : Entries) (at_root : AtRoot roots) (z : Grown (catalogue_in roots) docs) where
  abbrev before : Entries
  before = roots ++ docs

  -- the catalogue is that of the root's entries
  catalogue_is : catalogue_in before ≡ catalogue_in roots
  catalogue_is = catalogue_before roots docs (subst (AllByRecursion (Labelled NotRoot)) z.entries (forest_not_root root z.forest z.keys))

  there : (p : Label) (q : Record) → side root p ≡ under → get (node_key p) before ≡ Some q → Parent z.forest p q
  there p q u h = parent_found z.forest p q (sym (get_law root root p z.forest z.keys) ∙ ap (get (node_key p)) z.entries ∙ sym (get_past (node_key p) roots docs (roots_below p roots u at_root)) ∙ h)

  -- a new document
  with_document : (l : Label) (r : Record) → IsLabel l → is_child root l ≡ true → level l ≤ deepest_level → record_fits r ≡ true → may_stand None r ≡ true → entries_with l (catalogue_in roots) ≡ 1
      → AllByRecursion (Below (node_key l)) docs → Grown (catalogue_in roots) (docs ++ ((node_key l, r) ∷ []))
  with_document l r h c deep fit kind one lows =
      let f = z.forest in
      let last = end_earlier root l f (under_before root l (child_under root l c)) (subst (AllByRecursion (Below (node_key l))) (sym z.entries) lows) in
      record {
        forest = then_trees f (leaf l r);
        keys = keys-then_trees root root f (leaf l r) z.keys (c, last, h.1, tt, tt, tt);
        kinds = kinds-then_trees None f (leaf l r) (λ _. refl) z.kinds (kind, refl, alone r, tt, tt);
        limits = limits-then_trees f (leaf l r) z.limits (deep, fit, tt, tt, tt);
        entries = entries-then_trees f (leaf l r) ∙ ap (λ v. v ++ ((node_key l, r) ∷ [])) z.entries;
        named = subst (AllByRecursion (λ k. entries_with k (catalogue_in roots) ≡ 1)) (sym (labels-then_trees f (leaf l r))) (all_append (λ k. entries_with k (catalogue_in roots) ≡ 1) (labels f) (l ∷ []) z.named (one, tt));
      }

  -- a new node below another one
  with_node : (p l : Label) (q r : Record) → IsLabel l → is_child p l ≡ true → level l ≤ deepest_level → record_fits r ≡ true → may_join (Some q) r (has_under p before) ≡ true → Parent z.forest p q
      → AllByRecursion (Below (node_key l)) docs → Grown (catalogue_in roots) (docs ++ ((node_key l, r) ∷ []))
  with_node p l q r h c deep fit kind host lows =
      let e = host.is in
      let cat = catalogue_in roots in
      let l_under : side p l ≡ under = child_under p l c in
      let tree_low = tree_has cat docs z p q host.ats host.ch host.nx e (Below (node_key l)) lows in
      let lone : has_under p before ≡ false → KeysRise p p host.ch → host.ch ≡ none =
      λ g w. no_children p p host.ch w (tree_has cat docs z p q host.ats host.ch host.nx e (Labelled (λ k. is_under (side p k) ≡ false)) (all_behind (Labelled (λ k. is_under (side p k) ≡ false)) roots docs (under_none p before g))).1 in
      let children : KeysRise p p host.ch = (place cat docs z p q host.ats host.ch host.nx e).children in
      extended cat docs z p q host.ats host.ch host.nx e (with_child (leaf l r)) (node_key l, r) (child_row (leaf l r))
      (λ o b w. (w.0, w.1, w.2, w.3, keys-then_trees p p host.ch (leaf l r) w.4 (c, end_earlier p l host.ch (under_before p l l_under) tree_low.1, h.1, tt, tt, tt), w.5))
      (λ o w. (w.0, w.1, w.2, joined_kinds q r (has_under p before) l host.ch kind (λ g. lone g children) w.3, w.4))
      (λ w. (w.0, w.1, w.2, limits-then_trees host.ch (leaf l r) w.3 (deep, fit, tt, tt, tt), w.4))
      (ap (λ v. (own p q host.ats ++ v) ++ entries_of host.nx) (entries-then_trees host.ch (leaf l r)) ∙ ap (λ v. v ++ entries_of host.nx) (sym (append_assoc (own p q host.ats) (entries_of host.ch) ((node_key l, r) ∷ []))))
      (nothing_behind cat docs z p q host.ats host.ch host.nx e l [] (ap is_in l_under) lows)

  -- a new attribute of an element
  with_attribute : (l : Label) (m n : Name) (v : List ℕ) → is_name n ≡ true → is_data v ≡ true → Parent z.forest l (Element m) → AllByRecursion (Below (key_at l n)) docs → Grown (catalogue_in roots) (docs ++ ((key_at l n, Attr v) ∷ []))
  with_attribute l m n v named valued host lows =
      let e = host.is in
      let cat = catalogue_in roots in
      let a : Name × List ℕ = (n, v) in
      let x : Key × Record = (key_at l n, Attr v) in
      let q = Element m in
      let P = Below (key_at l n) in
      let tree_low = tree_has cat docs z l q host.ats host.ch host.nx e P lows in
      let lies_here = place cat docs z l q host.ats host.ch host.nx e in
      let childless : entries_of host.ch ≡ [] = none_later l n (entries_of host.ch) (all_on (Labelled (SideIs l under)) (Labelled (Later l)) (λ y s. under_before l y.0.label s) (entries_of host.ch) (all_under l l host.ch lies_here.children)) tree_low.1 in
      let first : slice_cmp nat_cmp [] n ≡ Less = name_starts n named in
      extended cat docs z l q host.ats host.ch host.nx e (with_last_attribute a) x (attribute_row a)
      (λ o b w. (w.0, w.1, w.2, names_with_last l [] n v host.ats first named tree_low.0.1 w.3, w.4, w.5))
      (λ o w. (w.0, w.1, refl, w.3, w.4))
      (λ w. (w.0, w.1, all_append (λ c. is_data c.1 ≡ true) host.ats (a ∷ []) w.2 (valued, tt), w.3, w.4))
      (ap (λ t. (((node_key l, q) ∷ t) ++ entries_of host.ch) ++ entries_of host.nx) (map-append (attr_entry l) host.ats (a ∷ [])) ∙ ap (λ t. t ++ entries_of host.nx) (swapped (own l q host.ats) (entries_of host.ch) x childless))
      (nothing_behind cat docs z l q host.ats host.ch host.nx e l n (ap is_in (side_itself l)) lows)
    where
      swapped : (o c : Entries) (x : Key × Record) → c ≡ [] → (o ++ (x ∷ [])) ++ c ≡ (o ++ c) ++ (x ∷ [])
      swapped o [] x h = simp (append_assoc, append-nil) refl
      swapped o (y ∷ c) x h = cc

  -- whatever entry_fits goes to the end of the tree
  grown_by : (l : Label) (n : Name) (r : Record) → IsLabel l → NotRoot l → entry_fits before (key_at l n, r) ≡ true → AllByRecursion (Below (key_at l n)) docs → Grown (catalogue_in roots) (docs ++ ((key_at l n, r) ∷ []))
  grown_by l [] r h other fit lows = by_parent (is_root (parent l)) refl (second_of_both (record_fits r) _ (second_of_both (nat_le (level l) deepest_level) _ here))
    where
      here : node_fits l r before ≡ true
      here = sym (ap (λ b. cond b false (node_fits l r before)) other) ∙ fit

      deep : level l ≤ deepest_level
      deep = within_is (level l) deepest_level (first_of_both (nat_le (level l) deepest_level) _ here)

      kept : record_fits r ≡ true
      kept = first_of_both (record_fits r) _ (second_of_both (nat_le (level l) deepest_level) _ here)

      child : is_child (parent l) l ≡ true
      child = child_of_parent l h.0 (λ e. true≢false (ap is_root (sym e) ∙ other))

      below : (o : Option Record) → get (node_key (parent l)) before ≡ o → side root (parent l) ≡ under → may_join o r (has_under (parent l) before) ≡ true → Grown (catalogue_in roots) (docs ++ ((node_key l, r) ∷ []))
      below None g u k = absurd (true≢false (sym k))
      below (Some q) g u k = with_node (parent l) l q r h child deep kept k (there (parent l) q u g) lows

      by_parent : (b : Bool) → is_root (parent l) ≡ b
          → cond b (may_stand None r && (entries_with l (catalogue_in before) == 1)) (may_join (get (node_key (parent l)) before) r (has_under (parent l) before)) ≡ true
          → Grown (catalogue_in roots) (docs ++ ((node_key l, r) ∷ []))
      by_parent true q g =
          let named : entries_with l (catalogue_in before) ≡ 1 = eq_is _ _ (second_of_both (may_stand None r) _ g) in
          with_document l r h (subst (λ k. is_child k l ≡ true) (root_is (parent l) q) child) deep kept (first_of_both (may_stand None r) _ g) (ap (entries_with l) (sym catalogue_is) ∙ named) lows
      by_parent false q g = below (get (node_key (parent l)) before) refl (not_root_under (parent l) (is_label-parent l h.0) q) g
  grown_by l (d ∷ n) r h other fit lows = valued r (first_of_both (is_value r) _ (second_of_both (is_name (d ∷ n)) _ here))
    where
      here : attribute_fits (key_at l (d ∷ n)) r before ≡ true
      here = sym (ap (λ b. cond b true (attribute_fits (key_at l (d ∷ n)) r before)) other) ∙ fit

      named : is_name (d ∷ n) ≡ true
      named = first_of_both (is_name (d ∷ n)) _ here

      of_element : (v : List ℕ) (o : Option Record) → get (node_key l) before ≡ o → is_data v ≡ true → is_element_record o ≡ true → Grown (catalogue_in roots) (docs ++ ((key_at l (d ∷ n), Attr v) ∷ []))
      of_element v None g valued k = absurd (true≢false (sym k))
      of_element v (Some Document) g valued k = absurd (true≢false (sym k))
      of_element v (Some (Element m)) g valued k = with_attribute l m (d ∷ n) v named valued (there l (Element m) (not_root_under l h.0 other) g) lows
      of_element v (Some (Text t)) g valued k = absurd (true≢false (sym k))
      of_element v (Some (Attr t)) g valued k = absurd (true≢false (sym k))

      valued : (r : Record) → is_value r ≡ true → Grown (catalogue_in roots) (docs ++ ((key_at l (d ∷ n), r) ∷ []))
      valued Document g = absurd (true≢false (sym g))
      valued (Element m) g = absurd (true≢false (sym g))
      valued (Text t) g = absurd (true≢false (sym g))
      valued (Attr v) g = of_element v (get (node_key l) before) refl g (second_of_both (is_value r) _ (second_of_both (is_name (d ∷ n)) _ here))

-- ---- all entries

grown : (roots docs es : Entries) → AtRoot roots → Grown (catalogue_in roots) docs → AllFit (roots ++ docs) es → Sorted ((roots ++ docs) ++ es) → AllByRecursion (Labelled IsLabel) es → AllByRecursion (Labelled NotRoot) es → Grown (catalogue_in roots) (docs ++ es)
grown roots docs [] at_root z h s i n = subst (Grown (catalogue_in roots)) (sym (append-nil docs)) z
grown roots docs (e ∷ es) at_root z h s i n =
    let lows : AllByRecursion (Below e.0) docs = all_behind (Below e.0) roots docs (sorted_below (roots ++ docs) es e s) in
    let more : Grown (catalogue_in roots) (docs ++ (e ∷ [])) = grown_by roots docs at_root z e.0.label e.0.name e.1 i.0 n.0 h.0 lows in
    let group : (roots ++ docs) ++ (e ∷ []) ≡ roots ++ (docs ++ (e ∷ [])) = append_assoc roots docs (e ∷ []) in
    subst (Grown (catalogue_in roots)) (append_assoc docs (e ∷ []) es)
    (grown roots (docs ++ (e ∷ [])) es at_root more (subst (λ v. AllFit v es) group h.1) (subst Sorted (sym (append_assoc (roots ++ docs) (e ∷ []) es) ∙ ap (λ v. v ++ es) group) s) i.1 n.1)

-- entries of which the root's come first, and a tree of the others
pub record Divided (es : Entries) : Type 0 where
  pub roots : Entries
  pub docs : Entries
  pub is : es ≡ roots ++ docs
  pub at_root : AtRoot roots
  pub tree : Grown (catalogue_in roots) docs

-- what lies above an entry that isn't the root's isn't the root's
pub others_behind : (e : Key × Record) (es : Entries) → side root e.0.label ≡ under → AllByRecursion (Above e.0) es → AllByRecursion (Labelled NotRoot) es
others_behind e es u h = all_on (Above e.0) (Labelled NotRoot) behind es h
  where
    behind : (x : Key × Record) → Above e.0 x → NotRoot x.0.label
    behind x a = elim (is_root x.0.label) as (λ b. is_root x.0.label ≡ b → b ≡ false) [
      | true ↦ λ q. absurd (later_not_below root x.0.name e (under_before root e.0.label u) (subst (λ k. Below (key_at k x.0.name) e) (root_is x.0.label q) a))
      | false ↦ λ _. refl
    ] refl

pub divided : (roots es : Entries) → AtRoot roots → AllFit roots es → Sorted (roots ++ es) → AllByRecursion (Labelled IsLabel) es → Divided (roots ++ es)
divided roots [] at_root h s i = record { roots = roots; docs = []; is = refl; at_root = at_root; tree = record { forest = none; keys = tt; kinds = tt; limits = tt; entries = refl; named = tt } }
divided roots (e ∷ es) at_root h s i = elim (is_root e.0.label) as (λ b. is_root e.0.label ≡ b → Divided (roots ++ (e ∷ es))) [
  | true ↦ λ q. subst Divided (append_assoc roots (e ∷ []) es) (divided (roots ++ (e ∷ [])) es (all_append (Labelled (λ k. k ≡ root)) roots (e ∷ []) at_root (root_is e.0.label q, tt)) h.1 (subst Sorted (sym (append_assoc roots (e ∷ []) es)) s) i.1)
  | false ↦ λ q. let all = sorted_behind roots (e ∷ es) s in record {
    roots = roots;
    docs = e ∷ es;
    is = refl;
    at_root = at_root;
    tree = grown roots [] (e ∷ es) at_root (record { forest = none; keys = tt; kinds = tt; limits = tt; entries = refl; named = tt }) (subst (λ v. AllFit v (e ∷ es)) (sym (append-nil roots)) h) (subst (λ v. Sorted (v ++ (e ∷ es))) (sym (append-nil roots)) s) i (q, others_behind e es (not_root_under e.0.label i.0.0 q) all.0);
  }
] refl
