-- The map of a tree about one place: what a change of the subtree there does to it, and to nothing else.
use Rattle.std.specs.List.{AllByRecursion}
use Rattle.std.proofs.Common.{◌≡◌, true, [], ◌∷◌, ◌++◌, map, refl, sym, ap, subst, ◌∙◌, append_assoc, true≢false}
use Rattle.dewey_labels.specs.Labels.{Label, root}
use Rattle.dewey_labels.specs.Sides.{side, ahead}
use Rattle.dewey_labels.proofs.Sides.{under_above}
use Rattle.tree_model.specs.declared.record.Record.{Record}
use Rattle.tree_model.specs.Changes.{put_change, drop_change, differences}
use Rattle.tree_model.specs.Names.{Name}
use Rattle.tree_model.specs.Keys.{key_at}
use Rattle.tree_model.specs.Entries.{Entries, Below, Sorted, del, changed}
use Rattle.tree_model.specs.Tree.{Attributes, Forest, none, node, own, entries_of, Tree, map_of, at, found, head_label, then_trees}
use Rattle.tree_model.specs.ValidTrees.{KeysRise, IsValidTree}
use Rattle.tree_model.specs.Edits.{edited}
use Rattle.tree_model.proofs.Lists.{all_append, all_on}
use Rattle.tree_model.proofs.Split.{Labelled, before_of, after_of, split, all_ahead}
use Rattle.tree_model.proofs.Found.{some_is, at_label}
use Rattle.tree_model.proofs.Entries.{del_all, del_past, del_here, sorted_below, sorted_del, put_sorted, changed_append}
use Rattle.tree_model.proofs.Joins.{entries-then_trees}
use Rattle.tree_model.proofs.Keys.{key_itself}
use Rattle.tree_model.proofs.PutChanges.{changed_puts, changed_drops}
use Rattle.tree_model.proofs.Seeks.{ahead_below_node}
use Rattle.tree_model.proofs.Edits.{edit_entries}
use Rattle.tree_model.proofs.WholeTree.{catalogue_entries, at_root, found_under, map_sorted}
use Rattle.tree_changes.proofs.Stretches.{differences_between}

-- ---- the map about a found node

-- the entries before those of a node and of the trees behind it
abbrev pub prefix_of : Label → Tree → Entries
prefix_of l t = catalogue_entries t.catalogue ++ before_of l t.documents

pub whole_map : (l : Label) (t : Tree) → map_of t ≡ prefix_of l t ++ (entries_of (at l t.documents) ++ after_of l t.documents)
whole_map l t = ap (λ v. catalogue_entries t.catalogue ++ v) (split l t.documents)
    ∙ sym (append_assoc (catalogue_entries t.catalogue) (before_of l t.documents) (entries_of (at l t.documents) ++ after_of l t.documents))

pub edited_map : (l : Label) (h : Forest → Forest) (t : Tree) → found (at l t.documents) ≡ true
    → map_of (edited l h t) ≡ prefix_of l t ++ (entries_of (h (at l t.documents)) ++ after_of l t.documents)
edited_map l h t y = ap (λ v. catalogue_entries t.catalogue ++ v) (edit_entries l h t.documents y)
    ∙ sym (append_assoc (catalogue_entries t.catalogue) (before_of l t.documents) (entries_of (h (at l t.documents)) ++ after_of l t.documents))

-- they lie below the node's keys
pub prefix_below : (l : Label) (n : Name) (t : Tree) → KeysRise root root t.documents → found (at l t.documents) ≡ true
    → AllByRecursion (Below (key_at l n)) (prefix_of l t)
prefix_below l n t w y =
    all_append (Below (key_at l n)) (catalogue_entries t.catalogue) (before_of l t.documents)
    (all_on (Labelled (λ v. ahead (side l v) ≡ true)) (Below (key_at l n)) (ahead_below_node l n) (catalogue_entries t.catalogue)
    (at_root (λ v. ahead (side l v) ≡ true) (ap ahead (under_above root l (found_under root root l t.documents w y))) t.catalogue))
    (all_on (Labelled (λ v. ahead (side l v) ≡ true)) (Below (key_at l n)) (ahead_below_node l n) (before_of l t.documents)
    (all_ahead root root l t.documents w))

-- a node that was found, with its own label
pub with_label : (P : Forest → Type 0) (l : Label) (t : Tree) → found (at l t.documents) ≡ true
    → ((r : Record) (ats : Attributes) (ch nx : Forest) → at l t.documents ≡ node l r ats ch nx → P (node l r ats ch nx)) → P (at l t.documents)
with_label P l t y h = by (at l t.documents) refl
  where
    by : (f : Forest) → at l t.documents ≡ f → P f
    by none e = absurd (true≢false (sym y ∙ ap found e))
    by (node m r ats ch nx) e =
        let is : m ≡ l = some_is m l (ap head_label (sym e) ∙ at_label l t.documents y) in
        subst (λ z. P (node z r ats ch nx)) (sym is) (h r ats ch nx (subst (λ z. at l t.documents ≡ node z r ats ch nx) is e))

-- ---- two trees whose maps are one but for a stretch

pub record IsStretch (old new : Entries) (t u : Tree) : Type 0 where
  pub prefix : Entries
  pub suffix : Entries
  pub before : map_of t ≡ prefix ++ (old ++ suffix)
  pub after : map_of u ≡ prefix ++ (new ++ suffix)

-- their differences are those of the stretch
pub stretch_differences : (old new : Entries) (t u : Tree) → IsValidTree t → IsValidTree u → IsStretch old new t u
    → differences (map_of t) (map_of u) ≡ differences old new
stretch_differences old new t u w v s = (λ i. differences (s.before i) (s.after i))
    ∙ differences_between s.prefix old new s.suffix (subst Sorted s.before (map_sorted t w)) (subst Sorted s.after (map_sorted u v))

-- a stretch of a sorted map is deleted
pub del_sorted : (a s b : Entries) → Sorted (a ++ (s ++ b)) → del_all s (a ++ (s ++ b)) ≡ a ++ b
del_sorted a [] b h = refl
del_sorted a (x ∷ s) b h =
    let gone : del x.0 (a ++ (x ∷ (s ++ b))) ≡ a ++ (s ++ b) = del_past x.0 a (x ∷ (s ++ b)) (sorted_below a (s ++ b) x h)
    ∙ ap (λ v. a ++ v) (del_here x.0 x (s ++ b) (key_itself x.0)) in
    ap (del_all s) gone ∙ del_sorted a s b (subst Sorted gone (sorted_del x.0 (a ++ (x ∷ (s ++ b))) h))

-- the one map is made of the other by deleting the old entries and putting the new ones
pub stretch_changes : (old new : Entries) (t u : Tree) → Sorted (map_of t) → Sorted (map_of u) → IsStretch old new t u
    → map_of u ≡ changed (map drop_change old ++ map put_change new) (map_of t)
stretch_changes old new t u w v s =
    s.after
    ∙ sym (put_sorted s.prefix new s.suffix (subst Sorted s.after v))
    ∙ sym (changed_puts new (s.prefix ++ s.suffix))
    ∙ ap (changed (map put_change new))
    (sym (changed_drops old (map_of t) ∙ ap (del_all old) s.before ∙ del_sorted s.prefix old s.suffix (subst Sorted s.before w)))
    ∙ sym (changed_append (map drop_change old) (map put_change new) (map_of t))

-- where nothing stood, all are put
pub differences_from_none : (xs : Entries) → differences [] xs ≡ map put_change xs
differences_from_none [] = refl
differences_from_none (x ∷ xs) = ap (λ v. put_change x ∷ v) (differences_from_none xs)

-- ---- one place that is changed, with the trees behind it

pub place_stretch : (l : Label) (h : Forest → Forest) (t : Tree) → found (at l t.documents) ≡ true
    → IsStretch (entries_of (at l t.documents)) (entries_of (h (at l t.documents))) t (edited l h t)
place_stretch l h t y = record { prefix = prefix_of l t; suffix = after_of l t.documents; before = whole_map l t; after = edited_map l h t y }

pub place_differences : (l : Label) (h : Forest → Forest) (t : Tree) → IsValidTree t → IsValidTree (edited l h t) → found (at l t.documents) ≡ true
    → differences (map_of t) (map_of (edited l h t)) ≡ differences (entries_of (at l t.documents)) (entries_of (h (at l t.documents)))
place_differences l h t w v y = stretch_differences (entries_of (at l t.documents)) (entries_of (h (at l t.documents))) t (edited l h t) w v
    (place_stretch l h t y)

module _ (l : Label) (h : Forest → Forest) (t : Tree) (r : Record) (ats : Attributes) (ch nx : Forest) (e : at l t.documents ≡ node l r ats ch nx) where
  -- a tree in whose stead others come
  pub tree_stretch : (new : Entries) → entries_of (h (node l r ats ch nx)) ≡ new ++ entries_of nx
      → IsStretch (own l r ats ++ entries_of ch) new t (edited l h t)
  tree_stretch new is = record {
    prefix = prefix_of l t;
    suffix = entries_of nx ++ after_of l t.documents;
    before = whole_map l t ∙ ap (λ g. prefix_of l t ++ (entries_of g ++ after_of l t.documents)) e
        ∙ ap (λ es. prefix_of l t ++ es) (append_assoc (own l r ats ++ entries_of ch) (entries_of nx) (after_of l t.documents));
    after = edited_map l h t (ap found e) ∙ ap (λ g. prefix_of l t ++ (entries_of (h g) ++ after_of l t.documents)) e
        ∙ ap (λ es. prefix_of l t ++ (es ++ after_of l t.documents)) is
        ∙ ap (λ es. prefix_of l t ++ es) (append_assoc new (entries_of nx) (after_of l t.documents));
  }

  -- other children
  pub children_stretch : (new : Forest) → h (node l r ats ch nx) ≡ node l r ats new nx → IsStretch (entries_of ch) (entries_of new) t (edited l h t)
  children_stretch new is = record {
    prefix = prefix_of l t ++ own l r ats;
    suffix = entries_of nx ++ after_of l t.documents;
    before = whole_map l t ∙ ap (λ g. prefix_of l t ++ (entries_of g ++ after_of l t.documents)) e
        ∙ regroup (prefix_of l t) (own l r ats) (entries_of ch) (entries_of nx) (after_of l t.documents);
    after = edited_map l h t (ap found e) ∙ ap (λ g. prefix_of l t ++ (entries_of (h g) ++ after_of l t.documents)) e
        ∙ ap (λ g. prefix_of l t ++ (entries_of g ++ after_of l t.documents)) is
        ∙ regroup (prefix_of l t) (own l r ats) (entries_of new) (entries_of nx) (after_of l t.documents);
  }
    where
      regroup : (p o c n a : Entries) → p ++ (((o ++ c) ++ n) ++ a) ≡ (p ++ o) ++ (c ++ (n ++ a))
      regroup p o c n a = simp append_assoc refl

  -- further children behind those that are there
  pub last_stretch : (new : Forest) → h (node l r ats ch nx) ≡ node l r ats (then_trees ch new) nx → IsStretch [] (entries_of new) t (edited l h t)
  last_stretch new is = record {
    prefix = prefix_of l t ++ (own l r ats ++ entries_of ch);
    suffix = entries_of nx ++ after_of l t.documents;
    before = whole_map l t ∙ ap (λ g. prefix_of l t ++ (entries_of g ++ after_of l t.documents)) e
        ∙ regroup_old (prefix_of l t) (own l r ats ++ entries_of ch) (entries_of nx) (after_of l t.documents);
    after = edited_map l h t (ap found e) ∙ ap (λ g. prefix_of l t ++ (entries_of (h g) ++ after_of l t.documents)) e
        ∙ ap (λ g. prefix_of l t ++ (entries_of g ++ after_of l t.documents)) is
        ∙ ap (λ es. prefix_of l t ++ (((own l r ats ++ es) ++ entries_of nx) ++ after_of l t.documents)) (entries-then_trees ch new)
        ∙ regroup_new (prefix_of l t) (own l r ats) (entries_of ch) (entries_of new) (entries_of nx) (after_of l t.documents);
  }
    where
      regroup_old : (p o n a : Entries) → p ++ ((o ++ n) ++ a) ≡ (p ++ o) ++ ([] ++ (n ++ a))
      regroup_old p o n a = simp append_assoc refl

      regroup_new : (p o c s n a : Entries) → p ++ (((o ++ (c ++ s)) ++ n) ++ a) ≡ (p ++ (o ++ c)) ++ (s ++ (n ++ a))
      regroup_new p o c s n a = simp append_assoc refl

-- trees that come before a node
pub before_stretch : (l : Label) (h : Forest → Forest) (new : Entries) (t : Tree) → found (at l t.documents) ≡ true
    → entries_of (h (at l t.documents)) ≡ new ++ entries_of (at l t.documents) → IsStretch [] new t (edited l h t)
before_stretch l h new t y is = record {
  prefix = prefix_of l t;
  suffix = entries_of (at l t.documents) ++ after_of l t.documents;
  before = whole_map l t;
  after = edited_map l h t y ∙ ap (λ es. prefix_of l t ++ (es ++ after_of l t.documents)) is
      ∙ ap (λ es. prefix_of l t ++ es) (append_assoc new (entries_of (at l t.documents)) (after_of l t.documents));
}
