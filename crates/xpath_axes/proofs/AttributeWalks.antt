-- The attributes of a node one by one: what a walk upwards from its key meets first.
use Rattle.std.proofs.Common.{◌≡◌, ◌≤◌, ℕ, Bool, true, false, cond, not, nat_eq, if◌then◌else◌, List, [], ◌∷◌, ◌++◌, map, filter, Option, Some, None, IfSome, Ordering, Less, Equal, Greater, length, ◌+◌, is_lt, refl, sym, ap, ◌∙◌, append_assoc, append-nil, true≢false, ⊎_elim, arith}
use Rattle.std.proofs.lemmas.List.{length-append}
use Rattle.std.specs.Ordering.{is_eq, nat_cmp, ordering_then}
use Rattle.std.specs.Cmp.Lexicographic.{slice_cmp, pointwise, texts_ties}
use Rattle.std.specs.List.{AllByRecursion}
use Rattle.dewey_labels.specs.Labels.{Label, root}
use Rattle.dewey_labels.specs.Sides.{under, right, side, ahead}
use Rattle.dewey_labels.proofs.Sides.{right_before, under_before}
use Rattle.tree_model.specs.declared.key.Key.{Key}
use Rattle.tree_model.specs.declared.record.Record.{Record}
use Rattle.tree_model.specs.declared.record.Record.TheVariants.{Document, Element, Text, Attr}
use Rattle.tree_model.specs.Names.{Name}
use Rattle.tree_model.specs.Keys.{key_at, node_key}
use Rattle.tree_model.specs.Entries.{Entries, Above, Below, get, first_above, entries_above}
use Rattle.tree_model.specs.Places.{is_root}
use Rattle.tree_model.specs.Tree.{Attributes, Forest, none, node, Tree, attr_entry, entries_of, map_of, at, found, attributes_of}
use Rattle.tree_model.specs.inside.FoundNodes.{up}
use Rattle.tree_model.specs.ValidTrees.{same_label, IsValidTree}
use Rattle.tree_model.proofs.EntryLimits.{list_itself}
use Rattle.tree_model.proofs.Entries.{beyond_all, beyond_past, get_skip}
use Rattle.tree_model.proofs.Found.{Lies}
use Rattle.tree_model.proofs.ForwardReads.{behind_right}
use Rattle.tree_model.proofs.Keys.{key_itself}
use Rattle.tree_model.proofs.Lists.{all_append, all_on}
use Rattle.tree_model.proofs.Seeks.{ahead_below_node, later_above}
use Rattle.tree_model.proofs.Sorted.{names_above}
use Rattle.tree_model.proofs.Split.{Labelled, SideIs, all_under}
use Rattle.tree_model.proofs.StoredCatalogues.{same_label_is}
use Rattle.tree_model.proofs.WholeTree.{lies_in_tree, map_sorted}
use Rattle.node_seq.specs.Reads.{IsEntryOfTrees}
use Rattle.node_seq.specs.WalkSteps.{from_entry, steps_left}
use Rattle.node_seq.proofs.Walks.{walk_found}
use Rattle.path_model.specs.Positions.{Position, an_attribute, attributes_at}
use Rattle.xpath_axes.specs.inside.Walks.{attribute_of, keyed_value}
use Rattle.xpath_axes.proofs.FoundLabels.{IsPlace, all_places}

-- ---- the attributes at the head of entries

-- the name and the value of an attribute's entry, before further ones
abbrev pub with_value : Name → Record → Attributes → Attributes
with_value n (Attr v) ats = (n, v) ∷ ats
with_value n r ats = []

-- the attributes of the place with label l with which the entries begin
abbrev pub head_attributes : Label → Entries → Attributes
head_attributes l [] = []
head_attributes l (e ∷ es) = if same_label l e.0.label then with_value e.0.name e.1 (head_attributes l es) else []

same_itself : (l : Label) → same_label l l ≡ true
same_itself l = ap is_eq (list_itself l)

head_past : (l : Label) (ats : Attributes) (es : Entries) → head_attributes l (map (attr_entry l) ats ++ es) ≡ ats ++ head_attributes l es
head_past l [] es = refl
head_past l (a ∷ ats) es = ap (λ b. if b then a ∷ head_attributes l (map (attr_entry l) ats ++ es) else []) (same_itself l) ∙ ap (λ v. a ∷ v) (head_past l ats es)

-- the entry has another label
abbrev Elsewhere : Label → Key × Record → Type 0
Elsewhere l e = same_label l e.0.label ≡ false

head_none : (l : Label) (es : Entries) → AllByRecursion (Elsewhere l) es → head_attributes l es ≡ []
head_none l [] h = refl
head_none l (e ∷ es) h = ap (λ b. if b then with_value e.0.name e.1 (head_attributes l es) else []) h.0

all_filtered : (P : Key × Record → Type 0) (q : Key × Record → Bool) (es : Entries) → AllByRecursion P es → AllByRecursion P (filter q es)
all_filtered P q [] h = tt
all_filtered P q (e ∷ es) h = elim (q e) as (λ b. AllByRecursion P (cond b (e ∷ filter q es) (filter q es))) [ true ↦ (h.0, all_filtered P q es h.1) | false ↦ all_filtered P q es h.1 ]

-- a label that comes behind is another one
later_elsewhere : (l k : Label) → slice_cmp nat_cmp l k ≡ Less → same_label l k ≡ false
later_elsewhere l k h = ap is_eq h

-- ---- of a place

-- above the key of a found node lie its attributes, and then other labels
above_node : (p l : Label) (r : Record) (ats : Attributes) (ch nx : Forest) (es : Entries) → Lies p l r ats ch nx es → head_attributes l (entries_above (node_key l) es) ≡ ats
above_node p l r ats ch nx es z =
    let k = node_key l in
    let back = entries_of ch ++ (entries_of nx ++ z.after) in
    let behind : Entries = map (attr_entry l) ats ++ back in
    let whole : es ≡ z.before ++ ((k, r) ∷ behind) = z.whole ∙ simp append_assoc refl in
    let names = names_above [] l ats z.names in
    let under_l : AllByRecursion (Labelled (SideIs l under)) (entries_of ch) = all_under l l ch z.children in
    let right_l = behind_right p l r ats ch nx es z in
    let highs : AllByRecursion (Above k) behind = all_append (Above k) (map (attr_entry l) ats) back names.0
    (all_append (Above k) (entries_of ch) (entries_of nx ++ z.after) (all_on (Labelled (SideIs l under)) (Above k) (λ e h. later_above l [] e (under_before l e.0.label h)) (entries_of ch) under_l)
    (all_on (Labelled (SideIs l right)) (Above k) (λ e h. later_above l [] e (right_before l e.0.label h)) (entries_of nx ++ z.after) right_l)) in
    let others : AllByRecursion (Elsewhere l) back = all_append (Elsewhere l) (entries_of ch) (entries_of nx ++ z.after) (all_on (Labelled (SideIs l under)) (Elsewhere l) (λ e h. later_elsewhere l e.0.label (under_before l e.0.label h)) (entries_of ch) under_l)
    (all_on (Labelled (SideIs l right)) (Elsewhere l) (λ e h. later_elsewhere l e.0.label (right_before l e.0.label h)) (entries_of nx ++ z.after) right_l) in
    let above : entries_above k es ≡ behind = ap (entries_above k) whole
    ∙ beyond_past k z.before ((k, r) ∷ behind) (all_on (Labelled (λ v. ahead (side l v) ≡ true)) (Below k) (ahead_below_node l []) z.before z.before_ahead)
    ∙ ap (λ o. cond (is_lt o) ((k, r) ∷ entries_above k behind) (entries_above k behind)) (key_itself k)
    ∙ beyond_all k behind highs in
    ap (head_attributes l) above ∙ head_past l ats back ∙ ap (λ v. ats ++ v) (head_none l back others) ∙ append-nil ats

-- no entry is at a label that is no place's
pub all_elsewhere : (l : Label) (t : Tree) → IsValidTree t → is_root l ≡ false → found (at l t.documents) ≡ false → AllByRecursion (Elsewhere l) (map_of t)
all_elsewhere l t w r y = all_on (Labelled (IsPlace t)) (Elsewhere l) (λ e h. elsewhere e.0.label h) (map_of t) (all_places t w)
  where
    elsewhere : (k : Label) → IsPlace t k → same_label l k ≡ false
    elsewhere k h = elim (same_label l k) as (λ b. same_label l k ≡ b → b ≡ false) [
      | true ↦ λ s. let is : k ≡ l = sym (same_label_is l k s) in
          ⊎_elim (λ q. absurd (true≢false (sym q ∙ ap is_root is ∙ r))) (λ q. absurd (true≢false (sym q ∙ ap (λ v. found (at v t.documents)) is ∙ y))) h
      | false ↦ λ _. refl
    ] refl

above_nothing : (l : Label) (t : Tree) → IsValidTree t → is_root l ≡ false → found (at l t.documents) ≡ false → head_attributes l (entries_above (node_key l) (map_of t)) ≡ []
above_nothing l t w r y = head_none l _ (all_filtered (Elsewhere l) _ (map_of t) (all_elsewhere l t w r y))

pub get_elsewhere : (l : Label) (n : Name) (es : Entries) → AllByRecursion (Elsewhere l) es → get (key_at l n) es ≡ None
get_elsewhere l n [] h = refl
get_elsewhere l n (e ∷ es) h = get_skip (key_at l n) e es (apart (slice_cmp nat_cmp l e.0.label) h.0) ∙ get_elsewhere l n es h.1
  where
    apart : (o : Ordering) → is_eq o ≡ false → is_eq (ordering_then o (slice_cmp nat_cmp n e.0.name)) ≡ false
    apart Less q = refl
    apart Equal q = absurd (true≢false q)
    apart Greater q = refl

-- what lies above the key of a label that isn't the root's begins with its node's attributes
pub attributes_above : (l : Label) (t : Tree) → IsValidTree t → is_root l ≡ false → head_attributes l (entries_above (node_key l) (map_of t)) ≡ attributes_of (at l t.documents)
attributes_above l t w r = by (at l t.documents) refl
  where
    by : (g : Forest) → at l t.documents ≡ g → head_attributes l (entries_above (node_key l) (map_of t)) ≡ attributes_of g
    by none e = above_nothing l t w r (ap found e)
    by (node m s ats ch nx) e = above_node (up l root t.documents) l s ats ch nx (map_of t) (lies_in_tree l m s ats ch nx t w e)

-- ---- the walk

-- the attributes that a walk that stands before one of them is still to meet
abbrev pub attributes_from : Label → Entries → Option (Key × List ℕ) → Attributes
attributes_from l es None = []
attributes_from l es (Some a) = (a.0.name, a.1) ∷ head_attributes l (entries_above a.0 es)

-- the entry of an attribute that was found
abbrev pub entry_of : Option (Key × List ℕ) → Option (Key × Record)
entry_of None = None
entry_of (Some a) = Some (a.0, Attr a.1)

from_found : (l : Label) (o : Option (Key × Record)) (es : Entries) → attributes_from l es (attribute_of l o) ≡ head_attributes l (from_entry o es)
from_found l None es = refl
from_found l (Some e) es = elim (same_label l e.0.label) as (λ b. attributes_from l es (if b then keyed_value e.0 e.1 else None) ≡ (if b then with_value e.0.name e.1 (head_attributes l (entries_above e.0 es)) else [])) [
  | true ↦ by e.0 e.1
  | false ↦ refl
]
  where
    by : (k : Key) (r : Record) → attributes_from l es (keyed_value k r) ≡ with_value k.name r (head_attributes l (entries_above k es))
    by k Document = refl
    by k (Element n) = refl
    by k (Text d) = refl
    by k (Attr v) = refl

-- what was met of a node's attributes, and what comes next of them
abbrev pub MetOf : Label → Tree → List Position → Option (Key × List ℕ) → Type 0
MetOf l t met next = met ++ attributes_at l (attributes_from l (map_of t) next) ≡ attributes_at l (attributes_of (at l t.documents))

pub attributes_begin : (l : Label) (t : Tree) (o : Option (Key × Record)) → IsValidTree t → is_root l ≡ false → o ≡ first_above (node_key l) (map_of t) → MetOf l t [] (attribute_of l o)
attributes_begin l t o w r e = ap (attributes_at l) (from_found l o (map_of t) ∙ ap (head_attributes l) (walk_found (node_key l) o (map_of t) (map_sorted t w) e) ∙ attributes_above l t w r)

pub attributes_go_on : (l : Label) (t : Tree) (met : List Position) (a : Key × List ℕ) (o : Option (Key × Record)) → IsValidTree t → MetOf l t met (Some a) → o ≡ first_above a.0 (map_of t)
    → MetOf l t (met ++ an_attribute l a.0.name a.1 ∷ []) (attribute_of l o)
attributes_go_on l t met a o w h e =
    ap (λ v. (met ++ an_attribute l a.0.name a.1 ∷ []) ++ attributes_at l v) (from_found l o (map_of t) ∙ ap (head_attributes l) (walk_found a.0 o (map_of t) (map_sorted t w) e))
    ∙ append_assoc met (an_attribute l a.0.name a.1 ∷ []) (attributes_at l (head_attributes l (entries_above a.0 (map_of t)))) ∙ h

-- one more is still to come
pub one_left : (l : Label) (t : Tree) (met : List Position) (a : Key × List ℕ) → MetOf l t met (Some a) → length met + 1 ≤ length (attributes_at l (attributes_of (at l t.documents)))
one_left l t met a h =
    let n = length-append met (an_attribute l a.0.name a.1 ∷ attributes_at l (head_attributes l (entries_above a.0 (map_of t)))) in
    let e = ap length h in
    omega (arith, n, e)

-- the label of an attribute of the node is the node's
pub its_label : (l : Label) (o : Option (Key × Record)) → IfSome (attribute_of l o) (λ a. a.0.label ≡ l)
its_label l None = tt
its_label l (Some e) = elim (same_label l e.0.label) as (λ b. same_label l e.0.label ≡ b → IfSome (if b then keyed_value e.0 e.1 else None) (λ a. a.0.label ≡ l)) [
  | true ↦ λ q. by e.0 e.1 (sym (same_label_is l e.0.label q))
  | false ↦ λ _. tt
] refl
  where
    by : (k : Key) (r : Record) → k.label ≡ l → IfSome (keyed_value k r) (λ a. a.0.label ≡ l)
    by k Document q = tt
    by k (Element n) q = tt
    by k (Text d) q = tt
    by k (Attr v) q = q

-- what is left of it is no more than what is left behind the entry found
pub no_more_steps : (contents : Option Entries) (l : Label) (o : Option (Key × Record)) → steps_left contents (entry_of (attribute_of l o)) ≤ steps_left contents o
no_more_steps contents l None = omega arith
no_more_steps contents l (Some e) = elim (same_label l e.0.label) as (λ b. steps_left contents (entry_of (if b then keyed_value e.0 e.1 else None)) ≤ steps_left contents (Some e)) [
  | true ↦ by e.0 e.1
  | false ↦ omega arith
]
  where
    by : (k : Key) (r : Record) → steps_left contents (entry_of (keyed_value k r)) ≤ steps_left contents (Some (k, r))
    by k Document = omega arith
    by k (Element n) = omega arith
    by k (Text d) = omega arith
    by k (Attr v) = omega arith

pub valid_attribute : (l : Label) (o : Option (Key × Record)) → IsEntryOfTrees o → IsEntryOfTrees (entry_of (attribute_of l o))
valid_attribute l None h = tt
valid_attribute l (Some e) h = elim (same_label l e.0.label) as (λ b. IsEntryOfTrees (entry_of (if b then keyed_value e.0 e.1 else None))) [
  | true ↦ by e.0 e.1 h
  | false ↦ tt
]
  where
    by : (k : Key) (r : Record) → IsEntryOfTrees (Some (k, r)) → IsEntryOfTrees (entry_of (keyed_value k r))
    by k Document h = tt
    by k (Element n) h = tt
    by k (Text d) h = tt
    by k (Attr v) h = h

-- ---- what the code tests

-- unequal labels are two
pub unequal : (l k : Label) (r : Bool) → r ≡ not (pointwise nat_eq l k) → r ≡ true → same_label l k ≡ false
unequal l k r e h = sym (texts_ties l k) ∙ by (pointwise nat_eq l k) (sym e ∙ h)
  where
    by : (b : Bool) → not b ≡ true → b ≡ false
    by true h = cc
    by false h = refl

pub equal : (l k : Label) (r : Bool) → r ≡ not (pointwise nat_eq l k) → r ≡ false → same_label l k ≡ true
equal l k r e h = sym (texts_ties l k) ∙ by (pointwise nat_eq l k) (sym e ∙ h)
  where
    by : (b : Bool) → not b ≡ false → b ≡ true
    by true h = refl
    by false h = cc

pub elsewhere : (l : Label) (e : Key × Record) → same_label l e.0.label ≡ false → None ≡ attribute_of l (Some e)
elsewhere l e h = ap (λ b. if b then keyed_value e.0 e.1 else None) (sym h)

pub attribute_here : (l : Label) (k : Key) (r : Record) (v : List ℕ) → same_label l k.label ≡ true → r ≡ Attr v → Some (k, v) ≡ attribute_of l (Some (k, r))
attribute_here l k r v h e = ap (keyed_value k) (sym e) ∙ ap (λ b. if b then keyed_value k r else None) (sym h)
