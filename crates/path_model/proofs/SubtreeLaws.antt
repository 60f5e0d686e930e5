-- What lies at and under a found node, among the positions of the tree.
use Rattle.std.proofs.Common.{◌≡◌, Bool, true, false, cond, List, [], ◌∷◌, ◌++◌, map, refl, sym, ap, subst, ◌∙◌, nat_cmp, Less}
use Rattle.std.specs.List.{AllByRecursion, filter}
use Rattle.std.specs.Cmp.Lexicographic.{slice_cmp}
use Rattle.dewey_labels.specs.Labels.{Label, root}
use Rattle.dewey_labels.specs.Lists.{is_empty}
use Rattle.dewey_labels.specs.Sides.{side, is_in}
use Rattle.tree_model.specs.declared.key.Key.{Key}
use Rattle.tree_model.specs.declared.record.Record.{Record}
use Rattle.tree_model.specs.declared.record.Record.TheVariants.{Document, Element, Text, Attr}
use Rattle.tree_model.specs.Names.{Name}
use Rattle.tree_model.specs.Entries.{Entries}
use Rattle.tree_model.specs.Tree.{Attributes, Forest, none, node, Tree, attr_entry, own, entries_of, at}
use Rattle.tree_model.specs.inside.FoundNodes.{up}
use Rattle.tree_model.specs.ValidTrees.{IsValidTree, KeysRise, NamesRise}
use Rattle.tree_model.proofs.Found.{Lies, lies}
use Rattle.tree_model.proofs.Split.{Labelled}
use Rattle.tree_model.proofs.Stretches.{stretch_law}
use Rattle.path_model.specs.Positions.{Position, a_node, an_attribute, attributes_at, positions_in, positions, label_of}
use Rattle.path_model.proofs.OrderLaws.{filter_on}

-- ---- positions as entries

abbrev value_of : Record → Name
value_of (Attr v) = v
value_of Document = []
value_of (Element n) = []
value_of (Text d) = []

abbrev by_name : Bool → Key × Record → Position
by_name true e = a_node e.0.label e.1
by_name false e = an_attribute e.0.label e.0.name (value_of e.1)

abbrev position_of : Key × Record → Position
position_of e = by_name (is_empty e.0.name) e

label_of_position : (e : Key × Record) → label_of (position_of e) ≡ e.0.label
label_of_position e = elim (is_empty e.0.name) as (λ b. label_of (by_name b e) ≡ e.0.label) [ true ↦ refl | false ↦ refl ]

map_joined : {A B : Type 0} (f : A → B) (xs ys : List A) → map f (xs ++ ys) ≡ map f xs ++ map f ys
map_joined f [] ys = refl
map_joined f (x ∷ xs) ys = ap (λ (zs : List _). f x ∷ zs) (map_joined f xs ys)

nothing_below : (lo : Name) → slice_cmp nat_cmp lo [] ≡ Less → ⊥
nothing_below [] h = cc
nothing_below (x ∷ lo) h = cc

pub named_above : (lo n : Name) → slice_cmp nat_cmp lo n ≡ Less → is_empty n ≡ false
named_above lo [] h = absurd (nothing_below lo h)
named_above lo (x ∷ n) h = refl

attributes_are : (l : Label) (lo : Name) (ats : Attributes) → NamesRise lo ats → attributes_at l ats ≡ map position_of (map (attr_entry l) ats)
attributes_are l lo [] w = refl
attributes_are l lo (a ∷ ats) w =
    ap (λ (ps : List Position). an_attribute l a.0 a.1 ∷ ps) (attributes_are l a.0 ats w.2)
    ∙ ap (λ b. by_name b (attr_entry l a) ∷ map position_of (map (attr_entry l) ats)) (sym (named_above lo a.0 w.0))

own_is : (l : Label) (r : Record) (ats : Attributes) → NamesRise [] ats → a_node l r ∷ attributes_at l ats ≡ map position_of (own l r ats)
own_is l r ats w = ap (λ (ps : List Position). a_node l r ∷ ps) (attributes_are l [] ats w)

positions_are : (p b : Label) (f : Forest) → KeysRise p b f → positions_in f ≡ map position_of (entries_of f)
positions_are p b none w = refl
positions_are p b (node l r ats ch nx) w =
    ap (λ ps. (ps ++ positions_in ch) ++ positions_in nx) (own_is l r ats w.3)
    ∙ ap (λ ps. (map position_of (own l r ats) ++ ps) ++ positions_in nx) (positions_are l l ch w.4)
    ∙ ap (λ ps. (map position_of (own l r ats) ++ map position_of (entries_of ch)) ++ ps) (positions_are p l nx w.5)
    ∙ ap (λ ps. ps ++ map position_of (entries_of nx)) (sym (map_joined position_of (own l r ats) (entries_of ch)))
    ∙ sym (map_joined position_of (own l r ats ++ entries_of ch) (entries_of nx))

-- ---- filters

false≢true : false ≡ true → ⊥
false≢true z = cc

filter_mapped : {A B : Type 0} (q : B → Bool) (f : A → B) (xs : List A) → filter q (map f xs) ≡ map f (filter (λ x. q (f x)) xs)
filter_mapped q f [] = refl
filter_mapped q f (x ∷ xs) = elim (q (f x)) as (λ b. cond b (f x ∷ filter q (map f xs)) (filter q (map f xs)) ≡ map f (cond b (x ∷ filter (λ y. q (f y)) xs) (filter (λ y. q (f y)) xs))) [
  | true ↦ ap (λ (ys : List _). f x ∷ ys) (filter_mapped q f xs)
  | false ↦ filter_mapped q f xs
]

one_more : {A : Type 0} (p q : A → Bool) (x : A) (xs : List A) → (q x ≡ true → p x ≡ true) → filter q (filter p xs) ≡ filter q xs
    → (b c : Bool) → p x ≡ b → q x ≡ c → filter q (cond b (x ∷ filter p xs) (filter p xs)) ≡ cond c (x ∷ filter q xs) (filter q xs)
one_more p q x xs h rest true c e g = ap (λ d. cond d (x ∷ filter q (filter p xs)) (filter q (filter p xs))) g ∙ ap (λ (ys : List _). cond c (x ∷ ys) ys) rest
one_more p q x xs h rest false true e g = absurd (false≢true (sym e ∙ h g))
one_more p q x xs h rest false false e g = rest

-- a test that implies another one filters the same out of what that one leaves
filter_twice : {A : Type 0} (p q : A → Bool) → ((x : A) → q x ≡ true → p x ≡ true) → (xs : List A) → filter q (filter p xs) ≡ filter q xs
filter_twice p q h [] = refl
filter_twice p q h (x ∷ xs) = one_more p q x xs (h x) (filter_twice p q h xs) (p x) (q x) refl refl

pub filter_joined : {A : Type 0} (q : A → Bool) (xs ys : List A) → filter q (xs ++ ys) ≡ filter q xs ++ filter q ys
filter_joined q [] ys = refl
filter_joined q (x ∷ xs) ys = elim (q x) as (λ b. cond b (x ∷ filter q (xs ++ ys)) (filter q (xs ++ ys)) ≡ cond b (x ∷ filter q xs) (filter q xs) ++ filter q ys) [
  | true ↦ ap (λ (zs : List _). x ∷ zs) (filter_joined q xs ys)
  | false ↦ filter_joined q xs ys
]

-- what the labels of entries keep those of positions keep
mapped_labels : (P : Label → Type 0) (es : Entries) → AllByRecursion (Labelled P) es → AllByRecursion (λ n. P (label_of n)) (map position_of es)
mapped_labels P [] h = tt
mapped_labels P (e ∷ es) h = (subst P (sym (label_of_position e)) h.0, mapped_labels P es h.1)

pub all_labelled : (P : Label → Type 0) (p b : Label) (f : Forest) → KeysRise p b f → AllByRecursion (Labelled P) (entries_of f) → AllByRecursion (λ n. P (label_of n)) (positions_in f)
all_labelled P p b f w h = subst (AllByRecursion (λ n. P (label_of n))) (sym (positions_are p b f w)) (mapped_labels P (entries_of f) h)

-- ---- a subtree

-- the positions at and under a node
abbrev pub tree_positions : Label → Record → Attributes → Forest → List Position
tree_positions l r ats ch = (a_node l r ∷ attributes_at l ats) ++ positions_in ch

pub subtree_is : (l m : Label) (r : Record) (ats : Attributes) (ch nx : Forest) (t : Tree) → IsValidTree t → at l t.documents ≡ node m r ats ch nx
    → filter (λ n. is_in (side l (label_of n))) (positions t) ≡ tree_positions l r ats ch
subtree_is l m r ats ch nx t w e =
    let z : Lies (up l root t.documents) l r ats ch nx (entries_of t.documents) = lies root root l m r ats ch nx t.documents w.keys e in
    ap (filter (λ n. is_in (side l (label_of n)))) (positions_are root root t.documents w.keys)
    ∙ filter_mapped (λ n. is_in (side l (label_of n))) position_of (entries_of t.documents)
    ∙ ap (map position_of) (filter_on (λ e. is_in (side l (label_of (position_of e)))) (λ e. is_in (side l e.0.label)) (λ e. ap (λ k. is_in (side l k)) (label_of_position e)) (entries_of t.documents)
    ∙ stretch_law (up l root t.documents) l r ats ch nx (entries_of t.documents) z)
    ∙ map_joined position_of (own l r ats) (entries_of ch)
    ∙ ap (λ ps. ps ++ map position_of (entries_of ch)) (sym (own_is l r ats z.names))
    ∙ ap (λ ps. (a_node l r ∷ attributes_at l ats) ++ ps) (sym (positions_are l l ch z.children))

-- a test that holds at and under a node alone
pub within_subtree : (q : Position → Bool) (l m : Label) (r : Record) (ats : Attributes) (ch nx : Forest) (t : Tree) → IsValidTree t → at l t.documents ≡ node m r ats ch nx
    → ((n : Position) → q n ≡ true → is_in (side l (label_of n)) ≡ true) → filter q (positions t) ≡ filter q (tree_positions l r ats ch)
within_subtree q l m r ats ch nx t w e h = sym (filter_twice (λ n. is_in (side l (label_of n))) q h (positions t)) ∙ ap (filter q) (subtree_is l m r ats ch nx t w e)
