-- The fragments that a subtree's entries make, one after another, are those of the definition.
use Rattle.std.proofs.Common.{◌≡◌, ◌-◌, ◌<◌, suc, true, false, cond, not, List, [], ◌∷◌, ◌++◌, map, length, take, reverse, slice_get, Option, Some, None, MatchOption, Less, nat_cmp, refl, sym, ap, ◌∙◌, ◌⊎◌, inl, inr, append_assoc, append-nil, length-append, arith}
use Rattle.std.proofs.lemmas.List.{reverse-append, reverse-reverse}
use Rattle.std.specs.Cmp.Lexicographic.{slice_cmp}
use Rattle.dewey_labels.specs.Labels.{Label, is_ancestor, is_child, root}
use Rattle.dewey_labels.specs.Sides.{side, is_in, is_under, right}
use Rattle.dewey_labels.proofs.Codes.{child_under, children_right}
use Rattle.dewey_labels.proofs.Sides.{ancestor_under, in_under, right_within, side_itself}
use Rattle.tree_model.specs.declared.fragment.Fragment.{Fragment}
use Rattle.tree_model.specs.declared.fragment.Fragment.TheVariants as fragment
use Rattle.tree_model.specs.declared.record.Record.{Record}
use Rattle.tree_model.specs.declared.record.Record.TheVariants.{Attr, Document, Element, Text}
use Rattle.tree_model.specs.declared.reply.Reply.TheVariants as reply
use Rattle.tree_model.specs.Entries.{Entries, get}
use Rattle.tree_model.specs.Keys.{node_key}
use Rattle.tree_model.specs.Names.{Name}
use Rattle.tree_model.specs.Outcomes.{see}
use Rattle.tree_model.specs.Subtrees.{dump, dumped, first_fragment, fragment_of, fragments_of}
use Rattle.tree_model.specs.Tree.{Attributes, Forest, none, node, Tree, attr_entry, own, entries_of, map_of, at, found, record_of}
use Rattle.tree_model.specs.ValidTrees.{IsValidTree, KeysRise, KindsAllowed, may_stand}
use Rattle.tree_model.specs.inside.FoundNodes.{up}
use Rattle.tree_model.proofs.Appends.{no_attribute}
use Rattle.tree_model.proofs.Edits.{over}
use Rattle.tree_model.proofs.Found.{at_keys}
use Rattle.tree_model.proofs.FoundRecords.{at_kinds}
use Rattle.tree_model.proofs.WholeTree.{get_node}
use Rattle.dom_reads.specs.declared.fragment_builder.FragmentBuilder.{FragmentBuilder}
use Rattle.dom_reads.specs.declared.fragment_builder.OpenElement.{OpenElement}
use Rattle.dom_reads.specs.SubtreeWalks.{alone, subtree_of}
use Rattle.dom_reads.proofs.SubtreeEntries.{met_below, subtree_found}
use Rattle.dom_reads.specs.inside.FragmentBuilders.{Making, add, add_all, as_fragment, close, close_first, close_innermost, close_to, finished, holds, leaves, making_of, must_close, nothing_made, put, put_in, with_element, with_more}

-- ---- elements closed

abbrev making : List OpenElement → List Fragment → Making
making os whole = record { open_elements = os; whole = whole }

-- no more children
with_none : (o : OpenElement) → with_more [] o ≡ o
with_none o i = record { label = o.label; name = o.name; attrs = o.attrs; children = append-nil o.children i }

-- where the innermost element holds what comes next, none is closed
pub none_closed : (next : Option Label) (o : OpenElement) (os : List OpenElement) (whole : List Fragment) → holds next o.label ≡ true
    → close next [] (o ∷ os) whole ≡ making (o ∷ os) whole
none_closed next o os whole h =
    ap (λ b. cond b (making (with_more [] o ∷ os) whole) (close next (as_fragment (with_more [] o) ∷ []) os whole)) h
    ∙ ap (λ v. making (v ∷ os) whole) (with_none o)

-- nor where none is open
pub none_open : (next : Option Label) (whole : List Fragment) → close next [] [] whole ≡ making [] whole
none_open next whole = ap (making []) (append-nil whole)

-- fragments are put in before all else
put_first : (next : Option Label) (fs : List Fragment) (os : List OpenElement) (whole : List Fragment)
    → close next fs os whole ≡ close_to next (put_in fs os whole)
put_first next fs [] whole = ap (making []) (sym (append-nil (whole ++ fs)))
put_first next fs (o ∷ os) whole = ap (λ v. cond (holds next o.label) (making (v ∷ os) whole) (close next (as_fragment v ∷ []) os whole)) (sym (with_none (with_more fs o)))

-- otherwise it is closed first
pub one_closed : (next : Option Label) (o : OpenElement) (os : List OpenElement) (whole : List Fragment) → holds next o.label ≡ false
    → close next [] (o ∷ os) whole ≡ close_to next (put_in (as_fragment o ∷ []) os whole)
one_closed next o os whole h =
    ap (λ b. cond b (making (with_more [] o ∷ os) whole) (close next (as_fragment (with_more [] o) ∷ []) os whole)) h
    ∙ ap (λ v. close next (as_fragment v ∷ []) os whole) (with_none o)
    ∙ put_first next (as_fragment o ∷ []) os whole

-- ---- the elements from the outermost one inward

-- the first item, if there is one
abbrev head_of : List OpenElement → Option OpenElement
head_of [] = None
head_of (o ∷ os) = Some o

last_item : (os : List OpenElement) (o : OpenElement) → slice_get (os ++ (o ∷ [])) (length (os ++ (o ∷ [])) - 1) ≡ Some o
last_item [] o = refl
last_item (p ∷ os) o =
    let n = length (os ++ (o ∷ [])) - 1 in
    let long : length (p ∷ (os ++ (o ∷ []))) - 1 ≡ suc n = omega (arith, length-append os (o ∷ [])) in
    ap (slice_get (p ∷ (os ++ (o ∷ [])))) long ∙ last_item os o

-- the last one is the innermost
innermost : (inward os : List OpenElement) → reverse inward ≡ os → slice_get inward (length inward - 1) ≡ head_of os
innermost inward [] e = ap (λ (v : List OpenElement). slice_get v (length v - 1)) (sym (reverse-reverse inward) ∙ ap reverse e)
innermost inward (o ∷ os) e =
    ap (λ (v : List OpenElement). slice_get v (length v - 1)) (sym (reverse-reverse inward) ∙ ap reverse e ∙ reverse-append (o ∷ []) os)
    ∙ last_item (reverse os) o

-- where one must be closed, the innermost is closed first
pub closes_on : (next : Option Label) (b : FragmentBuilder) → must_close next b.open_elements ≡ true
    → close_to next (close_innermost (making_of b)) ≡ close_to next (making_of b)
closes_on next b h = by (reverse b.open_elements) (sym (ap (leaves next) (innermost b.open_elements (reverse b.open_elements) refl)) ∙ h)
  where
    by : (os : List OpenElement) → leaves next (head_of os) ≡ true → close_to next (close_first os b.whole) ≡ close next [] os b.whole
    by [] e = cc
    by (o ∷ os) e = sym (one_closed next o os b.whole (elim (holds next o.label) as (λ v. not v ≡ true → v ≡ false) [ true ↦ λ q. cc | false ↦ λ q. refl ] e))

-- where none must be, all are as they should
pub closed : (next : Option Label) (b : FragmentBuilder) → must_close next b.open_elements ≡ false → close_to next (making_of b) ≡ making_of b
closed next b h = by (reverse b.open_elements) (sym (ap (leaves next) (innermost b.open_elements (reverse b.open_elements) refl)) ∙ h)
  where
    by : (os : List OpenElement) → leaves next (head_of os) ≡ false → close next [] os b.whole ≡ making os b.whole
    by [] e = none_open next b.whole
    by (o ∷ os) e = none_closed next o os b.whole (elim (holds next o.label) as (λ v. not v ≡ false → v ≡ true) [ true ↦ λ q. refl | false ↦ λ q. cc ] e)

-- one is open then
pub open_to_close : (next : Option Label) (inward : List OpenElement) → must_close next inward ≡ true → 0 < length inward
open_to_close next [] h = cc
open_to_close next (o ∷ os) h = omega arith

-- the first fragment, taken from the end of a list of it alone
pub first_taken : (whole rest : List Fragment) (found : Option Fragment)
    → MatchOption found ((take 1 whole ≡ []) × (rest ≡ [])) (λ last. take 1 whole ≡ rest ++ (last ∷ [])) → found ≡ first_fragment whole
first_taken [] rest None h = refl
first_taken [] [] (Some f) h = cc
first_taken [] (x ∷ rest) (Some f) h = cc
first_taken (w ∷ whole) rest None h = let no : w ∷ [] ≡ [] = h.0 in cc
first_taken (w ∷ whole) [] (Some f) h = let e : w ∷ [] ≡ f ∷ [] = h in cc
first_taken (w ∷ whole) (x ∷ []) (Some f) h = let e : w ∷ [] ≡ x ∷ (f ∷ []) = h in cc
first_taken (w ∷ whole) (x ∷ y ∷ rest) (Some f) h = let e : w ∷ [] ≡ x ∷ (y ∷ (rest ++ (f ∷ []))) = h in cc

-- ---- entries added

pub add_all-append : (xs ys : Entries) (m : Making) → add_all (xs ++ ys) m ≡ add_all ys (add_all xs m)
add_all-append [] ys m = refl
add_all-append (x ∷ xs) ys m = add_all-append xs ys (add x.0 x.1 m)

-- with more attributes
abbrev with_attributes : Attributes → OpenElement → OpenElement
with_attributes ats o = record { label = o.label; name = o.name; attrs = o.attrs ++ ats; children = o.children }

-- attributes go to the innermost element
add_attributes : (l : Label) (ats : Attributes) (o : OpenElement) (os : List OpenElement) (whole : List Fragment)
    → add_all (map (attr_entry l) ats) (making (o ∷ os) whole) ≡ making (with_attributes ats o ∷ os) whole
add_attributes l [] o os whole = λ i. making (record { label = o.label; name = o.name; attrs = sym (append-nil o.attrs) i; children = o.children } ∷ os) whole
add_attributes l (a ∷ ats) o os whole =
    add_attributes l ats (with_attributes (a ∷ []) o) os whole
    ∙ ap (λ (v : Attributes). making (record { label = o.label; name = o.name; attrs = v; children = o.children } ∷ os) whole) (append_assoc o.attrs (a ∷ []) ats)

-- ---- a row of nodes

-- nothing in the subtree of p holds what comes next
abbrev Rejects : Label → Option Label → Type 0
Rejects p next = (k : Label) → is_in (side p k) ≡ true → holds next k ≡ false

-- what comes next is a child of p behind the label b
record IsNext (p b : Label) (next : Option Label) : Type 0 where
  label : Label
  is : next ≡ Some label
  child : is_child p label ≡ true
  behind : slice_cmp nat_cmp b label ≡ Less

-- what was made so far is this, once closed for a child of p behind b, or for what lies behind p
abbrev Agrees : Label → Label → Making → Making → Type 0
Agrees p b m n = (next : Option Label) → IsNext p b next ⊎ Rejects p next → close_to next m ≡ close_to next n

-- a label to the right isn't held
right_not_held : (k m : Label) → side k m ≡ right → holds (Some m) k ≡ false
right_not_held k m s = ancestor_under k m ∙ ap is_under s

-- what comes behind a child of p isn't held by it, nor by what lies under it
rejected_below : (p l : Label) → is_child p l ≡ true → (next : Option Label) → IsNext p l next ⊎ Rejects p next → Rejects l next
rejected_below p l c next (inl z) k h =
    let s : side l z.label ≡ right = children_right p l z.label c z.child z.behind in
    ap (λ v. holds v k) z.is ∙ right_not_held k z.label (right_within l z.label k z.label s h (ap is_in (side_itself z.label)))
rejected_below p l c next (inr r) k h = r k (ap is_in (in_under p l k (child_under p l c) h))

-- the element of l when its attributes are there
abbrev begun : Label → Name → Attributes → OpenElement
begun l n ats = record { label = l; name = n; attrs = ats; children = [] }

-- a row's fragments become children of the innermost element
row : (p b : Label) (q : Name) (f : Forest) → KeysRise p b f → KindsAllowed (Some (Element q)) f
    → (o : OpenElement) (os : List OpenElement) (whole : List Fragment) (m : Making) → o.label ≡ p → Agrees p b m (making (o ∷ os) whole)
    → (next : Option Label) → Rejects p next → close_to next (add_all (entries_of f) m) ≡ close_to next (making (with_more (fragments_of f) o ∷ os) whole)
row p b q none w k o os whole m e a next r = a next (inr r) ∙ ap (λ v. close_to next (making (v ∷ os) whole)) (sym (with_none o))
row p b q (node l (Element n) ats ch nx) w k o os whole m e a next r =
    let here = begun l n ats in
    let mine = fragment.Element n ats (fragments_of ch) in
    let held : holds (Some l) o.label ≡ true = ap (λ v. is_ancestor v l) e ∙ ancestor_under p l ∙ ap is_under (child_under p l w.0) in
    let settled : close_to (Some l) m ≡ making (o ∷ os) whole =
    a (Some l) (inl (record { label = l; is = refl; child = w.0; behind = w.1 })) ∙ none_closed (Some l) o os whole held in
    let began : add_all (own l (Element n) ats) m ≡ making (here ∷ o ∷ os) whole =
    ap (λ v. add_all (map (attr_entry l) ats) (with_element l n v)) settled ∙ add_attributes l ats (begun l n []) (o ∷ os) whole in
    let inside : Making = add_all (entries_of ch) (making (here ∷ o ∷ os) whole) in
    let whole_row : add_all (entries_of (node l (Element n) ats ch nx)) m ≡ add_all (entries_of nx) inside =
    add_all-append (own l (Element n) ats ++ entries_of ch) (entries_of nx) m
    ∙ ap (add_all (entries_of nx)) (add_all-append (own l (Element n) ats) (entries_of ch) m ∙ ap (add_all (entries_of ch)) began) in
    let agrees : Agrees p l inside (making (with_more (mine ∷ []) o ∷ os) whole) = λ v h.
    let none_held = rejected_below p l w.0 v h in
    row l l n ch w.4 k.3 here (o ∷ os) whole (making (here ∷ o ∷ os) whole) refl (λ v _. refl) v none_held
    ∙ one_closed v (with_more (fragments_of ch) here) (o ∷ os) whole (none_held l (ap is_in (side_itself l))) in
    ap (close_to next) whole_row
    ∙ row p l q nx w.5 k.4 (with_more (mine ∷ []) o) os whole inside e agrees next r
    ∙ ap (λ (v : List Fragment). close_to next (making (record { label = o.label; name = o.name; attrs = o.attrs; children = v } ∷ os) whole)) (append_assoc o.children (mine ∷ []) (fragments_of nx))
row p b q (node l (Text d) [] none nx) w k o os whole m e a next r =
    let mine = fragment.Text d in
    let held : holds (Some l) o.label ≡ true = ap (λ v. is_ancestor v l) e ∙ ancestor_under p l ∙ ap is_under (child_under p l w.0) in
    let settled : close_to (Some l) m ≡ making (o ∷ os) whole =
    a (Some l) (inl (record { label = l; is = refl; child = w.0; behind = w.1 })) ∙ none_closed (Some l) o os whole held in
    row p l q nx w.5 k.4 (with_more (mine ∷ []) o) os whole (put (mine ∷ []) (close_to (Some l) m)) e (λ v _. ap (λ z. close_to v (put (mine ∷ []) z)) settled) next r
    ∙ ap (λ (v : List Fragment). close_to next (making (record { label = o.label; name = o.name; attrs = o.attrs; children = v } ∷ os) whole)) (append_assoc o.children (mine ∷ []) (fragments_of nx))
row p b q (node l (Text d) [] (node l2 r2 ats2 ch2 nx2) nx) w k o os whole m e a next r = let no : false ≡ true = k.3.0 in cc
row p b q (node l (Text d) (x ∷ ats) ch nx) w k o os whole m e a next r = let no : false ≡ true = k.2 in cc
row p b q (node l Document ats ch nx) w k o os whole m e a next r = let no : false ≡ true = k.0 in cc
row p b q (node l (Attr v) ats ch nx) w k o os whole m e a next r = let no : false ≡ true = k.0 in cc

-- ---- a whole subtree

-- of an element
element_built : (l : Label) (n : Name) (ats : Attributes) (ch : Forest) → KeysRise l l ch → KindsAllowed (Some (Element n)) ch
    → finished (add_all (own l (Element n) ats ++ entries_of ch) nothing_made) ≡ Some (fragment.Element n ats (fragments_of ch))
element_built l n ats ch w k =
    let here = begun l n ats in
    let began : add_all (own l (Element n) ats ++ entries_of ch) nothing_made ≡ add_all (entries_of ch) (making (here ∷ []) []) =
    add_all-append (own l (Element n) ats) (entries_of ch) nothing_made ∙ ap (add_all (entries_of ch)) (add_attributes l ats (begun l n []) [] []) in
    ap finished began
    ∙ ap (λ (v : Making). first_fragment v.whole) (row l l n ch w k here [] [] (making (here ∷ []) []) refl (λ v _. refl) None (λ v _. refl))
    ∙ ap (λ (v : List Fragment). Some (fragment.Element n ats v)) (append-nil (fragments_of ch))

-- of the node that heads a forest
pub tree_built : (p b : Label) (q : Option Record) (g : Forest) → KeysRise p b g → KindsAllowed q g
    → finished (add_all (entries_of (alone g)) nothing_made) ≡ dumped g
tree_built p b q none w k = refl
tree_built p b q (node l (Element n) ats ch nx) w k = ap (λ (v : Entries). finished (add_all v nothing_made)) (append-nil (own l (Element n) ats ++ entries_of ch)) ∙ element_built l n ats ch w.4 k.3
tree_built p b q (node l (Text d) [] none nx) w k = refl
tree_built p b q (node l (Text d) [] (node l2 r2 ats2 ch2 nx2) nx) w k = let no : false ≡ true = k.3.0 in cc
tree_built p b q (node l (Text d) (x ∷ ats) ch nx) w k = let no : false ≡ true = k.2 in cc
tree_built p b q (node l Document [] none nx) w k = refl
tree_built p b q (node l Document [] (node l2 (Element n) ats2 ch2 none) nx) w k =
    ap (λ (v : Entries). finished (add_all v nothing_made)) (append-nil ((own l2 (Element n) ats2 ++ entries_of ch2) ++ []) ∙ append-nil (own l2 (Element n) ats2 ++ entries_of ch2)) ∙ element_built l2 n ats2 ch2 w.4.4 k.3.3
tree_built p b q (node l Document [] (node l2 (Element n) ats2 ch2 (node l3 r3 ats3 ch3 nx3)) nx) w k = let no : false ≡ true = k.3.1 in cc
tree_built p b q (node l Document [] (node l2 (Text d) ats2 ch2 nx2) nx) w k = let no : false ≡ true = k.3.0 in cc
tree_built p b q (node l Document [] (node l2 Document ats2 ch2 nx2) nx) w k = let no : false ≡ true = k.3.0 in cc
tree_built p b q (node l Document [] (node l2 (Attr v) ats2 ch2 nx2) nx) w k = let no : false ≡ true = k.3.0 in cc
tree_built p b q (node l Document (x ∷ ats) ch nx) w k = let no : false ≡ true = k.2 in cc
tree_built p b q (node l (Attr v) ats ch nx) w k = absurd (no_attribute q v k.0)

-- of a node of a valid tree
pub subtree_built : (l : Label) (t : Tree) → IsValidTree t → finished (add_all (subtree_of l t) nothing_made) ≡ dumped (at l t.documents)
subtree_built l t w =
    let there = at_keys root root l t.documents w.keys in
    tree_built (up l root t.documents) there.0 (over l None t.documents) (at l t.documents) there.1 (at_kinds None l t.documents w.kinds)

-- the node's own entry, and all that a walk meets below it, make the fragment that is answered
pub dump_found : (l : Label) (r : Record) (t : Tree) → IsValidTree t → Some r ≡ get (node_key l) (map_of t)
    → reply.Tree (finished (add_all ((node_key l, r) ∷ met_below l t) nothing_made)) ≡ dump l t
dump_found l r t w h =
    ap (λ (v : Entries). reply.Tree (finished (add_all v nothing_made))) (subtree_found l r t w h)
    ∙ ap reply.Tree (subtree_built l t w)
    ∙ by (at l t.documents) (h ∙ get_node l t w)
  where
    by : (g : Forest) → Some r ≡ record_of g → reply.Tree (dumped g) ≡ see (λ found. reply.Tree (dumped found)) g
    by none q = cc
    by (node m s ats ch nx) q = refl

-- ---- a node that stands below another one

no_document_below : (q : Record) → may_stand (Some q) Document ≡ true → ⊥
no_document_below Document h = let no : false ≡ true = h in cc
no_document_below (Element n) h = let no : false ≡ true = h in cc
no_document_below (Text d) h = let no : false ≡ true = h in cc
no_document_below (Attr v) h = let no : false ≡ true = h in cc

-- it is an element or a text, so its fragment is there
pub dumped_is : (q : Record) (g : Forest) → KindsAllowed (Some q) g → found g ≡ true → dumped g ≡ Some (fragment_of g)
dumped_is q none k y = cc
dumped_is q (node l (Element n) ats ch nx) k y = refl
dumped_is q (node l (Text d) ats ch nx) k y = refl
dumped_is q (node l Document ats ch nx) k y = absurd (no_document_below q k.0)
dumped_is q (node l (Attr v) ats ch nx) k y = absurd (no_attribute (Some q) v k.0)
