-- The looks of one read: at a node, and at an attribute.
use Rattle.std.proofs.Common.{◌≡◌, ℕ, suc, Bool, true, false, ◌==◌, List, [], ◌∷◌, length, Option, None, Some, Equal, Less, Greater, Ordering, nat_cmp, is_eq, inr, refl, sym, ap, ◌∙◌, true≢false, arith}
use Rattle.std.specs.Ordering.{ordering_then}
use Rattle.dewey_labels.specs.Labels.{Label, root, is_label}
use Rattle.dewey_labels.proofs.Codes.{eq_is, first_of_both}
use Rattle.tree_model.specs.declared.record.Record.{Record}
use Rattle.tree_model.specs.Keys.{key_at, node_key}
use Rattle.tree_model.specs.Entries.{get}
use Rattle.tree_model.specs.Names.{Name}
use Rattle.tree_model.specs.Places.{is_root}
use Rattle.tree_model.specs.Tree.{Forest, none, node, Tree, map_of, at, found, head_label, record_of, attributes_of, beside}
use Rattle.tree_model.specs.ValidTrees.{IsValidTree, KeysRise, NamesRise}
use Rattle.tree_model.specs.inside.FoundNodes.{up}
use Rattle.tree_model.proofs.Found.{some_is, at_label, at_keys}
use Rattle.tree_model.proofs.WholeTree.{get_node}
use Rattle.tree_model.proofs.NamedLists.{none_named}
use Rattle.tree_model.proofs.PlaceLaws.{not_root}
use Rattle.tree_model.proofs.Stretches.{attr_record}
use Rattle.tree_model.proofs.TreeReads.{attribute_in_tree}
use Rattle.xpath_axes.specs.inside.Walks.{value_of}
use Rattle.xpath_axes.proofs.AttributeWalks.{all_elsewhere, get_elsewhere}
use Rattle.path_model.specs.Positions.{Position, a_node}
use Rattle.path_model.specs.Programs.{head_seen, value_seen}

-- ---- the root

pub root_test : (l : Label) → is_label l ≡ true → (length l == 1) ≡ is_root l
root_test [] h = absurd (true≢false (sym h))
root_test (d ∷ []) h = sym (ap (λ (o : Ordering). is_eq (ordering_then o Equal)) (ap (nat_cmp 1) (eq_is d 1 (first_of_both (d == 1) _ h))))
root_test (d ∷ e ∷ ds) h = two (length ds) ∙ sym (longer (nat_cmp 1 d))
  where
    two : (n : ℕ) → (suc (suc n) == 1) ≡ false
    two n = grind arith

    longer : (o : Ordering) → is_eq (ordering_then o Less) ≡ false
    longer Less = refl
    longer Equal = refl
    longer Greater = refl

-- the root is no node
pub root_is_none : (l : Label) (t : Tree) → IsValidTree t → is_root l ≡ true → at l t.documents ≡ none
root_is_none l t w r = by (at l t.documents) refl
  where
    by : (f : Forest) → at l t.documents ≡ f → f ≡ none
    by none e = refl
    by (node m s ats ch nx) e = absurd (true≢false (sym r ∙ not_root l t w (ap found e)))

-- ---- a node

-- a node that may be missing
abbrev pub node_seen : Label → Option Record → List Position
node_seen l None = []
node_seen l (Some r) = a_node l r ∷ []

pub node_is : (l : Label) (t : Tree) (o : Option Record) → IsValidTree t → o ≡ get (node_key l) (map_of t) → node_seen l o ≡ head_seen (at l t.documents)
node_is l t o w h = ap (node_seen l) (h ∙ get_node l t w) ∙ by (at l t.documents) (at_label l t.documents)
  where
    by : (f : Forest) → (found f ≡ true → head_label f ≡ Some l) → node_seen l (record_of f) ≡ head_seen f
    by none q = refl
    by (node m r ats ch nx) q = ap (λ (k : Label). a_node k r ∷ []) (sym (some_is m l (q refl)))

-- ---- an attribute

value_of_record : (o : Option (List ℕ)) → value_of (attr_record o) ≡ o
value_of_record None = refl
value_of_record (Some v) = refl

pub attribute_is : (l : Label) (n : Name) (t : Tree) → IsValidTree t → is_root l ≡ false → (length n == 0) ≡ false
    → value_seen l n (value_of (get (key_at l n) (map_of t))) ≡ value_seen l n (beside n (attributes_of (at l t.documents)))
attribute_is l [] t w r e = absurd (true≢false e)
attribute_is l (d ∷ n) t w r e = ap (value_seen l (d ∷ n)) (by (found (at l t.documents)) refl)
  where
    none_of : (f : Forest) → found f ≡ false → None ≡ beside (d ∷ n) (attributes_of f)
    none_of none y = refl
    none_of (node m s ats ch nx) y = absurd (true≢false y)

    by : (b : Bool) → found (at l t.documents) ≡ b → value_of (get (key_at l (d ∷ n)) (map_of t)) ≡ beside (d ∷ n) (attributes_of (at l t.documents))
    by true y = ap value_of (attribute_in_tree l d n t w y) ∙ value_of_record (beside (d ∷ n) (attributes_of (at l t.documents)))
    by false y = ap value_of (get_elsewhere l (d ∷ n) (map_of t) (all_elsewhere l t w r y)) ∙ none_of (at l t.documents) y

-- no attribute has the empty name
pub no_empty_name : (l : Label) (n : Name) (t : Tree) → IsValidTree t → (length n == 0) ≡ true → [] ≡ value_seen l n (beside n (attributes_of (at l t.documents)))
no_empty_name l (d ∷ n) t w e = absurd (true≢false (sym e ∙ some_length (length n)))
  where
    some_length : (n : ℕ) → (suc n == 0) ≡ false
    some_length n = grind arith
no_empty_name l [] t w e = sym (ap (value_seen l []) (none_named [] [] (attributes_of (at l t.documents)) names (inr refl)))
  where
    of_keys : (g : Forest) (b : Label) → KeysRise (up l root t.documents) b g → NamesRise [] (attributes_of g)
    of_keys none b v = tt
    of_keys (node m r ats ch nx) b v = v.3

    names : NamesRise [] (attributes_of (at l t.documents))
    names = let there = at_keys root root l t.documents w.keys in of_keys (at l t.documents) there.0 there.1
