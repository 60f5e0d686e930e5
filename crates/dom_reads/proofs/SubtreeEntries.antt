-- What a walk over a subtree meets: of any map in order, and of the map of a valid tree.
use Rattle.std.proofs.Common.{◌≡◌, ◌<◌, Bool, true, false, cond, List, [], ◌∷◌, ◌++◌, map, Option, Some, None, refl, sym, ap, subst, ◌∙◌, arith, append-nil}
use Rattle.std.specs.List.{AllByRecursion}
use Rattle.dewey_labels.specs.Labels.{Label, root}
use Rattle.tree_model.specs.declared.key.Key.{Key}
use Rattle.tree_model.specs.declared.record.Record.{Record}
use Rattle.tree_model.specs.Keys.{node_key}
use Rattle.tree_model.specs.Entries.{Entries, Above, Below, Sorted, get, first_above, entries_above}
use Rattle.tree_model.specs.Tree.{Attributes, Forest, none, node, Tree, attr_entry, own, entries_of, map_of, at, record_of}
use Rattle.tree_model.specs.inside.FoundNodes.{up}
use Rattle.tree_model.specs.ValidTrees.{IsValidTree}
use Rattle.tree_model.proofs.Entries.{sorted_append}
use Rattle.tree_model.proofs.Found.{some_is, at_label}
use Rattle.tree_model.proofs.Keys.{key_total}
use Rattle.tree_model.proofs.Lists.{all_append, all_on}
use Rattle.tree_model.proofs.Walks.{as_long as tree_as_long, subtree_walk}
use Rattle.tree_model.proofs.WholeTree.{get_node, lies_in_tree}
use Rattle.node_seq.specs.Reads.{IsEntryOfTrees, LiesAbove}
use Rattle.node_seq.specs.WalkSteps.{from_entry, steps_left}
use Rattle.node_seq.proofs.Walks.{walk_found, falls_upwards}
use Rattle.dom_reads.specs.SubtreeWalks.{alone, as_long, lies_in, subtree_of, HasStepped}
use Rattle.dom_reads.specs.inside.InSubtrees.{if_in, AllBefore, RisesTo}

-- what is no value is none
pub missing : {A : Type 0} (o : Option A) → ((x : A) → o ≡ Some x → ⊥) → None ≡ o
missing None never = refl
missing (Some x) never = absurd (never x refl)

-- ---- what is found, if it lies in the subtree

-- what lies past the subtree ends the walk
pub found_in : (l : Label) (o : Option (Key × Record)) (es : Entries) → as_long (lies_in l) (from_entry (if_in l o) es) ≡ as_long (lies_in l) (from_entry o es)
found_in l None es = refl
found_in l (Some e) es =
    let rest = as_long (lies_in l) (entries_above e.0 es) in
    elim (lies_in l e) as (λ b. lies_in l e ≡ b → as_long (lies_in l) (from_entry (cond b (Some e) None) es) ≡ cond b (e ∷ rest) []) [
      | true ↦ λ q. ap (λ b. cond b (e ∷ rest) []) q
      | false ↦ λ q. refl
    ] refl

-- a walk begins with what lies above its node's key
pub walk_begins : (l : Label) (k : Key) (o : Option (Key × Record)) (es : Entries) → Sorted es → o ≡ first_above k es
    → as_long (lies_in l) (from_entry (if_in l o) es) ≡ as_long (lies_in l) (entries_above k es)
walk_begins l k o es s h = found_in l o es ∙ ap (as_long (lies_in l)) (walk_found k o es s h)

module _ (P : Option (Key × Record) → Type 0) (at_end : P None) where
  -- what holds of nothing and of what was found holds of it where it lies in the subtree
  pub kept_in : (l : Label) (o : Option (Key × Record)) → P o → P (if_in l o)
  kept_in l None h = at_end
  kept_in l (Some e) h = elim (lies_in l e) as (λ b. P (cond b (Some e) None)) [ true ↦ h | false ↦ at_end ]

-- it lies there
pub if_in_lies : (l : Label) (o : Option (Key × Record)) (e : Key × Record) → if_in l o ≡ Some e → lies_in l e ≡ true
if_in_lies l None e h = cc
if_in_lies l (Some f) e h = elim (lies_in l f) as (λ b. lies_in l f ≡ b → cond b (Some f) None ≡ Some e → lies_in l e ≡ true) [
  | true ↦ λ q g. subst (λ v. lies_in l v ≡ true) (some_is f e g) q
  | false ↦ λ q g. cc
] refl h

-- a step, o being what was found above the entry e that is answered
pub stepped_in : (contents : Option Entries) (l : Label) (e : Key × Record) (o : Option (Key × Record))
    → ((es : Entries) → contents ≡ Some es → Sorted es) → (contents ≡ None → IsEntryOfTrees (Some e)) → lies_in l e ≡ true
    → ((es : Entries) → contents ≡ Some es → o ≡ first_above e.0 es) → LiesAbove e.0 o → (contents ≡ None → IsEntryOfTrees o)
    → HasStepped contents (record { at = l; next = Some e }) (record { at = l; next = if_in l o }) (Some e)
stepped_in contents l e o sorted valid here value above found = record {
  entry = refl;
  rest = λ es t.
      ap (λ b. cond b (e ∷ as_long (lies_in l) (entries_above e.0 es)) []) here
      ∙ ap (λ v. e ∷ v) (sym (walk_begins l e.0 o es (sorted es t) (value es t)));
  above = kept_in (LiesAbove e.0) tt l o above;
  valid = λ t. kept_in IsEntryOfTrees tt l o (found t);
  shorter =
      let falls : steps_left contents o < steps_left contents (Some e) = falls_upwards contents contents e e.0 o refl valid value above found in
      kept_in (λ v. steps_left contents v < steps_left contents (Some e)) (omega (arith, falls)) l o falls;
}

pub stepped_at_end : (contents : Option Entries) (l : Label) → HasStepped contents (record { at = l; next = None }) (record { at = l; next = None }) None
stepped_at_end contents l = record { entry = refl; rest = λ es t. refl; above = tt; valid = λ t. tt; shorter = tt }

-- ---- keys rise

-- one more entry behind those below it
pub rises_on : (e : Key × Record) (next : Option (Key × Record)) (es : Entries) → RisesTo (Some e) es → LiesAbove e.0 next → RisesTo next (es ++ (e ∷ []))
rises_on e next es h above = record {
  rise = sorted_append es (e ∷ []) h.rise (tt, tt) (all_on (Below e.0) (λ x. AllByRecursion (Above x.0) (e ∷ [])) (λ x g. (g, tt)) es h.before);
  before = by next above;
}
  where
    by : (next : Option (Key × Record)) → LiesAbove e.0 next → AllBefore next (es ++ (e ∷ []))
    by None a = tt
    by (Some f) a = all_append (Below f.0) es (e ∷ []) (all_on (Below e.0) (Below f.0) (λ x g. key_total.trans x.0 e.0 f.0 g a) es h.before) (a, tt)

-- ---- the subtree of a found node

-- the two words of a walk that ends are one
pub as_long_in_tree : {A : Type 0} (q : A → Bool) (xs : List A) → as_long q xs ≡ tree_as_long q xs
as_long_in_tree q [] = refl
as_long_in_tree q (x ∷ xs) = ap (λ v. cond (q x) (x ∷ v) []) (as_long_in_tree q xs)

-- what a walk meets below a node
abbrev pub met_below : Label → Tree → Entries
met_below l t = as_long (lies_in l) (entries_above (node_key l) (map_of t))

-- below a found node a walk meets its attributes, then its children's entries
pub below_found : (l m : Label) (r : Record) (ats : Attributes) (ch nx : Forest) (t : Tree) → IsValidTree t → at l t.documents ≡ node m r ats ch nx
    → met_below l t ≡ map (attr_entry l) ats ++ entries_of ch
below_found l m r ats ch nx t w e =
    as_long_in_tree (lies_in l) _ ∙ subtree_walk (up l root t.documents) l r ats ch nx (map_of t) (lies_in_tree l m r ats ch nx t w e)

-- the label of a found node
pub found_label : (l m : Label) (r : Record) (ats : Attributes) (ch nx : Forest) (f : Forest) → at l f ≡ node m r ats ch nx → m ≡ l
found_label l m r ats ch nx f e = some_is m l (ap Rattle.tree_model.specs.Tree.head_label (sym e) ∙ at_label l f (ap Rattle.tree_model.specs.Tree.found e))

-- the node's own record, and all that a walk meets below it, are its subtree
pub subtree_found : (l : Label) (r : Record) (t : Tree) → IsValidTree t → Some r ≡ get (node_key l) (map_of t)
    → (node_key l, r) ∷ met_below l t ≡ subtree_of l t
subtree_found l r t w h = by (at l t.documents) refl (h ∙ get_node l t w)
  where
    by : (g : Forest) → at l t.documents ≡ g → Some r ≡ record_of g → (node_key l, r) ∷ met_below l t ≡ entries_of (alone g)
    by none e q = cc
    by (node m s ats ch nx) e q =
        let here : r ≡ s = some_is r s q in
        let label : m ≡ l = found_label l m s ats ch nx t.documents e in
        ap (λ v. (node_key l, v) ∷ met_below l t) here
        ∙ ap (λ v. (node_key l, s) ∷ v) (below_found l m s ats ch nx t w e)
        ∙ ap (λ v. own v s ats ++ entries_of ch) (sym label)
        ∙ sym (append-nil (own m s ats ++ entries_of ch))

-- where no node has the label, the subtree has no entries
pub subtree_missing : (l : Label) (t : Tree) → IsValidTree t → None ≡ get (node_key l) (map_of t) → [] ≡ subtree_of l t
subtree_missing l t w h = by (at l t.documents) (h ∙ get_node l t w)
  where
    by : (g : Forest) → None ≡ record_of g → [] ≡ entries_of (alone g)
    by none q = refl
    by (node m s ats ch nx) q = cc
