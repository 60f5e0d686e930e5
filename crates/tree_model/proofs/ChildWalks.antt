-- A walk over the children of a node, one read after another.
use Rattle.std.proofs.Common.{◌≡◌, Bool, true, false, List, [], ◌∷◌, ◌++◌, Option, Some, None, is_some, refl, sym, ap, subst, ◌∙◌, append_assoc}
use Rattle.dewey_labels.specs.Labels.{Label, root, is_child, parent}
use Rattle.dewey_labels.proofs.Codes.{OddEnd, child_odd, parent_is}
use Rattle.tree_model.specs.declared.reply.Reply.TheVariants.{Places, Refused}
use Rattle.tree_model.specs.declared.refusal.Refusal.TheVariants.{Dom}
use Rattle.tree_model.specs.Keys.{node_key}
use Rattle.tree_model.specs.Entries.{get, first_above}
use Rattle.tree_model.specs.inside.Seeks.{behind_attributes, behind_tree, if_under}
use Rattle.tree_model.specs.Tree.{Forest, none, node, Tree, map_of, at, found, head_label, first_of, next_of, children_of}
use Rattle.tree_model.specs.inside.FoundNodes.{up, following_of}
use Rattle.tree_model.specs.ValidTrees.{KeysRise, IsValidTree}
use Rattle.tree_model.specs.Outcomes.{see, not_found_err}
use Rattle.tree_model.specs.Navigation.{children}
use Rattle.tree_model.proofs.Found.{some_is, at_keys, at_label, up_parent}
use Rattle.tree_model.proofs.Steps.{Stepped, step_first, step_next, none_within, none_follows}
use Rattle.tree_model.proofs.WholeTree.{there_in_tree}
use Rattle.tree_model.proofs.TreeReads.{first_in_tree, next_in_tree}

-- so many children of l are gathered, and the next one is found, or none is left
abbrev pub Walked : Tree → Label → List Label → Option Label → Type 0
Walked t l out None = (found (at l t.documents) ≡ true) × (out ≡ children_of (at l t.documents))
Walked t l out (Some c) = (found (at l t.documents) ≡ true) × (out ++ (c ∷ following_of (at c t.documents)) ≡ children_of (at l t.documents)) × (found (at c t.documents) ≡ true) × (is_child l c ≡ true)

label_odd : (l : Label) (f : Forest) → KeysRise root root f → found (at l f) ≡ true → OddEnd l
label_odd l f w y =
    let there = at_keys root root l f w in
    elim (at l f) as (λ g. KeysRise (up l root f) there.0 g → head_label g ≡ Some l → found g ≡ true → OddEnd l) [
      | none ↦ λ _ _ q. cc
      | node m r ats ch nx ↦ λ v h _. subst OddEnd (some_is m l h) (child_odd (up l root f) m v.0)
    ] there.1 (at_label l f y) y

-- it begins with the first child
pub walk_begins : (t : Tree) (l : Label) (next : Option Label) → IsValidTree t → found (at l t.documents) ≡ true → next ≡ if_under l (first_above (behind_attributes l) (map_of t)) → Walked t l [] next
walk_begins t l next w y e = by next (e ∙ first_in_tree l t w y)
  where
    by : (next : Option Label) → next ≡ first_of (at l t.documents) → Walked t l [] next
    by None q = (y, sym (none_within (at l t.documents) (sym q)))
    by (Some c) q = let s : Stepped t.documents c (children_of (at l t.documents)) l = step_first root root l c t.documents w.keys y (sym q) in (y, sym s.follows, s.there, s.is_child_of)

-- it goes on with the right neighbour
pub walk_goes : (t : Tree) (l c : Label) (out : List Label) (next : Option Label) → IsValidTree t → Walked t l out (Some c) → next ≡ if_under l (first_above (behind_tree c) (map_of t)) → Walked t l (out ++ (c ∷ [])) next
walk_goes t l c out next w h e = by next (e ∙ ap (λ p. if_under p (first_above (behind_tree c) (map_of t))) (sym parent_of_c) ∙ next_in_tree c t w h.2)
  where
    parent_of_c : parent c ≡ l
    parent_of_c = parent_is l c (label_odd l t.documents w.keys h.0) h.3

    by : (next : Option Label) → next ≡ next_of (at c t.documents) → Walked t l (out ++ (c ∷ [])) next
    by None q = (h.0, ap (λ v. out ++ (c ∷ v)) (sym (none_follows (at c t.documents) (sym q))) ∙ h.1)
    by (Some n) q = let s : Stepped t.documents n (following_of (at c t.documents)) (up c root t.documents) = step_next root root c n t.documents w.keys h.2 (sym q) in
        (h.0, append_assoc out (c ∷ []) (n ∷ following_of (at n t.documents)) ∙ ap (λ v. out ++ (c ∷ v)) (sym s.follows) ∙ h.1, s.there, subst (λ p. is_child p n ≡ true) (up_parent c t.documents w.keys h.2 ∙ parent_of_c) s.is_child_of)

-- it ends with all children
pub walk_ends : (t : Tree) (l : Label) (out : List Label) → Walked t l out None → Places out ≡ children l t
walk_ends t l out h = by (at l t.documents) h.0 h.1
  where
    by : (g : Forest) → found g ≡ true → out ≡ children_of g → Places out ≡ see (λ found. Places (children_of found)) g
    by none y e = cc
    by (node m r ats ch nx) y e = ap Places e

-- where no node has the label there is no walk
pub no_walk : (t : Tree) (l : Label) (there : Bool) → IsValidTree t → there ≡ is_some (get (node_key l) (map_of t)) → there ≡ false → Refused (Dom not_found_err) ≡ children l t
no_walk t l there w is_there h = by (at l t.documents) (sym h ∙ is_there ∙ there_in_tree l t w)
  where
    by : (g : Forest) → false ≡ found g → Refused (Dom not_found_err) ≡ see (λ found. Places (children_of found)) g
    by none e = refl
    by (node m r ats ch nx) e = cc
