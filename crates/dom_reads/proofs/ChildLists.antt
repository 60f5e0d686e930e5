-- The children of a node one by one: a walk from each to its next sibling, and what is left of it.
use Rattle.std.proofs.Common.{◌≡◌, ℕ, ◌<◌, true, List, [], ◌∷◌, ◌++◌, Option, Some, None, IfSome, Less, nat_cmp, refl, sym, ap, subst, ◌∙◌, append_assoc, append-nil}
use Rattle.std.specs.Cmp.Lexicographic.{slice_cmp}
use Rattle.dewey_labels.specs.Labels.{Label, root, IsLabel, Within}
use Rattle.tree_model.specs.Tree.{Tree, at, found, head_label, children_of, first_of, next_of}
use Rattle.tree_model.specs.inside.FoundNodes.{following_of}
use Rattle.tree_model.specs.Places.{first_in}
use Rattle.tree_model.specs.ValidTrees.{IsValidTree}
use Rattle.tree_model.proofs.Steps.{step_first, step_next, none_within, none_follows}
use Rattle.tree_model.proofs.PlaceLaws.{not_root}
use Rattle.node_seq.specs.inside.Ranks.{labels_left}
use Rattle.node_seq.proofs.Ranks.{label_left, label_nearer}
use Rattle.dom_reads.proofs.StepLaws.{row_of}

-- the children that a walk that stands before one of them is still to meet
abbrev pub children_from : Tree → Option Label → List Label
children_from t None = []
children_from t (Some n) = n ∷ following_of (at n t.documents)

-- a walk over the children of l has met some, and stands before the next one
pub record IsChildWalk (l : Label) (t : Tree) (met : List Label) (next : Option Label) : Type 0 where
  pub whole : met ++ children_from t next ≡ children_of (at l t.documents)
  pub there : IfSome next (λ n. found (at n t.documents) ≡ true)

pub walk_begins : (l : Label) (t : Tree) (o : Option Label) → IsValidTree t → found (at l t.documents) ≡ true → o ≡ first_in l t → IsChildWalk l t [] o
walk_begins l t o w y e = subst (IsChildWalk l t []) (sym (e ∙ ap head_label (row_of l t (not_root l t w y)))) (by (first_of (at l t.documents)) refl)
  where
    by : (o : Option Label) → first_of (at l t.documents) ≡ o → IsChildWalk l t [] o
    by None e = record { whole = sym (none_within (at l t.documents) e); there = tt }
    by (Some n) e = let s = step_first root root l n t.documents w.keys y e in record { whole = sym s.follows; there = s.there }

pub walk_goes_on : (l n : Label) (t : Tree) (met : List Label) (o : Option Label) → IsValidTree t → IsChildWalk l t met (Some n) → o ≡ next_of (at n t.documents) → IsChildWalk l t (met ++ (n ∷ [])) o
walk_goes_on l n t met o w h e = subst (IsChildWalk l t (met ++ (n ∷ []))) (sym e) (by (next_of (at n t.documents)) refl)
  where
    onward : (rest : List Label) → following_of (at n t.documents) ≡ rest → (met ++ (n ∷ [])) ++ rest ≡ children_of (at l t.documents)
    onward rest f = append_assoc met (n ∷ []) rest ∙ ap (λ v. met ++ (n ∷ v)) (sym f) ∙ h.whole

    by : (o : Option Label) → next_of (at n t.documents) ≡ o → IsChildWalk l t (met ++ (n ∷ [])) o
    by None e = record { whole = onward [] (none_follows (at n t.documents) e); there = tt }
    by (Some m) e = let s = step_next root root n m t.documents w.keys h.there e in record { whole = onward (m ∷ following_of (at m t.documents)) s.follows; there = s.there }

pub walk_ends : (l : Label) (t : Tree) (met : List Label) → IsChildWalk l t met None → met ≡ children_of (at l t.documents)
walk_ends l t met h = sym (append-nil met) ∙ h.whole

-- of steps to siblings behind a label
abbrev pub steps_behind : Option Label → ℕ
steps_behind None = 0
steps_behind (Some n) = labels_left n

pub steps_fall : (n : Label) (o : Option Label) → Within n → IfSome o Within → IfSome o (λ m. slice_cmp nat_cmp n m ≡ Less) → steps_behind o < labels_left n
steps_fall n None w v h = label_left n w
steps_fall n (Some m) w v h = label_nearer n m w v h

pub within_if : (o : Option Label) → IfSome o IsLabel → IfSome o Within
within_if None h = tt
within_if (Some n) h = h.1
