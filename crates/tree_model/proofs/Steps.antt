-- The children of a node one by one: each is found from the one before.
use Rattle.std.proofs.Common.{◌≡◌, true, List, [], ◌∷◌, Option, Some, None, refl, sym, ap, subst, ◌∙◌}
use Rattle.dewey_labels.specs.Labels.{Label, is_child}
use Rattle.dewey_labels.specs.Sides.{under, right, side, is_in, ahead}
use Rattle.dewey_labels.proofs.Sides.{side_itself, in_under}
use Rattle.dewey_labels.proofs.Codes.{child_under, children_right}
use Rattle.tree_model.specs.declared.record.Record.{Record}
use Rattle.tree_model.specs.Tree.{Attributes, Forest, none, node, choose, at, found, labels, head_label, children_of, first_of, next_of}
use Rattle.tree_model.specs.inside.FoundNodes.{up, following_of}
use Rattle.tree_model.specs.ValidTrees.{KeysRise}
use Rattle.tree_model.proofs.Found.{some_is, at_from, at_keys, at_label}

-- the next sibling as it is found from the node
pub record Stepped (f : Forest) (n : Label) (rest_of : List Label) (p : Label) : Type 0 where
  pub there : found (at n f) ≡ true
  pub follows : rest_of ≡ n ∷ following_of (at n f)
  pub is_child_of : is_child p n ≡ true

step_here : (p b m : Label) (r : Record) (ats : Attributes) (ch nx : Forest) (n : Label) → KeysRise p b (node m r ats ch nx) → head_label nx ≡ Some n → (at n (node m r ats ch nx) ≡ nx) × (is_child p n ≡ true) × (side m n ≡ right)
step_here p b m r ats ch none n w h = absurd (none_some n h)
  where
    none_some : (n : Label) → ◌≡◌ {A = Option Label} None (Some n) → ⊥
    none_some n e = cc
step_here p b m r ats ch (node k r' ats' ch' nx') n w h =
    let e : k ≡ n = some_is k n h in
    let s : side m k ≡ right = children_right p m k w.0 w.5.0 w.5.1 in
    let nx = node k r' ats' ch' nx' in
    let whole = node m r ats ch nx in
    let found_k : at k whole ≡ nx = ap (λ t. choose t none whole (at k ch) (at k nx)) s ∙ ap (λ t. choose t none nx (at k ch') (at k nx')) (side_itself k) in
    (subst (λ v. at v whole ≡ nx) e found_k, subst (λ v. is_child p v ≡ true) e w.5.0, subst (λ v. side m v ≡ right) e s)

head_found : (g : Forest) (n : Label) → head_label g ≡ Some n → found g ≡ true
head_found none n h = cc
head_found (node m r ats ch nx) n h = refl

head_follows : (g : Forest) (n : Label) → head_label g ≡ Some n → labels g ≡ n ∷ following_of g
head_follows none n h = cc
head_follows (node m r ats ch nx) n h = λ i. some_is m n h i ∷ labels nx

first_here : (p b m : Label) (r : Record) (ats : Attributes) (ch nx : Forest) (n : Label) → KeysRise p b (node m r ats ch nx) → head_label ch ≡ Some n → (at n (node m r ats ch nx) ≡ ch) × (is_child m n ≡ true) × (side m n ≡ under)
first_here p b m r ats none nx n w h = cc
first_here p b m r ats (node k r' ats' ch' nx') nx n w h =
    let e : k ≡ n = some_is k n h in
    let s : side m k ≡ under = child_under m k w.4.0 in
    let ch = node k r' ats' ch' nx' in
    let whole = node m r ats ch nx in
    let found_k : at k whole ≡ ch = ap (λ t. choose t none whole (at k ch) (at k nx)) s ∙ ap (λ t. choose t none ch (at k ch') (at k nx')) (side_itself k) in
    (subst (λ v. at v whole ≡ ch) e found_k, subst (λ v. is_child m v ≡ true) e w.4.0, subst (λ v. side m v ≡ under) e s)

-- from a found node to its right neighbour
pub step_next : (p lo l n : Label) (f : Forest) → KeysRise p lo f → found (at l f) ≡ true → next_of (at l f) ≡ Some n → Stepped f n (following_of (at l f)) (up l p f)
step_next p lo l n f w y h =
    let there = at_keys p lo l f w in
    by (at l f) there.0 there.1 (at_label l f) y h refl
  where
    by : (g : Forest) (b : Label) → KeysRise (up l p f) b g → (found g ≡ true → head_label g ≡ Some l) → found g ≡ true → next_of g ≡ Some n → at l f ≡ g → Stepped f n (following_of g) (up l p f)
    by none b v q y' h' e = cc
    by (node m r ats ch nx) b v q y' h' e =
        let at_here = step_here (up l p f) b m r ats ch nx n v h' in
        let m_is = some_is m l (q refl) in
        let moved : at n f ≡ nx = at_from p lo l n f w y (child_under (up l p f) n at_here.1) (ap ahead (subst (λ z. side z n ≡ right) m_is at_here.2)) ∙ ap (at n) e ∙ at_here.0 in
        record { there = ap found moved ∙ head_found nx n h'; follows = subst (λ g. labels nx ≡ n ∷ following_of g) (sym moved) (head_follows nx n h'); is_child_of = at_here.1 }

-- from a found node to its first child
pub step_first : (p lo l n : Label) (f : Forest) → KeysRise p lo f → found (at l f) ≡ true → first_of (at l f) ≡ Some n → Stepped f n (children_of (at l f)) l
step_first p lo l n f w y h =
    let there = at_keys p lo l f w in
    by (at l f) there.0 there.1 (at_label l f) y h refl
  where
    by : (g : Forest) (b : Label) → KeysRise (up l p f) b g → (found g ≡ true → head_label g ≡ Some l) → found g ≡ true → first_of g ≡ Some n → at l f ≡ g → Stepped f n (children_of g) l
    by none b v q y' h' e = cc
    by (node m r ats ch nx) b v q y' h' e =
        let at_here = first_here (up l p f) b m r ats ch nx n v h' in
        let m_is = some_is m l (q refl) in
        let under_l : side l n ≡ under = subst (λ z. side z n ≡ under) m_is at_here.2 in
        let moved : at n f ≡ ch = at_from p lo l n f w y (in_under (up l p f) m n (child_under (up l p f) m v.0) (ap is_in at_here.2)) (ap ahead under_l) ∙ ap (at n) e ∙ at_here.0 in
        record { there = ap found moved ∙ head_found ch n h'; follows = subst (λ g. labels ch ≡ n ∷ following_of g) (sym moved) (head_follows ch n h'); is_child_of = subst (λ z. is_child z n ≡ true) m_is at_here.1 }

-- without a right neighbour none follows
pub none_follows : (g : Forest) → next_of g ≡ None → following_of g ≡ []
none_follows none h = refl
none_follows (node m r ats ch none) h = refl
none_follows (node m r ats ch (node k r' ats' ch' nx')) h = cc

-- without a first child there is none
pub none_within : (g : Forest) → first_of g ≡ None → children_of g ≡ []
none_within none h = refl
none_within (node m r ats none nx) h = refl
none_within (node m r ats (node k r' ats' ch' nx') nx) h = cc
