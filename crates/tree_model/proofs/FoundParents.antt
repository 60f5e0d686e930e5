-- What stands about a found node: its parent is found, its record stands over the node, and its left neighbour or itself bounds the node's label.
use Rattle.std.proofs.Common.{◌≡◌, true, Option, None, Some, unwrap_or, Less, nat_cmp, refl, sym, ap, subst, ◌∙◌, true≢false, ◌⊎◌, inl, inr, ⊎_elim}
use Rattle.std.specs.Cmp.Lexicographic.{slice_cmp, nat_list_cmp_total}
use Rattle.dewey_labels.specs.Labels.{Label, root, is_child, is_label}
use Rattle.dewey_labels.specs.Sides.{above, left, same, under, right, side, is_in}
use Rattle.dewey_labels.proofs.Sides.{side_itself, same_is, right_within}
use Rattle.dewey_labels.proofs.Codes.{children_right}
use Rattle.dewey_labels.proofs.Labels.{parent_of_child}
use Rattle.tree_model.specs.declared.record.Record.{Record}
use Rattle.tree_model.specs.Tree.{Forest, none, node, Tree, choose, at, found, prev_of, record_of}
use Rattle.tree_model.specs.inside.FoundNodes.{up, low}
use Rattle.tree_model.specs.ValidTrees.{KeysRise, IsValidTree}
use Rattle.tree_model.specs.Places.{is_root}
use Rattle.tree_model.proofs.Edits.{over}
use Rattle.tree_model.proofs.Found.{up_parent}
use Rattle.tree_model.proofs.WholeTree.{found_under}

-- what is found behind a sibling lies to its right
pub found_right : (p b l k : Label) (f : Forest) → KeysRise p b f → is_child p k ≡ true → (slice_cmp nat_cmp k b ≡ Less) ⊎ (k ≡ b) → found (at l f) ≡ true → side k l ≡ right
found_right p b l k none w c e y = absurd (true≢false (sym y))
found_right p b l k (node j r ats ch nx) w c h y =
    let whole = node j r ats ch nx in
    let less : slice_cmp nat_cmp k j ≡ Less = ⊎_elim (λ e. nat_list_cmp_total.trans k b j e w.1) (λ e. subst (λ v. slice_cmp nat_cmp v j ≡ Less) (sym e) w.1) h in
    let apart : side k j ≡ right = children_right p k j c w.0 less in
    elim (side j l) as (λ s. side j l ≡ s → found (choose s none whole (at l ch) (at l nx)) ≡ true → side k l ≡ right) [
      | above ↦ λ _ e. absurd (true≢false (sym e))
      | left ↦ λ _ e. absurd (true≢false (sym e))
      | same ↦ λ s _. subst (λ v. side k v ≡ right) (sym (same_is j l s)) apart
      | under ↦ λ s _. right_within k j k l apart (ap is_in (side_itself k)) (ap is_in s)
      | right ↦ λ s e. found_right p j l k nx w.5 c (inl less) e
    ] refl y

-- the parent of a found node is found, or is that of the forest
pub up_found : (p b l : Label) (f : Forest) → KeysRise p b f → found (at l f) ≡ true → (up l p f ≡ p) ⊎ (found (at (up l p f) f) ≡ true)
up_found p b l none w y = absurd (true≢false (sym y))
up_found p b l (node k r ats ch nx) w y =
    let whole = node k r ats ch nx in
    elim (side k l) as (λ s. found (choose s none whole (at l ch) (at l nx)) ≡ true → (choose s p p (up l k ch) (up l p nx) ≡ p) ⊎ (found (at (choose s p p (up l k ch) (up l p nx)) whole) ≡ true)) [
      | above ↦ λ e. absurd (true≢false (sym e))
      | left ↦ λ e. absurd (true≢false (sym e))
      | same ↦ λ _. inl refl
      | under ↦ λ e. ⊎_elim
          (λ h. inr (ap (λ s. found (choose s none whole (at (up l k ch) ch) (at (up l k ch) nx))) (subst (λ v. side k v ≡ same) (sym h) (side_itself k))))
          (λ h. inr (ap (λ s. found (choose s none whole (at (up l k ch) ch) (at (up l k ch) nx))) (found_under k k (up l k ch) ch w.4 h) ∙ h))
          (up_found k k l ch w.4 e)
      | right ↦ λ e. ⊎_elim inl
          (λ h. inr (ap (λ s. found (choose s none whole (at (up l p nx) ch) (at (up l p nx) nx))) (found_right p k (up l p nx) k nx w.5 w.0 (inr refl) h) ∙ h))
          (up_found p k l nx w.5 e)
    ] y

-- the parent of a found node is found
pub parent_found : (q m : Label) (t : Tree) → IsValidTree t → is_label q ≡ true → is_child q m ≡ true → found (at m t.documents) ≡ true → (is_root q ≡ true) ⊎ (found (at q t.documents) ≡ true)
parent_found q m t w i c y =
    let is : up m root t.documents ≡ q = up_parent m t.documents w.keys y ∙ parent_of_child q m i c in
    ⊎_elim (λ e. inl (ap is_root (sym is ∙ e))) (λ e. inr (subst (λ z. found (at z t.documents) ≡ true) is e)) (up_found root root m t.documents w.keys y)

-- the bound of a found node is its left neighbour, or else its parent
pub low_is : (o : Option Label) (p b l : Label) (f : Forest) → b ≡ unwrap_or o p → found (at l f) ≡ true → low l b f ≡ unwrap_or (prev_of o l f) (up l p f)
low_is o p b l none e y = absurd (true≢false (sym y))
low_is o p b l (node m r ats ch nx) e y =
    elim (side m l) as (λ s. found (choose s none (node m r ats ch nx) (at l ch) (at l nx)) ≡ true → choose s b b (low l m ch) (low l m nx) ≡ unwrap_or (choose s None o (prev_of None l ch) (prev_of (Some m) l nx)) (choose s p p (up l m ch) (up l p nx))) [
      | above ↦ λ h. absurd (true≢false (sym h))
      | left ↦ λ h. absurd (true≢false (sym h))
      | same ↦ λ _. e
      | under ↦ λ h. low_is None m m l ch refl h
      | right ↦ λ h. low_is (Some m) p m l nx refl h
    ] y

-- the record over a found node is that of its parent
pub over_is : (q : Option Record) (p b l : Label) (f : Forest) → KeysRise p b f → found (at l f) ≡ true → ((up l p f ≡ p) × (over l q f ≡ q)) ⊎ ((found (at (up l p f) f) ≡ true) × (over l q f ≡ record_of (at (up l p f) f)))
over_is q p b l none w y = absurd (true≢false (sym y))
over_is q p b l (node k r ats ch nx) w y =
    let whole = node k r ats ch nx in
    elim (side k l) as (λ s. found (choose s none whole (at l ch) (at l nx)) ≡ true → (let u = choose s p p (up l k ch) (up l p nx) in let v = choose s q q (over l (Some r) ch) (over l q nx) in ((u ≡ p) × (v ≡ q)) ⊎ ((found (at u whole) ≡ true) × (v ≡ record_of (at u whole))))) [
      | above ↦ λ e. absurd (true≢false (sym e))
      | left ↦ λ e. absurd (true≢false (sym e))
      | same ↦ λ _. inl (refl, refl)
      | under ↦ λ e. ⊎_elim
          (λ h. let here : at (up l k ch) whole ≡ whole = ap (λ s. choose s none whole (at (up l k ch) ch) (at (up l k ch) nx)) (subst (λ v. side k v ≡ same) (sym h.0) (side_itself k)) in inr (ap found here, h.1 ∙ sym (ap record_of here)))
          (λ h. let here : at (up l k ch) whole ≡ at (up l k ch) ch = ap (λ s. choose s none whole (at (up l k ch) ch) (at (up l k ch) nx)) (found_under k k (up l k ch) ch w.4 h.0) in inr (ap found here ∙ h.0, h.1 ∙ sym (ap record_of here)))
          (over_is (Some r) k k l ch w.4 e)
      | right ↦ λ e. ⊎_elim (λ h. inl h)
          (λ h. let here : at (up l p nx) whole ≡ at (up l p nx) nx = ap (λ s. choose s none whole (at (up l p nx) ch) (at (up l p nx) nx)) (found_right p k (up l p nx) k nx w.5 w.0 (inr refl) h.0) in inr (ap found here ∙ h.0, h.1 ∙ sym (ap record_of here)))
          (over_is q p k l nx w.5 e)
    ] y
