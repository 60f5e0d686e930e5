-- The laws of sides: what they say of the order of labels, and how sides of parts and of wholes go together.
use Rattle.std.proofs.Common.{◌≡◌, ℕ, Bool, true, false, ◌&&◌, ◌==◌, [], ◌∷◌, ◌++◌, Ordering, Less, Equal, Greater, nat_cmp, arith, refl, sym, ap, subst, ◌∙◌, append-nil}
use Rattle.std.proofs.lemmas.Bool.Decides.{nat_tests}
use Rattle.std.specs.Ordering.{ordering_reverse, ordering_then}
use Rattle.std.specs.Cmp.{nat_cmp_total, ranked, tied_itself}
use Rattle.std.specs.Cmp.Lexicographic.{slice_cmp, nat_list_cmp_total}
use Rattle.dewey_labels.specs.Labels.{Label, is_ancestor}
use Rattle.dewey_labels.specs.Sides.{Side, above, left, same, under, right, turn, side, is_under, is_in, ahead, rest}

-- ---- the order of divisions

pub equal_is : (x y : ℕ) → nat_cmp x y ≡ Equal → x ≡ y
equal_is x y e = ranked x y Equal (sym e)

pub cmp_itself : (x : ℕ) → nat_cmp x x ≡ Equal
cmp_itself x = tied_itself nat_cmp_total x

-- what begins alike is in the order of what follows
pub cmp_append : (l v w : Label) → slice_cmp nat_cmp (l ++ v) (l ++ w) ≡ slice_cmp nat_cmp v w
cmp_append [] v w = refl
cmp_append (x ∷ l) v w =
    ap (λ o. ordering_then o (slice_cmp nat_cmp (l ++ v) (l ++ w))) (cmp_itself x) ∙ cmp_append l v w

-- ---- a side settles the order, against all that begins with the label

pub left_before : (l k w : Label) → side l k ≡ left → slice_cmp nat_cmp k (l ++ w) ≡ Less
left_before [] [] w h = cc
left_before [] (y ∷ k) w h = cc
left_before (x ∷ l) [] w h = refl
left_before (x ∷ l) (y ∷ k) w h =
    elim (nat_cmp y x) as (λ o. turn o (side l k) ≡ left → ordering_then o (slice_cmp nat_cmp k (l ++ w)) ≡ Less) [
      | Less ↦ λ _. refl
      | Equal ↦ λ e. left_before l k w e
      | Greater ↦ λ e. cc
    ] h

pub above_before : (l k w : Label) → side l k ≡ above → slice_cmp nat_cmp k (l ++ w) ≡ Less
above_before [] [] w h = cc
above_before [] (y ∷ k) w h = cc
above_before (x ∷ l) [] w h = refl
above_before (x ∷ l) (y ∷ k) w h =
    elim (nat_cmp y x) as (λ o. turn o (side l k) ≡ above → ordering_then o (slice_cmp nat_cmp k (l ++ w)) ≡ Less) [
      | Less ↦ λ e. cc
      | Equal ↦ λ e. above_before l k w e
      | Greater ↦ λ e. cc
    ] h

pub ahead_before : (l k w : Label) → ahead (side l k) ≡ true → slice_cmp nat_cmp k (l ++ w) ≡ Less
ahead_before l k w h =
    elim (side l k) as (λ s. side l k ≡ s → ahead s ≡ true → slice_cmp nat_cmp k (l ++ w) ≡ Less) [
      | above ↦ λ s _. above_before l k w s
      | left ↦ λ s _. left_before l k w s
      | same ↦ λ _ e. cc
      | under ↦ λ _ e. cc
      | right ↦ λ _ e. cc
    ] refl h

pub right_behind : (l k w : Label) → side l k ≡ right → slice_cmp nat_cmp k (l ++ w) ≡ Greater
right_behind [] [] w h = cc
right_behind [] (y ∷ k) w h = cc
right_behind (x ∷ l) [] w h = cc
right_behind (x ∷ l) (y ∷ k) w h =
    elim (nat_cmp y x) as (λ o. turn o (side l k) ≡ right → ordering_then o (slice_cmp nat_cmp k (l ++ w)) ≡ Greater) [
      | Less ↦ λ e. cc
      | Equal ↦ λ e. right_behind l k w e
      | Greater ↦ λ e. refl
    ] h

-- the label itself comes before what lies to its right
pub right_before : (l k : Label) → side l k ≡ right → slice_cmp nat_cmp l k ≡ Less
right_before l k h =
    nat_list_cmp_total.antisymm l k ∙ ap ordering_reverse (subst (λ v. slice_cmp nat_cmp k v ≡ Greater) (append-nil l) (right_behind l k [] h))

-- ---- one label seen from the other

pub side_itself : (l : Label) → side l l ≡ same
side_itself [] = refl
side_itself (x ∷ l) = ap (λ o. turn o (side l l)) (cmp_itself x) ∙ side_itself l

pub same_is : (l k : Label) → side l k ≡ same → k ≡ l
same_is [] [] h = refl
same_is [] (y ∷ k) h = cc
same_is (x ∷ l) [] h = cc
same_is (x ∷ l) (y ∷ k) h =
    elim (nat_cmp y x) as (λ o. nat_cmp y x ≡ o → turn o (side l k) ≡ same → y ∷ k ≡ x ∷ l) [
      | Less ↦ λ _ e. cc
      | Equal ↦ λ q e i. equal_is y x q i ∷ same_is l k e i
      | Greater ↦ λ _ e. cc
    ] refl h

-- what lies under a label lies in its subtree
pub under_is_in : (s : Side) → is_under s ≡ true → is_in s ≡ true
under_is_in Side.above h = cc
under_is_in Side.left h = cc
under_is_in Side.same h = cc
under_is_in Side.under h = refl
under_is_in Side.right h = cc

-- what lies in a label's subtree begins with that label
pub in_is : (l k : Label) → is_in (side l k) ≡ true → k ≡ l ++ rest l k
in_is [] [] h = refl
in_is [] (y ∷ k) h = refl
in_is (x ∷ l) [] h = cc
in_is (x ∷ l) (y ∷ k) h =
    elim (nat_cmp y x) as (λ o. nat_cmp y x ≡ o → is_in (turn o (side l k)) ≡ true → y ∷ k ≡ x ∷ (l ++ rest l k)) [
      | Less ↦ λ _ e. cc
      | Equal ↦ λ q e i. equal_is y x q i ∷ in_is l k e i
      | Greater ↦ λ _ e. cc
    ] refl h

pub under_above : (l k : Label) → side l k ≡ under → side k l ≡ above
under_above [] [] h = cc
under_above [] (y ∷ k) h = refl
under_above (x ∷ l) [] h = cc
under_above (x ∷ l) (y ∷ k) h =
    elim (nat_cmp y x) as (λ o. nat_cmp x y ≡ ordering_reverse o → turn o (side l k) ≡ under → turn (nat_cmp x y) (side k l) ≡ above) [
      | Less ↦ λ _ e. cc
      | Equal ↦ λ q e. ap (λ o. turn o (side k l)) q ∙ under_above l k e
      | Greater ↦ λ _ e. cc
    ] (nat_cmp_total.antisymm x y) h

-- so what lies under a label comes behind it
pub under_before : (l k : Label) → side l k ≡ under → slice_cmp nat_cmp l k ≡ Less
under_before l k h = subst (λ v. slice_cmp nat_cmp l v ≡ Less) (append-nil k) (above_before k l [] (under_above l k h))

-- what lies under a label is what that label is an ancestor of
pub ancestor_under : (a l : Label) → is_ancestor a l ≡ is_under (side a l)
ancestor_under [] [] = refl
ancestor_under [] (y ∷ l) = refl
ancestor_under (x ∷ a) [] = refl
ancestor_under (x ∷ a) (y ∷ l) =
    let by : (b : Bool) → (x == y) ≡ b → is_ancestor (x ∷ a) (y ∷ l) ≡ (b && is_ancestor a l) = λ b e. ap (λ b. b && is_ancestor a l) e in
    elim (nat_cmp y x) as (λ o. nat_cmp y x ≡ o → is_ancestor (x ∷ a) (y ∷ l) ≡ is_under (turn o (side a l))) [
      | Less ↦ λ q. by false (grind (arith, nat_tests))
      | Equal ↦ λ q. by true (grind (arith, nat_tests)) ∙ ancestor_under a l
      | Greater ↦ λ q. by false (grind (arith, nat_tests))
    ] refl

-- ---- labels that begin alike

pub side_append : (l w k : Label) → side (l ++ w) (l ++ k) ≡ side w k
side_append [] w k = refl
side_append (x ∷ l) w k = ap (λ o. turn o (side (l ++ w) (l ++ k))) (cmp_itself x) ∙ side_append l w k

pub in_append : (l w : Label) → is_in (side l (l ++ w)) ≡ true
in_append [] [] = refl
in_append [] (y ∷ w) = refl
in_append (x ∷ l) w = ap (λ o. is_in (turn o (side l (l ++ w)))) (cmp_itself x) ∙ in_append l w

pub under_append : (l w : Label) (d : ℕ) → side l (l ++ (d ∷ w)) ≡ under
under_append [] w d = refl
under_append (x ∷ l) w d = ap (λ o. turn o (side l (l ++ (d ∷ w)))) (cmp_itself x) ∙ under_append l w d

pub above_append : (l w : Label) (d : ℕ) → side (l ++ (d ∷ w)) l ≡ above
above_append [] w d = refl
above_append (x ∷ l) w d = ap (λ o. turn o (side (l ++ (d ∷ w)) l)) (cmp_itself x) ∙ above_append l w d

-- ---- what lies apart stays apart in all that begins with it

pub right_apart : (l k v w : Label) → side l k ≡ right → side (l ++ v) (k ++ w) ≡ right
right_apart [] [] v w h = cc
right_apart [] (y ∷ k) v w h = cc
right_apart (x ∷ l) [] v w h = cc
right_apart (x ∷ l) (y ∷ k) v w h =
    elim (nat_cmp y x) as (λ o. turn o (side l k) ≡ right → turn o (side (l ++ v) (k ++ w)) ≡ right) [
      | Less ↦ λ e. cc
      | Equal ↦ λ e. right_apart l k v w e
      | Greater ↦ λ _. refl
    ] h

pub left_apart : (l k v w : Label) → side l k ≡ right → side (k ++ w) (l ++ v) ≡ left
left_apart [] [] v w h = cc
left_apart [] (y ∷ k) v w h = cc
left_apart (x ∷ l) [] v w h = cc
left_apart (x ∷ l) (y ∷ k) v w h =
    let turned : (o : Ordering) → nat_cmp x y ≡ o → turn (nat_cmp x y) (side (k ++ w) (l ++ v)) ≡ turn o (side (k ++ w) (l ++ v)) =
    λ o q. ap (λ o. turn o (side (k ++ w) (l ++ v))) q in
    elim (nat_cmp y x) as (λ o. nat_cmp x y ≡ ordering_reverse o → turn o (side l k) ≡ right → turn (nat_cmp x y) (side (k ++ w) (l ++ v)) ≡ left) [
      | Less ↦ λ _ e. cc
      | Equal ↦ λ q e. turned Equal q ∙ left_apart l k v w e
      | Greater ↦ λ q e. turned Less q
    ] (nat_cmp_total.antisymm x y) h

-- of two labels in the subtrees of m and n, n being to the right of m
pub right_within : (m n l k : Label) → side m n ≡ right → is_in (side m l) ≡ true → is_in (side n k) ≡ true → side l k ≡ right
right_within m n l k h a b =
    subst (λ x. side x k ≡ right) (sym (in_is m l a)) (subst (λ y. side (m ++ rest m l) y ≡ right) (sym (in_is n k b)) (right_apart m n (rest m l) (rest n k) h))

pub left_within : (m n l k : Label) → side m n ≡ right → is_in (side m l) ≡ true → is_in (side n k) ≡ true → side k l ≡ left
left_within m n l k h a b =
    subst (λ x. side k x ≡ left) (sym (in_is m l a)) (subst (λ y. side y (m ++ rest m l) ≡ left) (sym (in_is n k b)) (left_apart m n (rest m l) (rest n k) h))

-- ---- from one to the next: what lies in the subtree of n lies under what n lies under
pub in_under : (p n k : Label) → side p n ≡ under → is_in (side n k) ≡ true → side p k ≡ under
in_under [] [] k h b = cc
in_under [] (y ∷ n) [] h b = cc
in_under [] (y ∷ n) (z ∷ k) h b = refl
in_under (x ∷ p) [] k h b = cc
in_under (x ∷ p) (y ∷ n) [] h b = cc
in_under (x ∷ p) (y ∷ n) (z ∷ k) h b =
    elim (nat_cmp y x) as (λ o. nat_cmp y x ≡ o → turn o (side p n) ≡ under → turn (nat_cmp z x) (side p k) ≡ under) [
      | Less ↦ λ _ e. cc
      | Equal ↦ λ q e. elim (nat_cmp z y) as (λ u. nat_cmp z y ≡ u → is_in (turn u (side n k)) ≡ true → turn (nat_cmp z x) (side p k) ≡ under) [
        | Less ↦ λ _ c. cc
        | Equal ↦ λ t c. ap (λ o. turn o (side p k)) (ap (λ v. nat_cmp v x) (equal_is z y t) ∙ q) ∙ in_under p n k e c
        | Greater ↦ λ _ c. cc
      ] refl b
      | Greater ↦ λ _ e. cc
    ] refl h

-- and what lies to the right of what lies to the right, lies there too
pub right_on : (a b c : Label) → side a b ≡ right → side b c ≡ right → side a c ≡ right
right_on [] [] c h g = cc
right_on [] (y ∷ b) c h g = cc
right_on (x ∷ a) [] c h g = cc
right_on (x ∷ a) (y ∷ b) [] h g = cc
right_on (x ∷ a) (y ∷ b) (z ∷ c) h g =
    let turned : (o : Ordering) → nat_cmp z x ≡ o → turn (nat_cmp z x) (side a c) ≡ turn o (side a c) =
    λ o q. ap (λ o. turn o (side a c)) q in
    elim (nat_cmp y x) as (λ o. nat_cmp y x ≡ o → turn o (side a b) ≡ right → turn (nat_cmp z x) (side a c) ≡ right) [
      | Less ↦ λ _ e. cc
      | Equal ↦ λ q e. elim (nat_cmp z y) as (λ u. nat_cmp z y ≡ u → turn u (side b c) ≡ right → turn (nat_cmp z x) (side a c) ≡ right) [
        | Less ↦ λ _ d. cc
        | Equal ↦ λ t d. turned Equal (ap (λ v. nat_cmp v x) (equal_is z y t) ∙ q) ∙ right_on a b c e d
        | Greater ↦ λ t d. turned Greater (ap (nat_cmp z) (sym (equal_is y x q)) ∙ t)
      ] refl g
      | Greater ↦ λ q e. elim (nat_cmp z y) as (λ u. nat_cmp z y ≡ u → turn u (side b c) ≡ right → turn (nat_cmp z x) (side a c) ≡ right) [
        | Less ↦ λ _ d. cc
        | Equal ↦ λ t d. turned Greater (ap (λ v. nat_cmp v x) (equal_is z y t) ∙ q)
        | Greater ↦ λ t d. turned Greater (further x y z q t)
      ] refl g
    ] refl h
  where
    further : (x y z : ℕ) → nat_cmp y x ≡ Greater → nat_cmp z y ≡ Greater → nat_cmp z x ≡ Greater
    further x y z q t =
        nat_cmp_total.antisymm z x ∙ ap ordering_reverse (nat_cmp_total.trans x y z (nat_cmp_total.antisymm x y ∙ ap ordering_reverse q) (nat_cmp_total.antisymm y z ∙ ap ordering_reverse t))
