-- The laws of new labels: each is a child of its parent, lies strictly between its neighbours, and is a label but for the limits.
use Rattle.std.proofs.Common.{◌≡◌, IsTrue, Option, Some, None, ◌≤◌, true, false, if◌then◌else◌, ◌++◌, Less, nat_cmp, refl, sym, ap, subst, ◌∙◌}
use Rattle.std.specs.Cmp.Lexicographic.{slice_cmp}
use Rattle.std.specs.List.{AllByRecursion}
use Rattle.dewey_labels.specs.Labels.{Label, greatest, is_child, is_label, Within, is_within, IsLabel}
use Rattle.dewey_labels.specs.Sides.{right, side, rest}
use Rattle.dewey_labels.specs.NewLabels.{alone, after, before, between, new_divisions, new_label, AreNeighbours}
use Rattle.dewey_labels.specs.inside.Codes.{IsCode}
use Rattle.dewey_labels.proofs.Sides.{cmp_append}
use Rattle.dewey_labels.proofs.Codes.{is_child_append, child_is, child_code, children_right}
use Rattle.dewey_labels.proofs.Labels.{child_label}
use Rattle.dewey_labels.proofs.Limits.{within_of_test, test_of_within}
use Rattle.dewey_labels.proofs.Fill.{all_behind}
use Rattle.dewey_labels.proofs.NewCodes.{after_code, after_behind, before_code, before_ahead, LiesBetween, between_lies}

-- the order of two children of p is that of their codes
pub codes_less : (p l r : Label) → is_child p l ≡ true → is_child p r ≡ true → slice_cmp nat_cmp l r ≡ Less → slice_cmp nat_cmp (rest p l) (rest p r) ≡ Less
codes_less p l r h g less =
    sym (cmp_append p (rest p l) (rest p r))
    ∙ ap (slice_cmp nat_cmp (p ++ rest p l)) (sym (child_is p r g))
    ∙ ap (λ v. slice_cmp nat_cmp v r) (sym (child_is p l h))
    ∙ less

-- behind the same divisions a label is in the order of its code
less_behind : (p l c : Label) → is_child p l ≡ true → slice_cmp nat_cmp (rest p l) c ≡ Less → slice_cmp nat_cmp l (p ++ c) ≡ Less
less_behind p l c h less = ap (λ v. slice_cmp nat_cmp v (p ++ c)) (child_is p l h) ∙ cmp_append p (rest p l) c ∙ less

less_ahead : (p c r : Label) → is_child p r ≡ true → slice_cmp nat_cmp c (rest p r) ≡ Less → slice_cmp nat_cmp (p ++ c) r ≡ Less
less_ahead p c r h less = ap (slice_cmp nat_cmp (p ++ c)) (child_is p r h) ∙ cmp_append p c (rest p r) ∙ less

between_at : (p l r : Label) → AreNeighbours p (Some l) (Some r) → LiesBetween (rest p l) (rest p r) (between (rest p l) (rest p r))
between_at p l r n = between_lies (rest p l) (rest p r) (child_code p l n.0) (child_code p r n.1) (codes_less p l r n.0 n.1 n.2)

pub new_child : (p : Label) (l r : Option Label) → AreNeighbours p l r → is_child p (new_divisions p l r) ≡ true
new_child p None None n = is_child_append p alone refl
new_child p (Some l) None n = is_child_append p (after (rest p l)) (after_code (rest p l) (child_code p l n))
new_child p None (Some r) n = is_child_append p (before (rest p r)) (before_code (rest p r) (child_code p r n))
new_child p (Some l) (Some r) n = is_child_append p (between (rest p l) (rest p r)) (between_at p l r n).code

pub new_behind : (p l : Label) (r : Option Label) → AreNeighbours p (Some l) r → slice_cmp nat_cmp l (new_divisions p (Some l) r) ≡ Less
new_behind p l None n = less_behind p l (after (rest p l)) n (after_behind (rest p l) (child_code p l n))
new_behind p l (Some r) n = less_behind p l (between (rest p l) (rest p r)) n.0 (between_at p l r n).behind

pub new_ahead : (p r : Label) (l : Option Label) → AreNeighbours p l (Some r) → slice_cmp nat_cmp (new_divisions p l (Some r)) r ≡ Less
new_ahead p r None n = less_ahead p (before (rest p r)) r n (before_ahead (rest p r) (child_code p r n))
new_ahead p r (Some l) n = less_ahead p (between (rest p l) (rest p r)) r n.1 (between_at p l r n).ahead

-- ---- the limits

-- the code of a child within the limits
pub code_within : (p l : Label) → is_child p l ≡ true → Within l → IsCode (rest p l)
code_within p l h within =
    (child_code p l h, all_behind (λ d. d ≤ greatest) p (rest p l) (subst (AllByRecursion (λ d. d ≤ greatest)) (child_is p l h) within.1))

-- where no limit is passed, the new label is the parent's divisions and the code; where one is, there is none
pub new_label_within : (p : Label) (l r : Option Label) → Within (new_divisions p l r) → new_label p l r ≡ Some (new_divisions p l r)
new_label_within p l r h =
    let new = new_divisions p l r in
    ap (λ b. if b then Some new else None) (test_of_within new h)

pub new_label_past : (p : Label) (l r : Option Label) → (Within (new_divisions p l r) → ⊥) → new_label p l r ≡ None
new_label_past p l r h =
    let new = new_divisions p l r in
    elim (is_within new) as (λ b. is_within new ≡ b → (if b then Some new else None) ≡ None) [
      | true ↦ λ e. absurd (h (within_of_test new e))
      | false ↦ λ e. refl
    ] refl

pub new_label_is : (p new : Label) (l r : Option Label) → new_label p l r ≡ Some new → (new ≡ new_divisions p l r) × Within new
new_label_is p new l r h =
    let made = new_divisions p l r in
    elim (is_within made) as (λ b. is_within made ≡ b → (if b then Some made else None) ≡ Some new → (new ≡ made) × Within new) [
      | true ↦ λ e s. let same : made ≡ new = cc in (sym same, subst Within same (within_of_test made e))
      | false ↦ λ e s. cc
    ] refl h

-- a new label is a label within the limits
pub new_label_valid : (p new : Label) (l r : Option Label) → is_label p ≡ true → AreNeighbours p l r → new_label p l r ≡ Some new → IsLabel new
new_label_valid p new l r label n h =
    let is = new_label_is p new l r h in
    let child : is_child p new ≡ true = subst (λ v. is_child p v ≡ true) (sym is.0) (new_child p l r n) in
    (child_label p new label child, is.1)

-- ---- its sides

-- on its side of each neighbour: to the right of the left one, and with the right one to its own right
pub new_to_the_right : (p l : Label) (r : Option Label) → AreNeighbours p (Some l) r → side l (new_divisions p (Some l) r) ≡ right
new_to_the_right p l None n = children_right p l _ n (new_child p (Some l) None n) (new_behind p l None n)
new_to_the_right p l (Some r) n = children_right p l _ n.0 (new_child p (Some l) (Some r) n) (new_behind p l (Some r) n)

pub right_of_the_new : (p r : Label) (l : Option Label) → AreNeighbours p l (Some r) → side (new_divisions p l (Some r)) r ≡ right
right_of_the_new p r None n = children_right p _ r (new_child p None (Some r) n) n (new_ahead p r None n)
right_of_the_new p r (Some l) n = children_right p _ r (new_child p (Some l) (Some r) n) n.1 (new_ahead p r (Some l) n)
