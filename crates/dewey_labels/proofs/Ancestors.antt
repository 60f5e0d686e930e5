-- The way from the root down to a label, each of its labels being that of a child of the one before.
use Rattle.std.proofs.Common.{◌≡◌, ◌≢◌, ℕ, zero, suc, ◌+◌, ◌-◌, ◌≤◌, ◌<◌, true, cond, [], ◌∷◌, ◌++◌, Some, None, inl, inr, refl, sym, ap, subst, ◌∙◌, arith}
use Rattle.dewey_labels.specs.Labels.{Label, root, is_label, is_child, parent, level, cut}
use Rattle.dewey_labels.specs.Ancestors.{cuts, ancestors, Descends, IsWayDown}
use Rattle.dewey_labels.specs.Sides.{side, is_under, is_in, rest, first_code, child_toward}
use Rattle.dewey_labels.proofs.Labels.{root_or_child, is_label-parent, child_of_parent, level_of_child, is_ancestor_is}
use Rattle.dewey_labels.proofs.Codes.{cut_in}
use Rattle.dewey_labels.proofs.Sides.{side_itself, ancestor_under, under_is_in}

pub is_label-cut : (n : ℕ) (l : Label) → is_label l ≡ true → is_label (cut n l) ≡ true
is_label-cut zero l h = h
is_label-cut (suc n) l h = is_label-parent (cut n l) (is_label-cut n l h)

below_root : (l : Label) → 0 < level l → l ≢ root
below_root l n e = omega (arith, ap level e)

-- each code that is cut off is a level less
pub level-cut : (n : ℕ) (l : Label) → is_label l ≡ true → n ≤ level l → level (cut n l) + n ≡ level l
level-cut zero l h m = omega arith
level-cut (suc n) l h m =
    let k = cut n l in
    let up = level-cut n l h (omega arith) in
    let i = is_label-cut n l h in
    let some : 0 < level k = omega arith in
    let down = level_of_child (parent k) k (is_label-parent k i) (child_of_parent k i (below_root k some)) in
    omega arith

pub child-cut : (n : ℕ) (l : Label) → is_label l ≡ true → n < level l → is_child (cut (suc n) l) (cut n l) ≡ true
child-cut n l h m =
    let there = level-cut n l h (omega arith) in
    child_of_parent (cut n l) (is_label-cut n l h) (below_root (cut n l) (omega arith))

is_root : (l : Label) → is_label l ≡ true → level l ≡ 0 → l ≡ root
is_root l h z =
    elim (root_or_child l h) [
      | inl e ↦ e
      | inr at ↦ absurd (omega (arith, level_of_child at.above l at.is_above at.is_below))
    ]

-- with all codes cut off the root is left
pub cut_all : (l : Label) → is_label l ≡ true → cut (level l) l ≡ root
cut_all l h =
    let none = level-cut (level l) l h (omega arith) in
    is_root (cut (level l) l) (is_label-cut (level l) l h) (omega arith)

under-cut : (n : ℕ) (l : Label) → is_label l ≡ true → n < level l → is_under (side (cut (suc n) l) l) ≡ true
under-cut n l h m =
    sym (ancestor_under (cut (suc n) l) l) ∙ (is_ancestor_is (cut (suc n) l) l (is_label-cut (suc n) l h) h).1 (suc n, omega arith, omega arith, refl)

in-cut : (n : ℕ) (l : Label) → is_label l ≡ true → n ≤ level l → is_in (side (cut n l) l) ≡ true
in-cut zero l h m = ap is_in (side_itself l)
in-cut (suc n) l h m = under_is_in (side (cut (suc n) l) l) (under-cut n l h (omega arith))

-- the next label on the way
pub toward-cut : (n : ℕ) (l : Label) → is_label l ≡ true → n < level l → child_toward (cut (suc n) l) l ≡ Some (cut n l)
toward-cut n l h m =
    let p = cut (suc n) l in
    ap (λ b. cond b (Some (p ++ first_code (rest p l))) None) (under-cut n l h m) ∙ ap Some (cut_in p (cut n l) l (child-cut n l h m) (in-cut n l h (omega arith)))

-- the label itself ends the way
pub toward_itself : (l : Label) → child_toward l l ≡ None
toward_itself l = ap (λ s. cond (is_under s) (Some (l ++ first_code (rest l l))) None) (side_itself l)

descends : (n : ℕ) (l : Label) → is_label l ≡ true → n < level l → Descends (cut (suc n) l) (cuts n l ++ l ∷ [])
descends zero l h m = (child-cut zero l h m, tt)
descends (suc n) l h m = (child-cut (suc n) l h m, descends n l h (omega arith))

-- the ancestors and the label are a way down
pub way_down : (l : Label) → is_label l ≡ true → IsWayDown (ancestors l ++ l ∷ [])
way_down l h =
    elim (level l) as (λ n. level l ≡ n → IsWayDown (cuts n l ++ l ∷ [])) [
      | zero ↦ λ e. (is_root l h e, tt)
      | suc n ↦ λ e. (ap (λ k. cut k l) (sym e) ∙ cut_all l h, descends n l h (omega arith))
    ] refl

-- ---- a step on the way, `n` levels above the label

pub not_there_yet : (n : ℕ) (l next : Label) → child_toward (cut n l) l ≡ Some next → 1 ≤ n
not_there_yet zero l next e = absurd (some_is_not_none (sym e ∙ toward_itself l))
  where
    some_is_not_none : Some next ≡ None → ⊥
    some_is_not_none e = cc
not_there_yet (suc n) l next e = omega arith

pub next_is : (n : ℕ) (l next : Label) → is_label l ≡ true → n ≤ level l → child_toward (cut n l) l ≡ Some next → next ≡ cut (n - 1) l
next_is zero l next h m e = absurd (omega (arith, not_there_yet zero l next e))
next_is (suc n) l next h m e =
    let there : Some (cut n l) ≡ Some next = sym (toward-cut n l h (omega arith)) ∙ e in
    let below : suc n - 1 ≡ n = omega arith in
    subst (λ k. next ≡ cut k l) (sym below) (cc)

pub arrived : (n : ℕ) (l : Label) → is_label l ≡ true → n ≤ level l → child_toward (cut n l) l ≡ None → n ≡ 0
arrived zero l h m e = refl
arrived (suc n) l h m e = absurd (some_is_not_none (sym (toward-cut n l h (omega arith)) ∙ e))
  where
    some_is_not_none : Some (cut n l) ≡ None → ⊥
    some_is_not_none e = cc
