-- New labels under the element 1.1001.1001, worked by hand: each row computes.
use Rattle.std.specs.Prelude.{◌≡◌, ℕ, zero, suc, ◌-◌, ◌%◌, Bool, true, false, ◌==◌, List, [], ◌∷◌, ◌++◌, length, Option, Some, None, option_map, option_and_then, refl}
use Rattle.dewey_labels.specs.Labels.{Label, greatest}
use Rattle.dewey_labels.specs.NewLabels.{new_label, new_divisions}

abbrev element : Label
element = 1 ∷ 1001 ∷ 1001 ∷ []

-- the element's child with this code
abbrev child : List ℕ → Label
child c = element ++ c

-- ---- insertions between siblings: each label and its neighbours

first_child : new_label element None None ≡ Some (child (1001 ∷ []))
first_child = refl

second_child : new_label element (Some (child (1001 ∷ []))) None ≡ Some (child (1003 ∷ []))
second_child = refl

between_both : new_label element (Some (child (1001 ∷ []))) (Some (child (1003 ∷ []))) ≡ Some (child (1002 ∷ 1001 ∷ []))
between_both = refl

before_the_third : new_label element (Some (child (1001 ∷ []))) (Some (child (1002 ∷ 1001 ∷ []))) ≡ Some (child (1002 ∷ 999 ∷ []))
before_the_third = refl

behind_the_third : new_label element (Some (child (1002 ∷ 1001 ∷ []))) (Some (child (1003 ∷ []))) ≡ Some (child (1002 ∷ 1003 ∷ []))
behind_the_third = refl

-- ---- the ends: before the first child, and behind the last

before_five : new_label element None (Some (child (5 ∷ []))) ≡ Some (child (3 ∷ []))
before_five = refl

before_three : new_label element None (Some (child (3 ∷ []))) ≡ Some (child (2 ∷ 1001 ∷ []))
before_three = refl

before_four : new_label element None (Some (child (4 ∷ 1001 ∷ []))) ≡ Some (child (3 ∷ []))
before_four = refl

before_two : new_label element None (Some (child (2 ∷ 3 ∷ []))) ≡ Some (child (2 ∷ 2 ∷ 1001 ∷ []))
before_two = refl

behind_an_overflow : new_label element (Some (child (1004 ∷ 7 ∷ []))) None ≡ Some (child (1005 ∷ []))
behind_an_overflow = refl

behind_the_greatest : new_label element (Some (child (greatest ∷ []))) None ≡ None
behind_the_greatest = refl

-- the first child after n inserts before the first child, begun at the code 1001
abbrev first_after : ℕ → Option Label
first_after zero = Some (child (1001 ∷ []))
first_after (suc n) = option_and_then (λ first. new_label element None (Some first)) (first_after n)

many_before : (first_after 499 ≡ Some (child (3 ∷ []))) × (first_after 500 ≡ Some (child (2 ∷ 1001 ∷ [])))
many_before = (refl, refl)

-- ---- a gap that narrows: each insert is in the gap that the last two opened

-- the gap with its left end replaced, or its right one
abbrev narrowed : Bool → Label × Label → Label × Label
narrowed true gap = (new_divisions element (Some gap.0) (Some gap.1), gap.1)
narrowed false gap = (gap.0, new_divisions element (Some gap.0) (Some gap.1))

-- the gap after n inserts, begun between the codes 1001 and 1003
abbrev gap_after : ℕ → Label × Label
gap_after zero = (child (1001 ∷ []), child (1003 ∷ []))
gap_after (suc n) = narrowed (n % 2 == 0) (gap_after n)

-- what the n-th insert answers
abbrev insert_at : ℕ → Option Label
insert_at n = new_label element (Some (gap_after (n - 1)).0) (Some (gap_after (n - 1)).1)

narrow_gap_begins : (insert_at 1 ≡ Some (child (1002 ∷ 1001 ∷ []))) × (insert_at 2 ≡ Some (child (1002 ∷ 1003 ∷ []))) × (insert_at 3 ≡ Some (child (1002 ∷ 1002 ∷ 1001 ∷ [])))
narrow_gap_begins = (refl, refl, refl)

narrow_gap_ends : (option_map length (insert_at 502) ≡ Some 255) × (insert_at 503 ≡ None)
narrow_gap_ends = (refl, refl)
