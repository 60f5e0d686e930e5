-- A valid fragment within the limits is a valid tree below the label that it is grafted at.
use Rattle.std.proofs.Common.{◌≡◌, ℕ, ◌+◌, ◌≤◌, ◌%◌, suc, Bool, true, false, cond, ◌&&◌, ◌==◌, nat_le, nat_lt, true≢false, List, [], ◌∷◌, ◌++◌, length, Some, Less, Equal, Greater, nat_cmp, refl, sym, ap, ◌∙◌, arith, length-append}
use Rattle.std.proofs.lemmas.Bool.Decides.{nat_tests}
use Rattle.std.specs.Ordering.{ordering_then}
use Rattle.std.specs.Cmp.Lexicographic.{slice_cmp}
use Rattle.std.specs.List.{list_all}
use Rattle.dewey_labels.specs.Labels.{Label, greatest, most_divisions, is_odd, is_code, is_child, is_label, level, is_within}
use Rattle.dewey_labels.proofs.Sides.{cmp_append, under_before}
use Rattle.dewey_labels.proofs.Labels.{level_of_child, child_label}
use Rattle.dewey_labels.proofs.Limits.{within_of_test}
use Rattle.dewey_labels.proofs.Codes.{eq_is, first_of_both, second_of_both, code_cases, is_child_append, child_under}
use Rattle.tree_model.specs.declared.record.Record.TheVariants.{Element}
use Rattle.tree_model.specs.Limits.{deepest_level}
use Rattle.tree_model.specs.Names.{Name}
use Rattle.tree_model.specs.Tree.{Forest, none}
use Rattle.tree_model.specs.ValidTrees.{KeysRise, KindsAllowed, LimitsKept}
use Rattle.tree_model.specs.Fragments.{Fragments, no_more, element, text, IsValid, depth}
use Rattle.dewey_labels.specs.NewLabels.{first_division}
use Rattle.tree_model.specs.Graft.{graft_below, graft, all_within}
use Rattle.tree_model.specs.GraftLimits.{fit_below, fit_at}

-- ---- the codes 1001, 1003 and so on

-- the division is a code by itself
abbrev pub IsOneCode : ℕ → Type 0
IsOneCode c = is_code (c ∷ []) ≡ true

code_after : (c : ℕ) → IsOneCode c → IsOneCode (c + 2)
code_after c h = code_cases c [] h (λ o t _. both (odd_step o) (three t)) (λ _ _ e. absurd (true≢false (sym e)))
  where
    odd_step : is_odd c ≡ true → is_odd (c + 2) ≡ true
    odd_step o = let m : c % 2 ≡ 1 = eq_is _ _ o in let e : (c + 2) % 2 ≡ 1 = omega arith in grind (arith, nat_tests)

    three : nat_le 3 c ≡ true → nat_le 3 (c + 2) ≡ true
    three t = grind (arith, nat_tests)

    both : is_odd (c + 2) ≡ true → nat_le 3 (c + 2) ≡ true → IsOneCode (c + 2)
    both o t = (λ i. cond (o i) (t i && true) (nat_le 2 (c + 2) && false))

child_before : (p : Label) (c : ℕ) → slice_cmp nat_cmp (p ++ (c ∷ [])) (p ++ ((c + 2) ∷ [])) ≡ Less
child_before p c = cmp_append p (c ∷ []) ((c + 2) ∷ []) ∙ (let less : nat_lt c (c + 2) ≡ true = grind (arith, nat_tests) in ap (λ t. ordering_then (cond t Less (cond (c == c + 2) Equal Greater)) Equal) less)

-- ---- keys

-- keys of children that are placed
pub keys-graft_below : (p b : Label) (c : ℕ) (f : Fragments) → IsOneCode c → slice_cmp nat_cmp b (p ++ (c ∷ [])) ≡ Less → all_within (graft_below p c f) ≡ true → IsValid f → KeysRise p b (graft_below p c f)
keys-graft_below p b c no_more o lt h w = tt
keys-graft_below p b c (element n ats ch nx) o lt h w =
    let l = p ++ (c ∷ []) in
    let rest_within = second_of_both (is_within l) _ h in
    let below_l : slice_cmp nat_cmp l (l ++ (first_division ∷ [])) ≡ Less = under_before l _ (child_under l _ (is_child_append l (first_division ∷ []) refl)) in
    (is_child_append p (c ∷ []) o, lt, within_of_test l (first_of_both _ _ h), w.1, keys-graft_below l l first_division ch refl below_l (first_of_both _ _ rest_within) w.3, keys-graft_below p l (c + 2) nx (code_after c o) (child_before p c) (second_of_both (all_within (graft_below l first_division ch)) _ rest_within) w.4)
keys-graft_below p b c (text t nx) o lt h w =
    let l = p ++ (c ∷ []) in
    (is_child_append p (c ∷ []) o, lt, within_of_test l (first_of_both _ _ h), tt, tt, keys-graft_below p l (c + 2) nx (code_after c o) (child_before p c) (second_of_both (is_within l) _ h) w.1)

-- keys of one tree that is placed before others
pub keys-graft : (p b l : Label) (f : Fragments) (behind : Forest) → is_child p l ≡ true → slice_cmp nat_cmp b l ≡ Less → all_within (graft l f none) ≡ true → IsValid f → KeysRise p b behind → KeysRise p l behind → KeysRise p b (graft l f behind)
keys-graft p b l no_more behind c lt h w v u = v
keys-graft p b l (element n ats ch nx) behind c lt h w v u =
    let rest_within = second_of_both (is_within l) _ h in
    let below_l : slice_cmp nat_cmp l (l ++ (first_division ∷ [])) ≡ Less = under_before l _ (child_under l _ (is_child_append l (first_division ∷ []) refl)) in
    (c, lt, within_of_test l (first_of_both _ _ h), w.1, keys-graft_below l l first_division ch refl below_l (first_of_both _ _ rest_within) w.3, u)
keys-graft p b l (text t nx) behind c lt h w v u = (c, lt, within_of_test l (first_of_both _ _ h), tt, tt, u)

-- ---- kinds

-- their kinds, below an element
pub kinds-graft_below : (n : Name) (p : Label) (c : ℕ) (f : Fragments) → KindsAllowed (Some (Element n)) (graft_below p c f)
kinds-graft_below n p c no_more = tt
kinds-graft_below n p c (element m ats ch nx) = (refl, refl, refl, kinds-graft_below m (p ++ (c ∷ [])) first_division ch, kinds-graft_below n p (c + 2) nx)
kinds-graft_below n p c (text t nx) = (refl, refl, refl, tt, kinds-graft_below n p (c + 2) nx)

-- ---- limits

child_of : (p : Label) (c : ℕ) → IsOneCode c → is_label p ≡ true → (level (p ++ (c ∷ [])) ≡ level p + 1) × (is_label (p ++ (c ∷ [])) ≡ true)
child_of p c o h = let k = is_child_append p (c ∷ []) o in (level_of_child p (p ++ (c ∷ [])) h k, child_label p (p ++ (c ∷ [])) h k)

-- their levels, names and texts
pub limits-graft_below : (p : Label) (c : ℕ) (f : Fragments) → IsOneCode c → is_label p ≡ true → level p + depth f ≤ deepest_level → IsValid f → LimitsKept (graft_below p c f)
limits-graft_below p c no_more o k h w = tt
limits-graft_below p c (element n ats ch nx) o k h w =
    let l = p ++ (c ∷ []) in
    let at_l = child_of p c o k in
    let is_level : level l ≡ level p + 1 = at_l.0 in
    (omega arith, w.0, w.2, limits-graft_below l first_division ch refl at_l.1 (omega arith) w.3, limits-graft_below p (c + 2) nx (code_after c o) k (omega arith) w.4)
limits-graft_below p c (text t nx) o k h w =
    let at_l = child_of p c o k in
    let is_level : level (p ++ (c ∷ [])) ≡ level p + 1 = at_l.0 in
    (omega arith, w.0, tt, tt, limits-graft_below p (c + 2) nx (code_after c o) k (omega arith) w.1)

-- those of one tree
pub limits-graft : (p l : Label) (f : Fragments) (behind : Forest) → level l ≡ level p + 1 → is_label l ≡ true → level p + depth f ≤ deepest_level → IsValid f → LimitsKept behind → LimitsKept (graft l f behind)
limits-graft p l no_more behind e k h w v = v
limits-graft p l (element n ats ch nx) behind e k h w v = (omega arith, w.0, w.2, limits-graft_below l first_division ch refl k (omega arith) w.3, v)
limits-graft p l (text t nx) behind e k h w v = (omega arith, w.0, tt, tt, v)

-- ---- the test on a forest is the one on the fragments

all-append : (q : ℕ → Bool) (xs ys : List ℕ) → list_all q xs ≡ true → list_all q (xs ++ ys) ≡ list_all q ys
all-append q [] ys h = refl
all-append q (x ∷ xs) ys h = ap (λ b. b && list_all q (xs ++ ys)) (first_of_both (q x) (list_all q xs) h) ∙ all-append q xs ys (second_of_both (q x) _ h)

pub and_true : (b : Bool) → (b && true) ≡ b
and_true true = refl
and_true false = refl

length_of_child : (p : Label) (c : ℕ) → length (p ++ (c ∷ [])) ≡ suc (length p)
length_of_child p c = omega (arith, length-append p (c ∷ []))

within_child : (p : Label) (c : ℕ) → is_within p ≡ true → is_within (p ++ (c ∷ [])) ≡ (nat_lt (length p) most_divisions && nat_le c greatest)
within_child p c h =
    let last : list_all (λ d. nat_le d greatest) (p ++ (c ∷ [])) ≡ nat_le c greatest = all-append (λ d. nat_le d greatest) p (c ∷ []) (second_of_both (nat_le (length p) most_divisions) _ h) ∙ and_true (nat_le c greatest) in
    λ i. nat_le (length_of_child p c i) most_divisions && last i

-- below a label within the limits
pub fits-graft_below : (p : Label) (c : ℕ) (f : Fragments) → is_within p ≡ true → all_within (graft_below p c f) ≡ fit_below (length p) c f
fits-graft_below p c no_more h = refl
fits-graft_below p c (element n ats ch nx) h =
    let l = p ++ (c ∷ []) in
    let fits : Bool = nat_lt (length p) most_divisions && nat_le c greatest in
    elim (is_within l) as (λ b. is_within l ≡ b → (b && (all_within (graft_below l first_division ch) && all_within (graft_below p (c + 2) nx))) ≡ (fits && (fit_below (length p + 1) first_division ch && fit_below (length p) (c + 2) nx))) [
      | true ↦ λ q. λ i. (sym q ∙ within_child p c h) i && (below l (length_of_child p c) (fits-graft_below l first_division ch q) i && fits-graft_below p (c + 2) nx h i)
      | false ↦ λ q. ap (λ b. b && (fit_below (length p + 1) first_division ch && fit_below (length p) (c + 2) nx)) (sym q ∙ within_child p c h)
    ] refl
  where
    below : (l : Label) → length l ≡ suc (length p) → all_within (graft_below l first_division ch) ≡ fit_below (length l) first_division ch → all_within (graft_below l first_division ch) ≡ fit_below (length p + 1) first_division ch
    below l e again = let longer : length l ≡ length p + 1 = omega arith in again ∙ ap (λ n. fit_below n first_division ch) longer
fits-graft_below p c (text t nx) h = λ i. within_child p c h i && fits-graft_below p (c + 2) nx h i

-- at a label within the limits
pub fits-graft : (l : Label) (f : Fragments) → is_within l ≡ true → all_within (graft l f none) ≡ fit_at (length l) f
fits-graft l no_more h = refl
fits-graft l (element n ats ch nx) h = ap (λ b. b && (all_within (graft_below l first_division ch) && true)) h ∙ and_true (all_within (graft_below l first_division ch)) ∙ fits-graft_below l first_division ch h
fits-graft l (text t nx) h = ap (λ b. b && true) h
