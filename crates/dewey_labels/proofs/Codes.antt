-- The laws of codes: where children lie, and how a label is cut into its parent's divisions and a code.
use Rattle.std.proofs.Common.{◌≡◌, ℕ, Bool, true, false, true≢false, cond, ◌&&◌, nat_le, ◌==◌, List, [], ◌∷◌, ◌++◌, length, drop, ◌≤◌, Less, Equal, Greater, nat_cmp, arith, refl, sym, ap, subst, ◌∙◌}
use Rattle.std.proofs.lemmas.Bool.Decides.{nat_tests}
use Rattle.std.specs.Ordering.{ordering_reverse, ordering_then}
use Rattle.std.specs.Cmp.{nat_cmp_total}
use Rattle.std.specs.Cmp.Lexicographic.{slice_cmp}
use Rattle.dewey_labels.specs.Labels.{Label, is_odd, is_code, is_child, parent}
use Rattle.dewey_labels.specs.Sides.{under, right, turn, side, is_in, rest, first_code}
use Rattle.dewey_labels.proofs.Sides.{equal_is, cmp_itself, in_is}
use Rattle.dewey_labels.specs.Lists.{is_empty}

-- ---- tests

pub first_of_both : (a b : Bool) → (a && b) ≡ true → a ≡ true
first_of_both true b h = refl
first_of_both false b h = cc

pub second_of_both : (a b : Bool) → (a && b) ≡ true → b ≡ true
second_of_both true b h = h
second_of_both false b h = cc

and_false : (b : Bool) → (b && false) ≡ false
and_false true = refl
and_false false = refl

pub eq_is : (x y : ℕ) → (x == y) ≡ true → x ≡ y
eq_is x y h = grind (arith, nat_tests)

pub eq_itself : (x : ℕ) → (x == x) ≡ true
eq_itself x = grind (arith, nat_tests)

pub eq_cmp : (x y : ℕ) → (x == y) ≡ true → nat_cmp y x ≡ Equal
eq_cmp x y h = subst (λ z. nat_cmp z x ≡ Equal) (eq_is x y h) (cmp_itself x)

empty_is : (l : List ℕ) → is_empty l ≡ true → l ≡ []
empty_is [] h = refl
empty_is (d ∷ l) h = cc

-- ---- codes

-- a code by its first division: odd, or even with a code behind it
pub code_cases : {C : Type 0} (d : ℕ) (ds : List ℕ) → is_code (d ∷ ds) ≡ true → (is_odd d ≡ true → nat_le 3 d ≡ true → ds ≡ [] → C) → (is_odd d ≡ false → nat_le 2 d ≡ true → is_code ds ≡ true → C) → C
code_cases {C = C} d ds h last on =
    elim (is_odd d) as (λ b. is_odd d ≡ b → cond b (nat_le 3 d && is_empty ds) (nat_le 2 d && is_code ds) ≡ true → C) [
      | true ↦ λ o g. last o (first_of_both _ _ g) (empty_is ds (second_of_both (nat_le 3 d) _ g))
      | false ↦ λ o g. on o (first_of_both _ _ g) (second_of_both (nat_le 2 d) _ g)
    ] refl h

-- where two codes end, neither comes before the other
pub none_less : {C : Type 0} (a b : List ℕ) → a ≡ [] → b ≡ [] → slice_cmp nat_cmp a b ≡ Less → C
none_less [] [] p q e = cc
none_less (x ∷ a) b p q e = cc
none_less [] (y ∷ b) p q e = cc

code_under : (l : List ℕ) → is_code l ≡ true → side [] l ≡ under
code_under [] h = cc
code_under (d ∷ l) h = refl

-- no code is the beginning of another one, so of two codes the later one lies to the right
pub codes_right : (a b : List ℕ) → is_code a ≡ true → is_code b ≡ true → slice_cmp nat_cmp a b ≡ Less → side a b ≡ right
codes_right [] b h g lt = cc
codes_right (x ∷ a) [] h g lt = cc
codes_right (x ∷ a) (y ∷ b) h g lt =
    elim (nat_cmp x y) as (λ o. nat_cmp x y ≡ o → nat_cmp y x ≡ ordering_reverse o → ordering_then o (slice_cmp nat_cmp a b) ≡ Less → turn (nat_cmp y x) (side a b) ≡ right) [
      | Less ↦ λ _ q e. ap (λ o. turn o (side a b)) q
      | Equal ↦ λ t q e. ap (λ o. turn o (side a b)) q ∙ deeper (codes_right a b) (equal_is x y t) e
      | Greater ↦ λ _ q e. cc
    ] refl (nat_cmp_total.antisymm y x) lt
  where
    deeper : (is_code a ≡ true → is_code b ≡ true → slice_cmp nat_cmp a b ≡ Less → side a b ≡ right) → x ≡ y → slice_cmp nat_cmp a b ≡ Less → side a b ≡ right
    deeper again t e =
        let g' : is_code (x ∷ b) ≡ true = subst (λ z. is_code (z ∷ b) ≡ true) (sym t) g in
        code_cases x a h
        (λ o _ a_ends. code_cases x b g' (λ _ _ b_ends. none_less a b a_ends b_ends e) (λ o' _ _. absurd (true≢false (sym o ∙ o'))))
        (λ o _ a_code. code_cases x b g' (λ o' _ _. absurd (true≢false (sym o' ∙ o))) (λ _ _ b_code. again a_code b_code e))

first_code_append : (c w : List ℕ) → is_code c ≡ true → first_code (c ++ w) ≡ c
first_code_append [] w h = cc
first_code_append (d ∷ c) w h =
    code_cases d c h
    (λ o _ ends. ap (λ b. cond b (d ∷ []) (d ∷ first_code (c ++ w))) o ∙ ap (λ v. d ∷ v) (sym ends))
    (λ o _ code. ap (λ b. cond b (d ∷ []) (d ∷ first_code (c ++ w))) o ∙ ap (λ v. d ∷ v) (first_code_append c w code))

-- ---- children

-- the label of a child is that of its parent and a code
pub is_child_append : (p c : Label) → is_code c ≡ true → is_child p (p ++ c) ≡ true
is_child_append [] c h = h
is_child_append (x ∷ p) c h = ap (λ b. b && is_child p (p ++ c)) (eq_itself x) ∙ is_child_append p c h

pub child_is : (p l : Label) → is_child p l ≡ true → l ≡ p ++ rest p l
child_is [] l h = refl
child_is (x ∷ p) [] h = cc
child_is (x ∷ p) (y ∷ l) h = λ i. sym (eq_is x y (first_of_both _ _ h)) i ∷ child_is p l (second_of_both (x == y) _ h) i

pub child_code : (p l : Label) → is_child p l ≡ true → is_code (rest p l) ≡ true
child_code [] l h = h
child_code (x ∷ p) [] h = cc
child_code (x ∷ p) (y ∷ l) h = child_code p l (second_of_both (x == y) _ h)

pub child_longer : (p l : Label) → is_child p l ≡ true → length p ≤ length l
child_longer [] l h = omega arith
child_longer (x ∷ p) [] h = cc
child_longer (x ∷ p) (y ∷ l) h = omega (arith, child_longer p l (second_of_both (x == y) _ h))

pub child_drop : (p l : Label) → is_child p l ≡ true → drop (length p) l ≡ rest p l
child_drop [] l h = refl
child_drop (x ∷ p) [] h = cc
child_drop (x ∷ p) (y ∷ l) h = child_drop p l (second_of_both (x == y) _ h)

pub child_under : (p l : Label) → is_child p l ≡ true → side p l ≡ under
child_under [] l h = code_under l h
child_under (x ∷ p) [] h = cc
child_under (x ∷ p) (y ∷ l) h = ap (λ o. turn o (side p l)) (eq_cmp x y (first_of_both _ _ h)) ∙ child_under p l (second_of_both (x == y) _ h)

-- of two children of one parent the later one lies to the right
pub children_right : (p a b : Label) → is_child p a ≡ true → is_child p b ≡ true → slice_cmp nat_cmp a b ≡ Less → side a b ≡ right
children_right [] a b h g lt = codes_right a b h g lt
children_right (x ∷ p) [] b h g lt = cc
children_right (x ∷ p) (y ∷ a) [] h g lt = cc
children_right (x ∷ p) (y ∷ a) (z ∷ b) h g lt =
    let same : y ≡ z = sym (eq_is x y (first_of_both _ _ h)) ∙ eq_is x z (first_of_both _ _ g) in
    let zy : nat_cmp z y ≡ Equal = subst (λ v. nat_cmp v y ≡ Equal) same (cmp_itself y) in
    let yz : nat_cmp y z ≡ Equal = subst (λ v. nat_cmp y v ≡ Equal) same (cmp_itself y) in
    ap (λ o. turn o (side a b)) zy
    ∙ children_right p a b (second_of_both (x == y) _ h) (second_of_both (x == z) _ g) (ap (λ o. ordering_then o (slice_cmp nat_cmp a b)) (sym yz) ∙ lt)

-- the child of p in whose subtree a label lies is p and the first code behind it
pub cut_in : (p c k : Label) → is_child p c ≡ true → is_in (side c k) ≡ true → p ++ first_code (rest p k) ≡ c
cut_in p c k h g = subst (λ v. p ++ first_code (rest p v) ≡ c) (sym (in_is c k g)) (cut_append p c (rest c k) h)
  where
    cut_append : (p c w : Label) → is_child p c ≡ true → p ++ first_code (rest p (c ++ w)) ≡ c
    cut_append [] c w h = first_code_append c w h
    cut_append (x ∷ p) [] w h = cc
    cut_append (x ∷ p) (y ∷ c) w h = λ i. eq_is x y (first_of_both _ _ h) i ∷ cut_append p c w (second_of_both (x == y) _ h) i

-- ---- the parent

-- the last division is odd, as it is in the root and in each child
abbrev pub OddEnd : Label → Type 0
OddEnd [] = ⊥
OddEnd (x ∷ []) = is_odd x ≡ true
OddEnd (x ∷ y ∷ l) = OddEnd (y ∷ l)

code_end : (d : ℕ) (l : List ℕ) → is_code (d ∷ l) ≡ true → OddEnd (d ∷ l)
code_end d [] h = code_cases d [] h (λ o _ _. o) (λ _ _ code. cc)
code_end d (e ∷ l) h = code_cases d (e ∷ l) h (λ _ _ ends. cc) (λ _ _ code. code_end e l code)

no_child : {C : Type 0} (p : Label) → is_child p [] ≡ true → C
no_child [] e = cc
no_child (x ∷ p) e = cc

pub child_odd : (p l : Label) → is_child p l ≡ true → OddEnd l
child_odd [] [] h = cc
child_odd [] (d ∷ l) h = code_end d l h
child_odd (x ∷ p) [] h = cc
child_odd (x ∷ p) (y ∷ []) h = no_child p (second_of_both (x == y) _ h)
child_odd (x ∷ p) (y ∷ z ∷ l) h = child_odd p (z ∷ l) (second_of_both (x == y) _ h)

-- a child's label isn't a code itself, where its parent's ends oddly
not_code : (p l : Label) → OddEnd p → is_child p l ≡ true → is_code l ≡ false
not_code [] l o h = absurd o
not_code (x ∷ p) [] o h = cc
not_code (x ∷ []) (y ∷ []) o h = no_child [] (second_of_both (x == y) _ h)
not_code (x ∷ []) (y ∷ z ∷ l) o h =
    ap (λ b. cond b (nat_le 3 y && false) (nat_le 2 y && is_code (z ∷ l))) (subst (λ v. is_odd v ≡ true) (eq_is x y (first_of_both _ _ h)) o) ∙ and_false (nat_le 3 y)
not_code (x ∷ w ∷ p) (y ∷ []) o h = no_child (w ∷ p) (second_of_both (x == y) _ h)
not_code (x ∷ w ∷ p) (y ∷ z ∷ l) o h =
    elim (is_odd y) as (λ b. cond b (nat_le 3 y && false) (nat_le 2 y && is_code (z ∷ l)) ≡ false) [
      | true ↦ and_false (nat_le 3 y)
      | false ↦ ap (λ b. nat_le 2 y && b) (not_code (w ∷ p) (z ∷ l) o (second_of_both (x == y) _ h)) ∙ and_false (nat_le 2 y)
    ]

parent_of_code : (l : List ℕ) → is_code l ≡ true → parent l ≡ []
parent_of_code [] h = refl
parent_of_code (d ∷ l) h = ap (λ b. cond b [] (d ∷ parent l)) h

-- without its last code a child's label is its parent's
pub parent_is : (p l : Label) → OddEnd p → is_child p l ≡ true → parent l ≡ p
parent_is [] l o h = absurd o
parent_is (x ∷ p) [] o h = cc
parent_is (x ∷ []) (y ∷ l) o h =
    ap (λ b. cond b [] (y ∷ parent l)) (not_code (x ∷ []) (y ∷ l) o h)
    ∙ (λ i. sym (eq_is x y (first_of_both _ _ h)) i ∷ parent_of_code l (second_of_both (x == y) _ h) i)
parent_is (x ∷ w ∷ p) (y ∷ l) o h =
    ap (λ b. cond b [] (y ∷ parent l)) (not_code (x ∷ w ∷ p) (y ∷ l) o h)
    ∙ (λ i. sym (eq_is x y (first_of_both _ _ h)) i ∷ parent_is (w ∷ p) l o (second_of_both (x == y) _ h) i)
