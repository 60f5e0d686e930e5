-- Laws of labels: a label is the root's or a label and one code, which `parent` cuts off.
use Rattle.std.proofs.Common.{◌≡◌, ◌≢◌, ◌↔◌, ℕ, ◌+◌, ◌≤◌, ◌<◌, Bool, true, false, cond, ◌&&◌, not, List, [], ◌∷◌, ◌++◌, length, ◌==◌, nat_le, count_by, ◌⊎◌, inl, inr, refl, sym, ap, subst, ◌∙◌, arith, true≢false, length-append, take, suc, zero, get_or}
use Rattle.std.specs.List.{AllByRecursion}
use Rattle.std.specs.Bool.{MatchBool}
use Rattle.std.specs.Cmp.Lexicographic.{pointwise}
use Rattle.std.proofs.lemmas.Bool.{and_parts, and_from, and_right, cond-true, cond-false, eqb-true, eq-eqb}
use Rattle.std.proofs.Math.Seq.{take-append_seam}
use Rattle.std.proofs.lemmas.List.Sums.{sum_by-cons, sum_by-append}
use Rattle.dewey_labels.specs.Labels.{Label, root, greatest, is_odd, is_code, is_child, are_codes, is_label, parent, level, cut, IsAncestor, is_ancestor, Within, IsLabel}
use Rattle.dewey_labels.specs.Lists.{is_empty}
use Rattle.dewey_labels.specs.Sides.{rest}
use Rattle.dewey_labels.proofs.Codes.{is_child_append, child_is, child_code}

-- an odd division ends the list
abbrev pub ends_odd : List ℕ → Bool
ends_odd [] = true
ends_odd (d ∷ []) = is_odd d
ends_odd (d ∷ e ∷ ds) = ends_odd (e ∷ ds)

ends_odd-tail : (d : ℕ) (ds : List ℕ) → ends_odd (d ∷ ds) ≡ true → ends_odd ds ≡ true
ends_odd-tail d [] h = refl
ends_odd-tail d (e ∷ ds) h = h

pub are_codes-tail : (d e : ℕ) (ds : List ℕ) → are_codes (d ∷ e ∷ ds) ≡ true → are_codes (e ∷ ds) ≡ true
are_codes-tail d e ds h =
    elim (is_odd d) as (λ b. cond b (nat_le 3 d && are_codes (e ∷ ds)) (nat_le 2 d && are_codes (e ∷ ds)) ≡ true → are_codes (e ∷ ds) ≡ true) [
      | true ↦ λ g. (and_parts _ _ g).1
      | false ↦ λ g. (and_parts _ _ g).1
    ] h

pub are_codes_end_odd : (ds : List ℕ) → are_codes ds ≡ true → ends_odd ds ≡ true
are_codes_end_odd [] h = refl
are_codes_end_odd (d ∷ []) h =
    elim (is_odd d) as (λ b. cond b (nat_le 3 d && true) (nat_le 2 d && false) ≡ true → b ≡ true) [ true ↦ λ _. refl | false ↦ λ g. (and_parts _ _ g).1 ] h
are_codes_end_odd (d ∷ e ∷ ds) h = are_codes_end_odd (e ∷ ds) (are_codes-tail d e ds h)

pub label_ends_odd : (l : Label) → is_label l ≡ true → ends_odd l ≡ true
label_ends_odd [] h = refl
label_ends_odd (d ∷ []) h = ap is_odd (eqb-true d 1 (and_parts _ _ h).0)
label_ends_odd (d ∷ e ∷ ds) h = are_codes_end_odd (e ∷ ds) (and_parts _ _ h).1

-- what goes on behind an odd division is no code
no_code : (d : ℕ) (ds c : List ℕ) → ends_odd (d ∷ ds) ≡ true → is_empty c ≡ false → is_code ((d ∷ ds) ++ c) ≡ false
no_code d [] c h n = ap (λ b. cond b (nat_le 3 d && is_empty c) (nat_le 2 d && is_code c)) h ∙ and_right (nat_le 3 d) (is_empty c) n
no_code d (e ∷ ds) c h n =
    elim (is_odd d) as (λ b. cond b (nat_le 3 d && false) (nat_le 2 d && is_code ((e ∷ ds) ++ c)) ≡ false) [
      | true ↦ and_right (nat_le 3 d) false refl
      | false ↦ and_right (nat_le 2 d) _ (no_code e ds c h n)
    ]

code_not_empty : (c : List ℕ) → is_code c ≡ true → is_empty c ≡ false
code_not_empty [] h = sym h
code_not_empty (d ∷ c) h = refl

parent_of_code : (c : List ℕ) → is_code c ≡ true → parent c ≡ []
parent_of_code [] h = refl
parent_of_code (d ∷ c) h = cond-true _ [] (d ∷ parent c) h

-- the parent of a label and one code is that label
pub parent_cut : (p c : Label) → ends_odd p ≡ true → is_code c ≡ true → parent (p ++ c) ≡ p
parent_cut [] c o h = parent_of_code c h
parent_cut (d ∷ p) c o h =
    cond-false _ [] (d ∷ parent (p ++ c)) (no_code d p c o (code_not_empty c h)) ∙ ap (λ l. d ∷ l) (parent_cut p c (ends_odd-tail d p o) h)

-- a code alone is codes in a row, and so are codes and one more
code_is_codes : (c : List ℕ) → is_code c ≡ true → are_codes c ≡ true
code_is_codes [] h = refl
code_is_codes (d ∷ c) h =
    elim (is_odd d) as (λ b. cond b (nat_le 3 d && is_empty c) (nat_le 2 d && is_code c) ≡ true → cond b (nat_le 3 d && are_codes c) (nat_le 2 d && (not (is_empty c) && are_codes c)) ≡ true) [
      | true ↦ λ g. and_from _ _ (and_parts _ _ g).0 (none_is_codes c (and_parts _ _ g).1)
      | false ↦ λ g. and_from _ _ (and_parts _ _ g).0 (and_from _ _ (ap not (code_not_empty c (and_parts _ _ g).1)) (code_is_codes c (and_parts _ _ g).1))
    ] h
  where
    none_is_codes : (c : List ℕ) → is_empty c ≡ true → are_codes c ≡ true
    none_is_codes [] e = refl
    none_is_codes (x ∷ c) e = absurd (true≢false (sym e))

pub codes_and_code : (a c : List ℕ) → are_codes a ≡ true → is_code c ≡ true → are_codes (a ++ c) ≡ true
codes_and_code [] c a h = code_is_codes c h
codes_and_code (d ∷ []) c o h =
    elim (is_odd d) as (λ b. cond b (nat_le 3 d && true) (nat_le 2 d && false) ≡ true → cond b (nat_le 3 d && are_codes c) (nat_le 2 d && (not (is_empty c) && are_codes c)) ≡ true) [
      | true ↦ λ g. and_from _ _ (and_parts _ _ g).0 (code_is_codes c h)
      | false ↦ λ g. absurd (true≢false (sym (and_parts _ _ g).1))
    ] o
codes_and_code (d ∷ e ∷ a) c o h =
    elim (is_odd d) as (λ b. cond b (nat_le 3 d && are_codes (e ∷ a)) (nat_le 2 d && are_codes (e ∷ a)) ≡ true → cond b (nat_le 3 d && are_codes ((e ∷ a) ++ c)) (nat_le 2 d && are_codes ((e ∷ a) ++ c)) ≡ true) [
      | true ↦ λ g. and_from _ _ (and_parts _ _ g).0 (codes_and_code (e ∷ a) c (and_parts _ _ g).1 h)
      | false ↦ λ g. and_from _ _ (and_parts _ _ g).0 (codes_and_code (e ∷ a) c (and_parts _ _ g).1 h)
    ] o

-- a label and one code
pub record IsBehind (p l : Label) : Type 0 where
  pub code : List ℕ
  pub is : l ≡ p ++ code
  pub is_one : is_code code ≡ true

pub child_is_behind : (p l : Label) → is_child p l ≡ true → IsBehind p l
child_is_behind p l h = record { code = rest p l; is = child_is p l h; is_one = child_code p l h }

-- the label of a child is a label, and its parent is the label that it is a child of
pub child_label : (p l : Label) → is_label p ≡ true → is_child p l ≡ true → is_label l ≡ true
child_label [] l h k = absurd (true≢false (sym h))
child_label (x ∷ p) [] h k = absurd (true≢false (sym k))
child_label (x ∷ p) (y ∷ l) h k =
    let below = (and_parts _ _ k).1 in
    let e : x ≡ y = eqb-true x y (and_parts _ _ k).0 in
    and_from _ _ (subst (λ z. (z == 1) ≡ true) e (and_parts _ _ h).0) (subst (λ w. are_codes w ≡ true) (sym (child_is p l below)) (codes_and_code p (rest p l) (and_parts _ _ h).1 (child_code p l below)))

pub parent_of_child : (p l : Label) → is_label p ≡ true → is_child p l ≡ true → parent l ≡ p
parent_of_child p l h k =
    let at = child_is_behind p l k in
    ap parent at.is ∙ parent_cut p at.code (label_ends_odd p h) at.is_one

-- no label has the root's for a child's
pub root_is_no_child : (p : Label) → is_label p ≡ true → is_child p root ≡ false
root_is_no_child [] h = absurd (true≢false (sym h))
root_is_no_child (x ∷ []) h = and_right (x == 1) false refl
root_is_no_child (x ∷ y ∷ p) h = and_right (x == 1) false refl

-- codes in a row are none, or codes in a row and one code
pub record HasLastCode (ds : List ℕ) : Type 0 where
  pub before : List ℕ
  pub code : List ℕ
  pub is : ds ≡ before ++ code
  pub are_before : are_codes before ≡ true
  pub is_last : is_code code ≡ true

-- a division of codes is at least 3 where it is odd, and at least 2 where it is even
pub low : (d : ℕ) (w : List ℕ) → are_codes (d ∷ w) ≡ true → cond (is_odd d) (nat_le 3 d) (nat_le 2 d) ≡ true
low d w h =
    elim (is_odd d) as (λ b. cond b (nat_le 3 d && are_codes w) (nat_le 2 d && (not (is_empty w) && are_codes w)) ≡ true → cond b (nat_le 3 d) (nat_le 2 d) ≡ true) [
      | true ↦ λ g. (and_parts _ _ g).0
      | false ↦ λ g. (and_parts _ _ g).0
    ] h

joined : (d : ℕ) (a c w : List ℕ) → w ≡ a ++ c → are_codes a ≡ true → is_code c ≡ true → are_codes (d ∷ w) ≡ true → HasLastCode (d ∷ w)
joined d [] c w e b k h =
    elim (is_odd d) as (λ v. is_odd d ≡ v → cond v (nat_le 3 d) (nat_le 2 d) ≡ true → HasLastCode (d ∷ w)) [
      | true ↦ λ o g. record { before = d ∷ []; code = c; is = ap (λ v. d ∷ v) e; are_before = cond-true _ _ _ o ∙ and_from _ _ g refl; is_last = k }
      | false ↦ λ o g. record { before = []; code = d ∷ c; is = ap (λ v. d ∷ v) e; are_before = refl; is_last = cond-false _ _ _ o ∙ and_from _ _ g k }
    ] refl (low d w h)
joined d (x ∷ a) c w e b k h = record { before = d ∷ x ∷ a; code = c; is = ap (λ v. d ∷ v) e; are_before = more; is_last = k }
  where
    more : are_codes (d ∷ x ∷ a) ≡ true
    more =
        elim (is_odd d) as (λ v. cond v (nat_le 3 d) (nat_le 2 d) ≡ true → cond v (nat_le 3 d && are_codes (x ∷ a)) (nat_le 2 d && are_codes (x ∷ a)) ≡ true) [
          | true ↦ λ g. and_from _ _ g b
          | false ↦ λ g. and_from _ _ g b
        ] (low d w h)

pub last_code : (d : ℕ) (ds : List ℕ) → are_codes (d ∷ ds) ≡ true → HasLastCode (d ∷ ds)
last_code d [] h = record { before = []; code = d ∷ []; is = refl; are_before = refl; is_last = alone }
  where
    alone : is_code (d ∷ []) ≡ true
    alone = elim (is_odd d) as (λ b. cond b (nat_le 3 d && true) (nat_le 2 d && false) ≡ true → cond b (nat_le 3 d && true) (nat_le 2 d && false) ≡ true) [ true ↦ λ g. g | false ↦ λ g. g ] h
last_code d (e ∷ ds) h =
    let at = last_code e ds (are_codes-tail d e ds h) in
    joined d at.before at.code (e ∷ ds) at.is at.are_before at.is_last h

-- a label but the root's is that of a child of a label
pub record HasParent (l : Label) : Type 0 where
  pub above : Label
  pub is_above : is_label above ≡ true
  pub is_below : is_child above l ≡ true

pub root_or_child : (l : Label) → is_label l ≡ true → (l ≡ root) ⊎ HasParent l
root_or_child [] h = absurd (true≢false (sym h))
root_or_child (d ∷ []) h = inl (ap (λ x. x ∷ []) (eqb-true d 1 (and_parts _ _ h).0))
root_or_child (d ∷ e ∷ ds) h =
    let at = last_code e ds (and_parts _ _ h).1 in
    inr (record {
      above = d ∷ at.before;
      is_above = and_from _ _ (and_parts _ _ h).0 at.are_before;
      is_below = subst (λ w. is_child (d ∷ at.before) (d ∷ w) ≡ true) (sym at.is) (is_child_append (d ∷ at.before) at.code at.is_last);
    })

pub is_label-parent : (l : Label) → is_label l ≡ true → is_label (parent l) ≡ true
is_label-parent l h =
    elim (root_or_child l h) [
      | inl e ↦ subst (λ w. is_label (parent w) ≡ true) (sym e) refl
      | inr at ↦ subst (λ w. is_label w ≡ true) (sym (parent_of_child at.above l at.is_above at.is_below)) at.is_above
    ]

pub child_of_parent : (l : Label) → is_label l ≡ true → l ≢ root → is_child (parent l) l ≡ true
child_of_parent l h n =
    elim (root_or_child l h) [
      | inl e ↦ absurd (n e)
      | inr at ↦ subst (λ w. is_child w l ≡ true) (sym (parent_of_child at.above l at.is_above at.is_below)) at.is_below
    ]

-- a code has one odd division, and a label at least one
odd_of_code : (c : List ℕ) → is_code c ≡ true → count_by is_odd c ≡ 1
odd_of_code [] h = absurd (true≢false (sym h))
odd_of_code (d ∷ c) h =
    sum_by-cons (λ x. cond (is_odd x) 1 0) d c
    ∙ elim (is_odd d) as (λ b. cond b (nat_le 3 d && is_empty c) (nat_le 2 d && is_code c) ≡ true → cond b 1 0 + count_by is_odd c ≡ 1) [
      | true ↦ λ g. ap (λ n. 1 + n) (none c (and_parts _ _ g).1)
      | false ↦ λ g. ap (λ n. 0 + n) (odd_of_code c (and_parts _ _ g).1)
    ] h
  where
    none : (c : List ℕ) → is_empty c ≡ true → count_by is_odd c ≡ 0
    none [] e = refl
    none (x ∷ c) e = absurd (true≢false (sym e))

pub odd_of_label : (l : Label) → is_label l ≡ true → 1 ≤ count_by is_odd l
odd_of_label [] h = absurd (true≢false (sym h))
odd_of_label (d ∷ l) h =
    let e : d ≡ 1 = eqb-true d 1 (and_parts _ _ h).0 in
    let k : ◌≡◌ {A = ℕ} (cond (is_odd d) 1 0) 1 = ap (λ x. cond (is_odd x) 1 0) e in
    omega (arith, sum_by-cons (λ x. cond (is_odd x) 1 0) d l, k)

-- a child is one level below its parent
pub level_of_child : (p l : Label) → is_label p ≡ true → is_child p l ≡ true → level l ≡ level p + 1
level_of_child p l h k =
    let at = child_is_behind p l k in
    omega (arith, ap (count_by is_odd) at.is, sum_by-append (λ x. cond (is_odd x) 1 0) p at.code, odd_of_code at.code at.is_one, odd_of_label p h)

-- what a label within the limits begins with is within them
within_cut : (p c : Label) → AllByRecursion (λ d. d ≤ greatest) (p ++ c) → AllByRecursion (λ d. d ≤ greatest) p
within_cut [] c h = tt
within_cut (d ∷ p) c h = (h.0, within_cut p c h.1)

pub Within-begins : (p c : Label) → Within (p ++ c) → Within p
Within-begins p c h = (omega (arith, h.0, length-append p c), within_cut p c h.1)

pub IsLabel-parent : (l : Label) → IsLabel l → IsLabel (parent l)
IsLabel-parent l h =
    elim (root_or_child l h.0) [
      | inl e ↦ subst IsLabel (ap parent (sym e)) (subst IsLabel e h)
      | inr at ↦
          let behind = child_is_behind at.above l at.is_below in
          subst IsLabel (sym (parent_of_child at.above l at.is_above at.is_below)) (at.is_above, Within-begins at.above behind.code (subst Within behind.is h.1))
    ]

-- the divisions of a code are even up to its last
even_in_code : (c : List ℕ) (k : ℕ) → is_code c ≡ true → k + 1 < length c → is_odd (get_or c k 0) ≡ false
even_in_code [] k h n = absurd (omega arith)
even_in_code (d ∷ []) k h n = absurd (omega arith)
even_in_code (d ∷ e ∷ c) zero h n =
    elim (is_odd d) as (λ b. cond b (nat_le 3 d && false) (nat_le 2 d && is_code (e ∷ c)) ≡ true → b ≡ false) [ true ↦ λ g. absurd (true≢false (sym (and_parts _ _ g).1)) | false ↦ λ _. refl ] h
even_in_code (d ∷ e ∷ c) (suc k) h n =
    even_in_code (e ∷ c) k (elim (is_odd d) as (λ b. cond b (nat_le 3 d && false) (nat_le 2 d && is_code (e ∷ c)) ≡ true → is_code (e ∷ c) ≡ true) [ true ↦ λ g. absurd (true≢false (sym (and_parts _ _ g).1)) | false ↦ λ g. (and_parts _ _ g).1 ] h) (omega arith)

-- from the end, the first division before the last one that is odd is the last of the parent's label
walk : (d : ℕ) (p c : List ℕ) (k : ℕ) → ends_odd (d ∷ p) ≡ true → is_code c ≡ true → k + 1 < length ((d ∷ p) ++ c) → length (d ∷ p) ≤ k + 1
    → MatchBool (is_odd (get_or ((d ∷ p) ++ c) k 0)) (k + 1 ≡ length (d ∷ p)) (length (d ∷ p) ≤ k)
walk d [] c zero o h n m = subst (λ b. MatchBool b (0 + 1 ≡ 1) (1 ≤ 0)) (sym o) refl
walk d [] c (suc k) o h n m = subst (λ b. MatchBool b (suc k + 1 ≡ 1) (1 ≤ suc k)) (sym (even_in_code c k h (omega arith))) (omega arith)
walk d (e ∷ p) c zero o h n m = absurd (omega arith)
walk d (e ∷ p) c (suc k) o h n m =
    elim (is_odd (get_or ((e ∷ p) ++ c) k 0)) as (λ b. MatchBool b (k + 1 ≡ length (e ∷ p)) (length (e ∷ p) ≤ k) → MatchBool b (suc k + 1 ≡ length (d ∷ e ∷ p)) (length (d ∷ e ∷ p) ≤ suc k)) [
      | true ↦ λ g. omega arith
      | false ↦ λ g. omega arith
    ] (walk e p c k o h (omega arith) (omega arith))

-- one step of that walk
pub walk_back : (l : Label) (k : ℕ) → is_label l ≡ true → l ≢ root → k + 1 < length l → length (parent l) ≤ k + 1
    → MatchBool (is_odd (get_or l k 0)) (k + 1 ≡ length (parent l)) (length (parent l) ≤ k)
walk_back l k h n a b = stepped (parent l) (child_is_behind (parent l) l (child_of_parent l h n)) (is_label-parent l h) b
  where
    stepped : (p : Label) → IsBehind p l → is_label p ≡ true → length p ≤ k + 1 → MatchBool (is_odd (get_or l k 0)) (k + 1 ≡ length p) (length p ≤ k)
    stepped [] at i m = absurd (true≢false (sym i))
    stepped (d ∷ p) at i m =
        subst (λ w. MatchBool (is_odd (get_or w k 0)) (k + 1 ≡ length (d ∷ p)) (length (d ∷ p) ≤ k)) (sym at.is)
        (walk d p at.code k (label_ends_odd (d ∷ p) i) at.is_one (subst (λ w. k + 1 < length w) at.is a) m)

-- the parent's label is as long as a part of the label, and that part is it
pub parent_is_taken : (l : Label) → is_label l ≡ true → l ≢ root → (length (parent l) < length l) × (take (length (parent l)) l ≡ parent l)
parent_is_taken l h n =
    let at = child_is_behind (parent l) l (child_of_parent l h n) in
    (omega (arith, ap length at.is, length-append (parent l) at.code, code_length at.code at.is_one), ap (take (length (parent l))) at.is ∙ take-append_seam (parent l) at.code)
  where
    code_length : (c : List ℕ) → is_code c ≡ true → 0 < length c
    code_length [] e = absurd (true≢false (sym e))
    code_length (x ∷ c) e = omega arith

pub label_length : (l : Label) → is_label l ≡ true → 0 < length l
label_length [] h = absurd (true≢false (sym h))
label_length (d ∷ l) h = omega arith

pub alone_is_root : (l : Label) → is_label l ≡ true → length l ≡ 1 → l ≡ root
alone_is_root [] h n = absurd (true≢false (sym h))
alone_is_root (d ∷ []) h n = ap (λ x. x ∷ []) (eqb-true d 1 (and_parts _ _ h).0)
alone_is_root (d ∷ e ∷ l) h n = absurd (omega arith)

-- ancestors, as the program tests them
pub is_ancestor_starts : (a l : Label) → length a < length l → pointwise ◌==◌ a (take (length a) l) ≡ is_ancestor a l
is_ancestor_starts [] [] h = absurd (omega arith)
is_ancestor_starts [] (y ∷ l) h = refl
is_ancestor_starts (x ∷ a) [] h = absurd (omega arith)
is_ancestor_starts (x ∷ a) (y ∷ l) h = ap (λ b. (x == y) && b) (is_ancestor_starts a l (omega arith))

pub no_ancestor : (a l : Label) → length l ≤ length a → is_ancestor a l ≡ false
no_ancestor [] [] h = refl
no_ancestor [] (y ∷ l) h = absurd (omega arith)
no_ancestor (x ∷ a) [] h = refl
no_ancestor (x ∷ a) (y ∷ l) h = and_right (x == y) _ (no_ancestor a l (omega arith))

-- what a test of ancestors tells
pub record GoesBehind (a l : Label) : Type 0 where
  pub behind : List ℕ
  pub is : l ≡ a ++ behind
  pub some : is_empty behind ≡ false

pub ancestor_goes_behind : (a l : Label) → is_ancestor a l ≡ true → GoesBehind a l
ancestor_goes_behind [] [] h = absurd (true≢false (sym h))
ancestor_goes_behind [] (y ∷ l) h = record { behind = y ∷ l; is = refl; some = refl }
ancestor_goes_behind (x ∷ a) [] h = absurd (true≢false (sym h))
ancestor_goes_behind (x ∷ a) (y ∷ l) h =
    let at = ancestor_goes_behind a l (and_parts _ _ h).1 in
    let e : x ≡ y = eqb-true x y (and_parts _ _ h).0 in
    record { behind = at.behind; is = λ i. sym e i ∷ at.is i; some = at.some }

pub is_ancestor-append : (a w : Label) → is_empty w ≡ false → is_ancestor a (a ++ w) ≡ true
is_ancestor-append [] w h = ap not h ∙ refl
is_ancestor-append (x ∷ a) w h = and_from _ _ (eq-eqb x x refl) (is_ancestor-append a w h)

pub is_ancestor-longer : (a p c : Label) → is_ancestor a p ≡ true → is_ancestor a (p ++ c) ≡ true
is_ancestor-longer [] [] c h = absurd (true≢false (sym h))
is_ancestor-longer [] (y ∷ p) c h = refl
is_ancestor-longer (x ∷ a) [] c h = absurd (true≢false (sym h))
is_ancestor-longer (x ∷ a) (y ∷ p) c h = and_from _ _ (and_parts _ _ h).0 (is_ancestor-longer a p c (and_parts _ _ h).1)

-- an ancestor of a child is its parent or an ancestor of that
ancestor_of_child : (a p c : Label) → ends_odd a ≡ true → is_code c ≡ true → is_ancestor a (p ++ c) ≡ true → (a ≡ p) ⊎ (is_ancestor a p ≡ true)
ancestor_of_child [] [] c o h k = inl refl
ancestor_of_child [] (y ∷ p) c o h k = inr refl
ancestor_of_child (x ∷ a) [] c o h k =
    let at = ancestor_goes_behind (x ∷ a) c k in
    absurd (true≢false (sym (subst (λ w. is_code w ≡ true) at.is h) ∙ no_code x a at.behind o at.some))
ancestor_of_child (x ∷ a) (y ∷ p) c o h k =
    let e : x ≡ y = eqb-true x y (and_parts _ _ k).0 in
    elim (ancestor_of_child a p c (ends_odd-tail x a o) h (and_parts _ _ k).1) [ inl f ↦ inl (λ i. e i ∷ f i) | inr f ↦ inr (and_from _ _ (and_parts _ _ k).0 f) ]

cut-parent : (n : ℕ) (l : Label) → cut n (parent l) ≡ cut (suc n) l
cut-parent zero l = refl
cut-parent (suc n) l = ap parent (cut-parent n l)

no_ancestor_of_root : (a : Label) → is_label a ≡ true → is_ancestor a root ≡ false
no_ancestor_of_root [] i = absurd (true≢false (sym i))
no_ancestor_of_root (x ∷ []) i = and_right (x == 1) false refl
no_ancestor_of_root (x ∷ y ∷ a) i = and_right (x == 1) false refl

-- who goes on behind a label is below it
ancestor_is_cut : (k : ℕ) (a l : Label) → level l ≤ k → is_label a ≡ true → is_label l ≡ true → is_ancestor a l ≡ true → IsAncestor a l
ancestor_is_cut zero a l m i j h =
    elim (root_or_child l j) [
      | inl e ↦ absurd (true≢false (sym (subst (λ w. is_ancestor a w ≡ true) e h) ∙ no_ancestor_of_root a i))
      | inr at ↦ absurd (omega (arith, level_of_child at.above l at.is_above at.is_below))
    ]
ancestor_is_cut (suc k) a l m i j h =
    elim (root_or_child l j) [
      | inl e ↦ absurd (true≢false (sym (subst (λ w. is_ancestor a w ≡ true) e h) ∙ no_ancestor_of_root a i))
      | inr at ↦
          let p = at.above in
          let below = level_of_child p l at.is_above at.is_below in
          let behind = child_is_behind p l at.is_below in
          let is = parent_of_child p l at.is_above at.is_below in
          elim (ancestor_of_child a p behind.code (label_ends_odd a i) behind.is_one (subst (λ w. is_ancestor a w ≡ true) behind.is h)) [
            | inl e ↦ (1, omega arith, omega (arith, below), e ∙ sym is)
            | inr f ↦
                let r = ancestor_is_cut k a p (omega (arith, below)) i at.is_above f in
                (suc r.0, omega arith, omega (arith, below, r.2), r.3 ∙ ap (cut r.0) (sym is) ∙ cut-parent r.0 l)
          ]
    ]

-- the parent's label, and what is cut of it, are those of ancestors
parent_is_ancestor : (p l : Label) → is_child p l ≡ true → is_ancestor p l ≡ true
parent_is_ancestor p l h =
    let at = child_is_behind p l h in
    subst (λ w. is_ancestor p w ≡ true) (sym at.is) (is_ancestor-append p at.code (code_not_empty at.code at.is_one))

cut_is_ancestor : (n : ℕ) (l : Label) → is_label l ≡ true → n < level l → is_ancestor (cut (suc n) l) l ≡ true
cut_is_ancestor zero l j m = parent_is_ancestor (parent l) l (child_of_parent l j (λ e. omega (arith, ap level e)))
cut_is_ancestor (suc n) l j m =
    let i = is_label-parent l j in
    let at = child_of_parent l j (λ e. omega (arith, ap level e)) in
    let behind = child_is_behind (parent l) l at in
    let up = cut_is_ancestor n (parent l) i (omega (arith, level_of_child (parent l) l i at)) in
    subst (λ w. is_ancestor w l ≡ true) (cut-parent (suc n) l) (subst (λ w. is_ancestor (cut (suc n) (parent l)) w ≡ true) (sym behind.is) (is_ancestor-longer _ (parent l) behind.code up))

-- the test of ancestors is right
pub is_ancestor_is : (a l : Label) → is_label a ≡ true → is_label l ≡ true → (is_ancestor a l ≡ true) ↔ IsAncestor a l
is_ancestor_is a l i j = (ancestor_is_cut (level l) a l (omega arith) i j, λ at. from_cut at.0 at.1 at.2 at.3)
  where
    from_cut : (n : ℕ) → 1 ≤ n → n ≤ level l → a ≡ cut n l → is_ancestor a l ≡ true
    from_cut zero m k e = absurd (omega arith)
    from_cut (suc n) m k e = subst (λ w. is_ancestor w l ≡ true) (sym e) (cut_is_ancestor n l j (omega arith))
