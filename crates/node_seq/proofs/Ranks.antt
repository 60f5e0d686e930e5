-- Numbers that rise along the order of labels and of valid keys: what a walk over a map that isn't known counts down.
use Rattle.std.proofs.Common.{◌≡◌, ℕ, zero, suc, ◌+◌, ◌-◌, ◌*◌, ◌^◌, ◌<◌, ◌≤◌, List, [], ◌∷◌, ◌++◌, length, arith, Less, Equal, Greater, nat_cmp, refl, sym, ap, ◌∙◌, mul-le-mul_right, suc-mul}
use Rattle.std.proofs.Math.Nat.{pow-succ', one-le-pow}
use Rattle.std.specs.Ordering.{ordering_then, ordering_reverse}
use Rattle.std.specs.Cmp.{ranked}
use Rattle.std.specs.Cmp.Lexicographic.{slice_cmp, nat_list_cmp_total}
use Rattle.std.specs.List.{AllByRecursion}
use Rattle.dewey_labels.specs.Labels.{Label, Within, greatest, most_divisions}
use Rattle.dewey_labels.specs.Sides.{fill}
use Rattle.tree_model.specs.declared.key.Key.{Key}
use Rattle.tree_model.specs.Keys.{key_at, key_cmp, top_name, IsKeyName, IsValidKey}
use Rattle.tree_model.specs.Limits.{most_name_bytes}
use Rattle.tree_model.specs.Names.{Name}
use Rattle.node_seq.specs.inside.Ranks.{rank, label_bound, label_rank, labels_left, name_bound, name_rank, key_rank, key_bound, keys_left, keys_before}
use Rattle.tree_model.proofs.Keys.{list_tied}
use Rattle.tree_model.proofs.NameLaws.{IsByte, key_name_below_top, key_name_bytes, key_name_length}

-- ---- lists of at most n digits

abbrev Small : ℕ → List ℕ → Type 0
Small b = AllByRecursion (λ d. d + 2 ≤ b)

power : (b n : ℕ) → 0 < b → 0 < b ^ n
power b n pos = one-le-pow n b pos

rank_below : (b n : ℕ) (xs : List ℕ) → 0 < b → Small b xs → rank b n xs < b ^ n
rank_below b zero xs pos h = power b zero pos
rank_below b (suc n) [] pos h = power b (suc n) pos
rank_below b (suc n) (x ∷ xs) pos h =
    let p : ℕ = b ^ n in
    let ih : rank b n xs < p = rank_below b n xs pos h.1 in
    let m : suc (x + 1) * p ≤ b * p = mul-le-mul_right p (omega (arith, h.0)) in
    let d = suc-mul (x + 1) p in
    let e : b ^ suc n ≡ b * p = pow-succ' b n in
    omega (arith, ih, m, d, e)

rank_rises : (b n : ℕ) (xs ys : List ℕ) → 0 < b → length xs ≤ n → length ys ≤ n → Small b xs → Small b ys → slice_cmp nat_cmp xs ys ≡ Less → rank b n xs < rank b n ys
rank_rises b n [] [] pos lx ly hx hy h = cc
rank_rises b n (x ∷ xs) [] pos lx ly hx hy h = cc
rank_rises b zero [] (y ∷ ys) pos lx ly hx hy h = absurd (omega arith)
rank_rises b (suc n) [] (y ∷ ys) pos lx ly hx hy h =
    let p : ℕ = b ^ n in
    let q : 0 < p = power b n pos in
    let d = suc-mul y p in
    omega (arith, q, d)
rank_rises b zero (x ∷ xs) (y ∷ ys) pos lx ly hx hy h = absurd (omega arith)
rank_rises b (suc n) (x ∷ xs) (y ∷ ys) pos lx ly hx hy h =
    elim (nat_cmp x y) as (λ o. nat_cmp x y ≡ o → ordering_then o (slice_cmp nat_cmp xs ys) ≡ Less → rank b (suc n) (x ∷ xs) < rank b (suc n) (y ∷ ys)) [
      | Less ↦ λ q _.
          let less : x < y = ranked x y Less (sym q) in
          let p : ℕ = b ^ n in
          let r : rank b n xs < p = rank_below b n xs pos hx.1 in
          let m : suc (x + 1) * p ≤ (y + 1) * p = mul-le-mul_right p (omega (arith, less)) in
          let d = suc-mul (x + 1) p in
          omega (arith, r, m, d)
      | Equal ↦ λ q g.
          let same : x ≡ y = ranked x y Equal (sym q) in
          let ih = rank_rises b n xs ys pos (omega arith) (omega arith) hx.1 hy.1 g in
          let e : (x + 1) * b ^ n ≡ (y + 1) * b ^ n = ap (λ z. (z + 1) * b ^ n) same in
          omega (arith, ih, e)
      | Greater ↦ λ _ g. cc
    ] refl h

lower : (m i j : ℕ) → j < m → i < j → m - j < m - i
lower m i j a c = omega arith

over : (m i : ℕ) → i < m → 0 < m - i
over m i a = omega arith

-- ---- labels

small_label : (l : Label) → AllByRecursion (λ d. d ≤ greatest) l → Small (greatest + 2) l
small_label [] h = tt
small_label (d ∷ l) h = (omega (arith, h.0), small_label l h.1)

label_rank_below : (l : Label) → Within l → label_rank l < label_bound
unfolding label_rank label_bound
label_rank_below l w = rank_below (greatest + 2) most_divisions l (omega arith) (small_label l w.1)

label_rank_rises : (l k : Label) → Within l → Within k → slice_cmp nat_cmp l k ≡ Less → label_rank l < label_rank k
unfolding label_rank
label_rank_rises l k w v h = rank_rises (greatest + 2) most_divisions l k (omega arith) w.0 v.0 (small_label l w.1) (small_label k v.1) h

pub label_nearer : (l k : Label) → Within l → Within k → slice_cmp nat_cmp l k ≡ Less → labels_left k < labels_left l
unfolding labels_left
label_nearer l k w v h = lower label_bound (label_rank l) (label_rank k) (label_rank_below k v) (label_rank_rises l k w v h)

pub label_left : (l : Label) → Within l → 0 < labels_left l
unfolding labels_left
label_left l w = over label_bound (label_rank l) (label_rank_below l w)

-- ---- keys

small_name : (n : Name) → AllByRecursion IsByte n → Small 258 n
small_name [] h = tt
small_name (b ∷ n) h = (omega (arith, h.0), small_name n h.1)

name_rank_below : (n : Name) → IsKeyName n → name_rank n < name_bound
unfolding name_rank name_bound
name_rank_below n h = rank_below 258 most_name_bytes n (omega arith) (small_name n (key_name_bytes n h))

name_rank_rises : (n m : Name) → IsKeyName n → IsKeyName m → slice_cmp nat_cmp n m ≡ Less → name_rank n < name_rank m
unfolding name_rank
name_rank_rises n m h g less = rank_rises 258 most_name_bytes n m (omega arith) (key_name_length n h) (key_name_length m g) (small_name n (key_name_bytes n h)) (small_name m (key_name_bytes m g)) less

-- a number of two digits, of which the second is below m
carry : (a b i m : ℕ) → a < b → i < m → a * m + i < b * m
carry a b i m h g =
    let n : suc a * m ≤ b * m = mul-le-mul_right m (omega arith) in
    let d = suc-mul a m in
    omega (arith, n, d)

key_rank_below : (k : Key) → IsValidKey k → key_rank k < key_bound
unfolding key_rank key_bound
key_rank_below k h = carry (label_rank k.label) label_bound (name_rank k.name) name_bound (label_rank_below k.label h.label.1) (name_rank_below k.name h.name)

key_rank_rises : (k j : Key) → IsValidKey k → IsValidKey j → key_cmp k j ≡ Less → key_rank k < key_rank j
unfolding key_rank
key_rank_rises k j h g less =
    elim (slice_cmp nat_cmp k.label j.label) as (λ o. slice_cmp nat_cmp k.label j.label ≡ o → ordering_then o (slice_cmp nat_cmp k.name j.name) ≡ Less → label_rank k.label * name_bound + name_rank k.name < label_rank j.label * name_bound + name_rank j.name) [
      | Less ↦ λ q _.
          let c = carry (label_rank k.label) (label_rank j.label) (name_rank k.name) name_bound (label_rank_rises k.label j.label h.label.1 g.label.1 q) (name_rank_below k.name h.name) in
          omega (arith, c)
      | Equal ↦ λ q v.
          let same : label_rank k.label * name_bound ≡ label_rank j.label * name_bound = ap (λ l. label_rank l * name_bound) (list_tied k.label j.label q) in
          let n = name_rank_rises k.name j.name h.name g.name v in
          omega (arith, same, n)
      | Greater ↦ λ _ v. cc
    ] refl less

-- a later key is nearer to the end, an earlier one to the beginning
pub key_nearer : (k j : Key) → IsValidKey k → IsValidKey j → key_cmp k j ≡ Less → keys_left j < keys_left k
unfolding keys_left
key_nearer k j h g less = lower key_bound (key_rank k) (key_rank j) (key_rank_below j g) (key_rank_rises k j h g less)

pub key_left : (k : Key) → IsValidKey k → 0 < keys_left k
unfolding keys_left
key_left k h = over key_bound (key_rank k) (key_rank_below k h)

pub key_earlier : (k j : Key) → IsValidKey k → IsValidKey j → key_cmp j k ≡ Less → keys_before j < keys_before k
unfolding keys_before
key_earlier k j h g less = let r = key_rank_rises j k g h less in omega (arith, r)

pub key_before : (k : Key) → 0 < keys_before k
unfolding keys_before
key_before k = omega arith

-- ---- from a key with the greatest name to what lies above it

-- what lies above a label with the greatest name has a later label
pub label_rises : (l : Label) (k : Key) → IsKeyName k.name → key_cmp (key_at l top_name) k ≡ Less → slice_cmp nat_cmp l k.label ≡ Less
label_rises l k n h =
    let turned : slice_cmp nat_cmp top_name k.name ≡ Greater = nat_list_cmp_total.antisymm top_name k.name ∙ ap ordering_reverse (key_name_below_top k.name n) in
    elim (slice_cmp nat_cmp l k.label) as (λ o. ordering_then o (slice_cmp nat_cmp top_name k.name) ≡ Less → o ≡ Less) [
      | Less ↦ λ _. refl
      | Equal ↦ λ g. cc
      | Greater ↦ λ g. cc
    ] h

-- what comes behind a longer label comes behind the label
past_prefix : (l w k : Label) → slice_cmp nat_cmp (l ++ w) k ≡ Less → slice_cmp nat_cmp l k ≡ Less
past_prefix [] [] [] h = cc
past_prefix [] (x ∷ w) [] h = cc
past_prefix [] w (y ∷ k) h = refl
past_prefix (x ∷ l) w [] h = cc
past_prefix (x ∷ l) w (y ∷ k) h =
    elim (nat_cmp x y) as (λ o. ordering_then o (slice_cmp nat_cmp (l ++ w) k) ≡ Less → ordering_then o (slice_cmp nat_cmp l k) ≡ Less) [
      | Less ↦ λ _. refl
      | Equal ↦ λ g. past_prefix l w k g
      | Greater ↦ λ g. cc
    ] h

-- what lies behind the tree of a label is nearer to the end than the label
pub walk_past_tree : (l : Label) (k : Key) → Within l → Within k.label → IsKeyName k.name → key_cmp (key_at (fill l) top_name) k ≡ Less → labels_left k.label < labels_left l
walk_past_tree l k w v n a = label_nearer l k.label w v (past_prefix l _ k.label (label_rises (fill l) k n a))
