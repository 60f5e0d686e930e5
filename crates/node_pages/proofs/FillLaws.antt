-- Filling a page after another gives the pages of all items.
use Rattle.std.proofs.Common.{◌≡◌, ◌≤◌, ◌<◌, ℕ, suc, ◌+◌, ◌-◌, Bool, true, false, cond, List, [], ◌∷◌, ◌++◌, length, take, replicate, map, Option, Some, None, refl, sym, ap, subst, ◌∙◌, arith, append_assoc, append-nil, length-append, zero-add}
use Rattle.std.proofs.lemmas.Bool.{le-leb, lt-ltb}
use Rattle.std.proofs.lemmas.List.{take_all}
use Rattle.std.specs.List.{AllByRecursion}
use Rattle.node_pages.specs.Filling.{room, page_with, on_first, written, fits, filled_behind, filled, page_bytes, Fill, no_items, closed, kept, all_pages, page_count, with_items}

-- the bytes of a page that is filled up with zeros
pub resized : (head items : List ℕ) → length head ≡ 2 → length items ≤ 8_190
    → take 8_192 (head ++ items) ++ replicate (8_192 - length (head ++ items)) 0 ≡ head ++ (items ++ replicate (8_190 - length items) 0)
resized head items two room =
    let whole : length (head ++ items) ≡ 2 + length items = length-append head items ∙ ap (λ n. n + length items) two in
    let rest : 8_192 - length (head ++ items) ≡ 8_190 - length items = omega (arith, whole, room) in
    (λ i. take_all 8_192 (head ++ items) (omega (arith, whole, room)) i ++ replicate (rest i) 0) ∙ append_assoc head items (replicate (8_190 - length items) 0)

pub filled_up : (head items with_items page : List ℕ) (len : ℕ) → length head ≡ 2 → length items ≤ 8_190
    → with_items ≡ head ++ items → len ≡ length with_items → page ≡ take 8_192 with_items ++ replicate (8_192 - len) 0
    → page ≡ head ++ (items ++ replicate (8_190 - length items) 0)
filled_up head items with_items page len two room parts count filled =
    filled ∙ (λ i. take 8_192 (parts i) ++ replicate (8_192 - (count ∙ ap length parts) i) 0) ∙ resized head items two room

module _ {A : Type 0} (write : Option A → A → List ℕ) where
  -- pages of which the first follows what is on the open one
  abbrev pages_on : Fill A → List (List A) → List (List ℕ)
  pages_on f [] = page_with f.count f.bytes ∷ []
  pages_on f (p ∷ ps) = page_with (f.count + length p) (f.bytes ++ written write f.last p) ∷ map (page_bytes write) ps

  abbrev with_fit : Fill A → A → Fill A
  with_fit f x = record f { count = f.count + 1; bytes = f.bytes ++ write f.last x; last = Some x }

  abbrev with_page : Fill A → A → Fill A
  with_page f x = record { most = f.most; pages = f.pages + 1; full = kept f; count = 1; bytes = write None x; last = Some x }

  on_open : (f : Fill A) (x : A) (ps : List (List A)) → pages_on (with_fit f x) ps ≡ pages_on f (on_first x ps)
  on_open f x [] = ap (λ (b : List ℕ). page_with (f.count + 1) (f.bytes ++ b) ∷ []) (sym (append-nil (write f.last x)))
  on_open f x (p ∷ ps) =
      let count : (f.count + 1) + length p ≡ f.count + suc (length p) = omega (arith) in
      λ i. page_with (count i) (append_assoc f.bytes (write f.last x) (written write (Some x) p) i) ∷ map (page_bytes write) ps

  on_new : (f : Fill A) (x : A) (ps : List (List A)) → pages_on (with_page f x) ps ≡ map (page_bytes write) (on_first x ps)
  on_new f x [] = ap (λ (b : List ℕ). page_with 1 b ∷ []) (sym (append-nil (write None x)))
  on_new f x (p ∷ ps) = ap (λ (n : ℕ). page_with n (write None x ++ written write (Some x) p) ∷ map (page_bytes write) ps) (omega (arith))

  -- how many pages items take, the first going on one with so many bytes
  abbrev count_behind : ℕ → Option A → List A → ℕ
  count_behind used before xs = length (filled_behind write used before xs)

  same_count : (x : A) (ps : List (List A)) → 1 ≤ length ps → length (on_first x ps) ≡ length ps
  same_count x [] some = absurd (omega (arith, some))
  same_count x (p ∷ ps) some = refl

  some_behind : (used : ℕ) (before : Option A) (xs : List A) → 1 ≤ count_behind used before xs
  some_behind used before [] = omega arith
  some_behind used before (x ∷ xs) = (elim (fits write used before x) as (λ y.
      1 ≤ length (cond y (on_first x (filled_behind write (used + length (write before x)) (Some x) xs)) ([] ∷ on_first x (filled_behind write (length (write None x)) (Some x) xs)))) [
        | true ↦ let some = some_behind (used + length (write before x)) (Some x) xs in
            subst (λ n. 1 ≤ n) (sym (same_count x (filled_behind write (used + length (write before x)) (Some x) xs) some)) some
        | false ↦ omega arith
      ])

  -- one more on the open page, or on a new one
  count_fit : (used : ℕ) (before : Option A) (x : A) (xs : List A) → length (on_first x (filled_behind write used before xs)) ≡ count_behind used before xs
  count_fit used before x xs = same_count x (filled_behind write used before xs) (some_behind used before xs)

  filled_on : (f : Fill A) (xs : List A) → f.pages + count_behind (length f.bytes) f.last xs ≤ f.most + 1
      → closed (with_items write f xs) ≡ f.full ++ pages_on f (filled_behind write (length f.bytes) f.last xs)
  filled_on f [] few =
      let count : f.count ≡ f.count + 0 = omega (arith) in
      λ i. f.full ++ (page_with (count i) (sym (append-nil f.bytes) i) ∷ [])
  filled_on f (x ∷ xs) few = (elim (fits write (length f.bytes) f.last x) as (λ y.
      f.pages + length (cond y (on_first x (filled_behind write (length f.bytes + length (write f.last x)) (Some x) xs)) ([] ∷ on_first x (filled_behind write (length (write None x)) (Some x) xs))) ≤ f.most + 1
      → closed (with_items write (cond y (with_fit f x) (with_page f x)) xs)
      ≡ f.full ++ pages_on f (cond y (on_first x (filled_behind write (length f.bytes + length (write f.last x)) (Some x) xs)) ([] ∷ on_first x (filled_behind write (length (write None x)) (Some x) xs)))) [
        | true ↦ λ small.
            let used : length (f.bytes ++ write f.last x) ≡ length f.bytes + length (write f.last x) = length-append f.bytes (write f.last x) in
            let less = subst (λ n. f.pages + n ≤ f.most + 1) (count_fit (length f.bytes + length (write f.last x)) (Some x) x xs) small in
            filled_on (with_fit f x) xs (subst (λ n. f.pages + count_behind n (Some x) xs ≤ f.most + 1) (sym used) less)
            ∙ ap (λ n. f.full ++ pages_on (with_fit f x) (filled_behind write n (Some x) xs)) used
            ∙ ap (λ (ps : List (List ℕ)). f.full ++ ps) (on_open f x (filled_behind write (length f.bytes + length (write f.last x)) (Some x) xs))
        | false ↦ λ small. let rest = filled_behind write (length (write None x)) (Some x) xs in
            let count : f.count ≡ f.count + 0 = omega (arith) in
            let more = count_fit (length (write None x)) (Some x) x xs in
            let some = some_behind (length (write None x)) (Some x) xs in
            let few : f.pages < f.most = omega (arith, small, more, some) in
            let keeps : kept f ≡ closed f = ap (λ b. cond b (closed f) []) (lt-ltb f.pages f.most few) in
            filled_on (with_page f x) xs (omega (arith, small, more))
            ∙ (λ i. keeps i ++ on_new f x rest i)
            ∙ append_assoc f.full (page_with f.count f.bytes ∷ []) (map (page_bytes write) (on_first x rest))
            ∙ (λ i. f.full ++ (page_with (count i) (sym (append-nil f.bytes) i) ∷ map (page_bytes write) (on_first x rest)))
      ]) few

  -- the pages are counted, however many are kept
  counted_on : (f : Fill A) (xs : List A) → (with_items write f xs).pages + 1 ≡ f.pages + count_behind (length f.bytes) f.last xs
  counted_on f [] = refl
  counted_on f (x ∷ xs) = (elim (fits write (length f.bytes) f.last x) as (λ y.
      (with_items write (cond y (with_fit f x) (with_page f x)) xs).pages + 1
      ≡ f.pages + length (cond y (on_first x (filled_behind write (length f.bytes + length (write f.last x)) (Some x) xs)) ([] ∷ on_first x (filled_behind write (length (write None x)) (Some x) xs)))) [
        | true ↦
            counted_on (with_fit f x) xs
            ∙ ap (λ n. f.pages + count_behind n (Some x) xs) (length-append f.bytes (write f.last x))
            ∙ ap (λ n. f.pages + n) (sym (count_fit (length f.bytes + length (write f.last x)) (Some x) x xs))
        | false ↦ let more = count_fit (length (write None x)) (Some x) x xs in
            let rest = counted_on (with_page f x) xs in
            omega (arith, more, rest)
      ])

  -- the open page has an item still
  some_on : (f : Fill A) (xs : List A) → 0 < f.count → 0 < (with_items write f xs).count
  some_on f [] some = some
  some_on f (x ∷ xs) some = (elim (fits write (length f.bytes) f.last x) as (λ y. 0 < (with_items write (cond y (with_fit f x) (with_page f x)) xs).count) [
    | true ↦ some_on (with_fit f x) xs (omega arith)
    | false ↦ some_on (with_page f x) xs (omega arith)
  ])

  -- one item on the first page
  abbrev first_item : ℕ → A → Fill A
  first_item most x = record { most = most; pages = 0; full = []; count = 1; bytes = write None x; last = Some x }

  -- the pages of items of which the first fits on a page, where that many are kept
  pub pages_filled : (most : ℕ) (xs : List A) → AllByRecursion (λ x. length (write None x) ≤ room) xs → length (filled write xs) ≤ most
      → all_pages (with_items write (no_items most) xs) ≡ map (page_bytes write) (filled write xs)
  pages_filled most [] short few = refl
  pages_filled most (x ∷ xs) short few =
      let f = first_item most x in
      let fit : fits write 0 None x ≡ true = le-leb (0 + length (write None x)) room (omega (arith, short.0)) in
      let some = some_on f xs (omega arith) in
      let count = count_fit (length (write None x)) (Some x) x xs in
      ap (λ (y : Bool). all_pages (with_items write (cond y (with_fit (no_items most) x) (with_page (no_items most) x)) xs)) fit
      ∙ ap (λ b. cond b (closed (with_items write f xs)) (with_items write f xs).full) (lt-ltb 0 (with_items write f xs).count some)
      ∙ filled_on f xs (omega (arith, few, count)) ∙ on_new (no_items most) x (filled_behind write (length (write None x)) (Some x) xs)

  -- and how many these are, however many are kept
  pub pages_counted : (most : ℕ) (xs : List A) → AllByRecursion (λ x. length (write None x) ≤ room) xs → page_count (with_items write (no_items most) xs) ≡ length (filled write xs)
  pages_counted most [] short = refl
  pages_counted most (x ∷ xs) short =
      let f = first_item most x in
      let fit : fits write 0 None x ≡ true = le-leb (0 + length (write None x)) room (omega (arith, short.0)) in
      let some = some_on f xs (omega arith) in
      let count = count_fit (length (write None x)) (Some x) x xs in
      ap (λ (y : Bool). page_count (with_items write (cond y (with_fit (no_items most) x) (with_page (no_items most) x)) xs)) fit
      ∙ ap (λ b. cond b ((with_items write f xs).pages + 1) (with_items write f xs).pages) (lt-ltb 0 (with_items write f xs).count some)
      ∙ counted_on f xs ∙ zero-add (count_behind (length (write None x)) (Some x) xs) ∙ sym count
