-- The pages that keep the rule of filling are those of their items, and no others.
use Rattle.std.proofs.Common.{◌≡◌, ◌≤◌, ℕ, ◌+◌, true, false, cond, List, [], ◌∷◌, ◌++◌, length, Option, Some, None, refl, sym, ap, subst, ◌∙◌, arith, length-append}
use Rattle.std.proofs.lemmas.Bool.{le-leb, leb-true}
use Rattle.std.specs.List.{AllByRecursion}
use Rattle.node_pages.specs.Filling.{room, on_first, last_behind, written, fits, filled_behind, filled, joined, NextIsTooLong, AreFilled}

module _ {A : Type 0} (write : Option A → A → List ℕ) where
  -- pages that keep the rule are filled with their items
  again_behind : (pages : List (List A)) (xs : List A) (used : ℕ) (before : Option A) → used + length (written write before xs) ≤ room
      → NextIsTooLong write (used + length (written write before xs)) (last_behind before xs) pages → AreFilled write pages
      → filled_behind write used before (xs ++ joined pages) ≡ xs ∷ pages
  again_behind [] [] used before within next are = refl
  again_behind ([] ∷ pages) [] used before within next are = absurd are
  again_behind ((y ∷ ys) ∷ pages) [] used before within next are =
      let used_now : used + 0 ≡ used = omega (arith) in
      let rest = ys ++ joined pages in
      ap (λ b. cond b (on_first y (filled_behind write (used + length (write before y)) (Some y) rest)) ([] ∷ on_first y (filled_behind write (length (write None y)) (Some y) rest)))
      (subst (λ n. fits write n before y ≡ false) used_now next)
      ∙ ap (λ (ps : List (List A)). [] ∷ on_first y ps)
      (again_behind pages ys (length (write None y)) (Some y) (omega (arith, are.0, length-append (write None y) (written write (Some y) ys)))
      (subst (λ n. NextIsTooLong write n (last_behind (Some y) ys) pages) (length-append (write None y) (written write (Some y) ys)) are.1) are.2)
  again_behind pages (x ∷ xs) used before within next are =
      let w = write before x in
      let count : used + length (w ++ written write (Some x) xs) ≡ (used + length w) + length (written write (Some x) xs) = omega (arith, length-append w (written write (Some x) xs)) in
      let fit : fits write used before x ≡ true = le-leb (used + length w) room (omega (arith, count, within)) in
      ap (λ b. cond b (on_first x (filled_behind write (used + length w) (Some x) (xs ++ joined pages))) ([] ∷ on_first x (filled_behind write (length (write None x)) (Some x) (xs ++ joined pages)))) fit
      ∙ ap (λ (ps : List (List A)). on_first x ps)
      (again_behind pages xs (used + length w) (Some x) (omega (arith, count, within)) (subst (λ n. NextIsTooLong write n (last_behind (Some x) xs) pages) count next) are)

  pub filled_again : (pages : List (List A)) → AreFilled write pages → filled write (joined pages) ≡ pages
  filled_again [] are = refl
  filled_again ([] ∷ pages) are = absurd are
  filled_again ((x ∷ xs) ∷ pages) are =
      ap (λ (ps : List (List A)). on_first x ps)
      (again_behind pages xs (length (write None x)) (Some x) (omega (arith, are.0, length-append (write None x) (written write (Some x) xs)))
      (subst (λ n. NextIsTooLong write n (last_behind (Some x) xs) pages) (length-append (write None x) (written write (Some x) xs)) are.1) are.2)

  -- the pages of items have all of them, in their order
  on_first_joined : (x : A) (pages : List (List A)) → joined (on_first x pages) ≡ x ∷ joined pages
  on_first_joined x [] = refl
  on_first_joined x (p ∷ ps) = refl

  joined_behind : (xs : List A) (used : ℕ) (before : Option A) → joined (filled_behind write used before xs) ≡ xs
  joined_behind [] used before = refl
  joined_behind (x ∷ xs) used before = (elim (fits write used before x) as (λ b.
      joined (cond b (on_first x (filled_behind write (used + length (write before x)) (Some x) xs)) ([] ∷ on_first x (filled_behind write (length (write None x)) (Some x) xs))) ≡ x ∷ xs) [
        | true ↦ on_first_joined x (filled_behind write (used + length (write before x)) (Some x) xs) ∙ ap (λ (l : List A). x ∷ l) (joined_behind xs (used + length (write before x)) (Some x))
        | false ↦ on_first_joined x (filled_behind write (length (write None x)) (Some x) xs) ∙ ap (λ (l : List A). x ∷ l) (joined_behind xs (length (write None x)) (Some x))
      ])

  pub joined_filled : (xs : List A) → joined (filled write xs) ≡ xs
  joined_filled [] = refl
  joined_filled (x ∷ xs) = on_first_joined x (filled_behind write (length (write None x)) (Some x) xs) ∙ ap (λ (l : List A). x ∷ l) (joined_behind xs (length (write None x)) (Some x))

module _ {A : Type 0} (write : Option A → A → List ℕ) where
  -- each item fits on a page of its own
  abbrev Short : List A → Type 0
  Short xs = AllByRecursion (λ x. length (write None x) ≤ room) xs

  -- pages behind so many bytes keep the rule, the first going on with what stands there
  abbrev KeepOn : ℕ → Option A → List (List A) → Type 0
  KeepOn used before [] = ⊥
  KeepOn used before (p ∷ ps) = (used + length (written write before p) ≤ room) × NextIsTooLong write (used + length (written write before p)) (last_behind before p) ps × AreFilled write ps

  one_more : (used : ℕ) (before : Option A) (x : A) (ps : List (List A)) → KeepOn (used + length (write before x)) (Some x) ps → KeepOn used before (on_first x ps)
  one_more used before x [] keep = absurd keep
  one_more used before x (p ∷ ps) keep =
      let count : (used + length (write before x)) + length (written write (Some x) p) ≡ used + length (write before x ++ written write (Some x) p) = omega (arith, length-append (write before x) (written write (Some x) p)) in
      (subst (λ n. n ≤ room) count keep.0, subst (λ n. NextIsTooLong write n (last_behind (Some x) p) ps) count keep.1, keep.2)

  new_page : (x : A) (ps : List (List A)) → KeepOn (length (write None x)) (Some x) ps → AreFilled write (on_first x ps)
  new_page x [] keep = absurd keep
  new_page x (p ∷ ps) keep =
      let count : length (write None x) + length (written write (Some x) p) ≡ length (write None x ++ written write (Some x) p) = sym (length-append (write None x) (written write (Some x) p)) in
      (subst (λ n. n ≤ room) count keep.0, subst (λ n. NextIsTooLong write n (last_behind (Some x) p) ps) count keep.1, keep.2)

  starts_with : (used : ℕ) (before : Option A) (x : A) (ps : List (List A)) → fits write used before x ≡ false → NextIsTooLong write used before (on_first x ps)
  starts_with used before x [] long = long
  starts_with used before x (p ∷ ps) long = long

  keeps_on : (xs : List A) (used : ℕ) (before : Option A) → used ≤ room → Short xs → KeepOn used before (filled_behind write used before xs)
  keeps_on [] used before within short = (omega (arith, within), tt, tt)
  keeps_on (x ∷ xs) used before within short = (elim (fits write used before x) as (λ b. fits write used before x ≡ b
      → KeepOn used before (cond b (on_first x (filled_behind write (used + length (write before x)) (Some x) xs)) ([] ∷ on_first x (filled_behind write (length (write None x)) (Some x) xs)))) [
        | true ↦ λ h. one_more used before x (filled_behind write (used + length (write before x)) (Some x) xs)
            (keeps_on xs (used + length (write before x)) (Some x) (leb-true (used + length (write before x)) room h) short.1)
        | false ↦ λ h.
            let pages = filled_behind write (length (write None x)) (Some x) xs in
            let none : used + 0 ≡ used = omega (arith) in (
              omega (arith, within),
              subst (λ n. NextIsTooLong write n before (on_first x pages)) (sym none) (starts_with used before x pages h),
              new_page x pages (keeps_on xs (length (write None x)) (Some x) short.0 short.1),
            )
      ]) refl

  -- the pages of short items keep the rule
  pub filled_keep : (xs : List A) → Short xs → AreFilled write (filled write xs)
  filled_keep [] short = tt
  filled_keep (x ∷ xs) short = new_page x (filled_behind write (length (write None x)) (Some x) xs) (keeps_on xs (length (write None x)) (Some x) short.0 short.1)
