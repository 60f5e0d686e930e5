-- Pages of a file with images put in, one after another.
use Rattle.std.proofs.Common.{◌≡◌, ◌≤◌, ◌<◌, ◌==◌, ◌&&◌, not, ℕ, zero, suc, ◌+◌, ◌-◌, ◌*◌, Bool, true, false, cond, List, [], ◌∷◌, ◌++◌, length, take, drop, get_or, Option, Some, None, unwrap_or, add-one, drop-cons, refl, sym, ap, subst, ◌∙◌, arith, append_assoc}
use Rattle.std.proofs.lemmas.Bool.{eq-eqb, eqb-true, ne_eqb}
use Rattle.std.proofs.lemmas.List.{append-nil, length-take, length-drop}
use Rattle.std.specs.Cmp.Lexicographic.{pointwise}
use Rattle.std.specs.List.{AllByRecursion}
use Rattle.std.specs.Prelude.{nat_eq, OnOk, Result, Ok, Err}
use Rattle.byteorder.specs.Endian.{big_number}
use Rattle.page_store.specs.Pages.{page_of}
use Rattle.page_store.specs.Images.{Rising}
use Rattle.tree_model.proofs.Lists.{all_on}
use Rattle.node_records.proofs.ReadLaws.{both}
use Rattle.node_seq.specs.declared.node_read.SeqError.{SeqError}
use Rattle.node_pages.specs.PageZero.{Header, count_of, header_in, header_of, is_page_zero, page_magic}
use Rattle.node_pages.specs.Reading.{are_zeros}
use Rattle.store_contents.specs.Contents.{image_of, page_among}
use Rattle.recovery.specs.inside.Finishing.{AreLeft, ArePages, StandFrom, begins_with, if_whole, left_behind, page_here}
use Rattle.recovery.specs.inside.Fronts.{front}

-- ---- the images that are left

pub later_pages : (image : ℕ × List ℕ) (images : List (ℕ × List ℕ)) → ArePages (image ∷ images) → ArePages images
later_pages image images are = record { whole = are.whole.1; rising = are.rising.1 }

pub all_from_zero : (images : List (ℕ × List ℕ)) → StandFrom 0 images
all_from_zero [] = tt
all_from_zero (image ∷ images) = (omega arith, all_from_zero images)

pub none_of : (n : ℕ) (images : List (ℕ × List ℕ)) → AllByRecursion (λ later. n < later.0) images → image_of n images ≡ None
none_of n [] above = refl
none_of n (image ∷ images) above = ap (λ (b : Bool). cond b (Some image.1) (image_of n images)) (ne_eqb image.0 n (λ same. absurd (omega (arith, same, above.0)))) ∙ none_of n images above.1

pub above_first : (n : ℕ) (image : ℕ × List ℕ) (images : List (ℕ × List ℕ)) → n ≤ image.0 → Rising (image ∷ images) → AllByRecursion (λ later. n < later.0) images
above_first n image images le rise = all_on (λ (later : ℕ × List ℕ). image.0 < later.0) (λ (later : ℕ × List ℕ). n < later.0) (λ later more. omega (arith, le, more)) images rise.0

-- a page with images put in is the first of them, or the file's
pub among_here : (file : List ℕ) (n : ℕ) (images : List (ℕ × List ℕ)) → AreLeft n images → page_among images file n ≡ page_here n images file
among_here file n [] left = refl
among_here file n (image ∷ images) left = elim (image.0 == n) as (λ b. unwrap_or (cond b (Some image.1) (image_of n images)) (page_of n file) ≡ cond b image.1 (page_of n file)) [
  | true ↦ refl
  | false ↦ ap (λ (o : Option (List ℕ)). unwrap_or o (page_of n file)) (none_of n images (above_first n image images left.from.0 left.pages.rising))
]

pub left_on : (n : ℕ) (images : List (ℕ × List ℕ)) → AreLeft n images → AreLeft (n + 1) (left_behind n images)
left_on n [] left = record { pages = left.pages; from = tt }
left_on n (image ∷ images) left =
    let above : AllByRecursion (λ later. n < later.0) images = above_first n image images left.from.0 left.pages.rising in
    let later : StandFrom (n + 1) images = all_on (λ (later : ℕ × List ℕ). n < later.0) (λ (later : ℕ × List ℕ). n + 1 ≤ later.0) (λ later more. omega (arith, more)) images above in
    (elim (image.0 == n) as (λ b. (image.0 == n) ≡ b → AreLeft (n + 1) (cond b images (image ∷ images))) [
      | true ↦ λ h. record { pages = later_pages image images left.pages; from = later }
      | false ↦ λ h. record { pages = left.pages; from = (other (λ same. let no_way : true ≡ false = sym (eq-eqb image.0 n same) ∙ h in cc), later) }
    ]) refl
  where
    other : (image.0 ≡ n → ⊥) → n + 1 ≤ image.0
    other differs = omega (arith, differs, left.from.0)

-- images of pages that were passed change nothing
front_drop : (file : List ℕ) (image : ℕ × List ℕ) (images : List (ℕ × List ℕ)) (left n : ℕ) → image.0 < n → front (page_among (image ∷ images) file) n left ≡ front (page_among images file) n left
front_drop file image images zero n less = refl
front_drop file image images (suc left) n less =
    let page : page_among (image ∷ images) file n ≡ page_among images file n =
    ap (λ (b : Bool). unwrap_or (cond b (Some image.1) (image_of n images)) (page_of n file)) (ne_eqb image.0 n (λ same. absurd (omega (arith, same, less)))) in
    let rest = front_drop file image images left (n + 1) (omega (arith, less)) in
    λ j. cond (length (page j) == 8_192) (page j ++ rest j) []

front_behind : (file : List ℕ) (images : List (ℕ × List ℕ)) (left n : ℕ) → front (page_among images file) (n + 1) left ≡ front (page_among (left_behind n images) file) (n + 1) left
front_behind file [] left n = refl
front_behind file (image ∷ images) left n = (elim (image.0 == n) as (λ b. (image.0 == n) ≡ b
    → front (page_among (image ∷ images) file) (n + 1) left ≡ front (page_among (cond b images (image ∷ images)) file) (n + 1) left) [
      | true ↦ λ h. front_drop file image images left (n + 1) (omega (arith, eqb-true image.0 n h))
      | false ↦ λ h. refl
    ]) refl

in_two : (page rest : List ℕ) → cond (length page == 8_192) (page ++ rest) [] ≡ if_whole page ++ cond (length page == 8_192) rest []
in_two page rest = elim (length page == 8_192) as (λ b. cond b (page ++ rest) [] ≡ cond b page [] ++ cond b rest []) [
  | true ↦ refl
  | false ↦ refl
]

-- one page more
front_step : (file : List ℕ) (images : List (ℕ × List ℕ)) (n left : ℕ) → AreLeft n images
    → front (page_among images file) n (suc left)
    ≡ if_whole (page_here n images file) ++ cond (length (page_here n images file) == 8_192) (front (page_among (left_behind n images) file) (n + 1) left) []
front_step file images n left are =
    (λ j. cond (length (among_here file n images are j) == 8_192) (among_here file n images are j ++ front_behind file images left n j) [])
    ∙ in_two (page_here n images file) (front (page_among (left_behind n images) file) (n + 1) left)

-- ---- in the loop

module _ (file : List ℕ) (images : List (ℕ × List ℕ)) (n left after : ℕ) (here : left ≡ suc after) (are : AreLeft n images) (old new all : List ℕ)
    (pushed : new ≡ old ++ if_whole (page_here n images file)) (so_far : old ++ front (page_among images file) n left ≡ all) where
  parts : (b : Bool) → (length (page_here n images file) == 8_192) ≡ b → new ++ cond b (front (page_among (left_behind n images) file) (n + 1) after) [] ≡ all
  parts b has =
      let page = if_whole (page_here n images file) in
      let rest : Bool → List ℕ = λ b. cond b (front (page_among (left_behind n images) file) (n + 1) after) [] in
      ap (λ (l : List ℕ). l ++ rest b) pushed ∙ append_assoc old page (rest b) ∙ ap (λ (c : Bool). old ++ (page ++ rest c)) (sym has)
      ∙ ap (λ (l : List ℕ). old ++ l) (sym (front_step file images n after are)) ∙ ap (λ (k : ℕ). old ++ front (page_among images file) n k) (sym here) ∙ so_far

  pub whole_page : (length (page_here n images file) == 8_192) ≡ true → new ++ front (page_among (left_behind n images) file) (n + 1) after ≡ all
  whole_page has = parts true has

  pub last_page : (length (page_here n images file) == 8_192) ≡ false → new ≡ all
  last_page has = sym (append-nil new) ∙ parts false has

-- ---- page 0

pub header_whole : (page : List ℕ) (h : Header) → header_in page ≡ Some h → length page ≡ 8_192
header_whole page h e = (elim (is_page_zero page) as (λ b. is_page_zero page ≡ b → cond b (Some (header_of page)) None ≡ Some h → length page ≡ 8_192) [
  | true ↦ λ is same. eqb-true (length page) 8_192
      (both (length page == 8_192) (pointwise nat_eq (take 8 page) page_magic && ((big_number 4 (drop 12 page) == count_of (header_of page)) && are_zeros (drop 24 page))) is).0
  | false ↦ λ is same. cc
]) refl e

-- page 0 alone, read of its bytes
module _ (file : List ℕ) (images : List (ℕ × List ℕ)) (are : ArePages images) (bytes : List ℕ) (pushed : bytes ≡ if_whole (page_here 0 images file)) where
  left : AreLeft 0 images
  left = record { pages = are; from = all_from_zero images }

  short_zero : (page : List ℕ) → header_in (if_whole page) ≡ header_in page
  short_zero page = (elim (length page == 8_192) as (λ b. (length page == 8_192) ≡ b → header_in (cond b page []) ≡ header_in page) [
    | true ↦ λ h. refl
    | false ↦ λ h. ap (λ (b : Bool). cond (b && (pointwise nat_eq (take 8 page) page_magic && ((big_number 4 (drop 12 page) == count_of (header_of page)) && are_zeros (drop 24 page)))) (Some (header_of page)) None) (sym h)
  ]) refl

  pub zero_same : header_in bytes ≡ header_in (page_among images file 0)
  zero_same = ap header_in pushed ∙ short_zero (page_here 0 images file) ∙ ap header_in (sym (among_here file 0 images left))

  pub zero_first : (h : Header) (after : ℕ) (all : List ℕ) → header_in bytes ≡ Some h → count_of h ≡ suc after
      → all ≡ bytes ++ front (page_among (left_behind 0 images) file) 1 after → all ≡ front (page_among images file) 0 (count_of h)
  zero_first h after all said counted is =
      let whole : length (page_here 0 images file) ≡ 8_192 =
      ap (λ (p : List ℕ). length p) (sym (among_here file 0 images left)) ∙ header_whole (page_among images file 0) h (sym zero_same ∙ said) in
      is ∙ whole_page file images 0 (count_of h) after counted left [] bytes (front (page_among images file) 0 (count_of h)) pushed refl (eq-eqb (length (page_here 0 images file)) 8_192 whole)

-- ---- one page of the file, or one image

pub short_page : (n : ℕ) (file : List ℕ) → length file < 8_192 * n + 8_192 → (length (page_of n file) == 8_192) ≡ false
short_page n file short = ne_eqb (length (page_of n file)) 8_192 (λ whole. absurd (omega (arith, short, whole, length-take 8_192 (drop (8_192 * n) file), length-drop (8_192 * n) file)))

pub long_page : (n : ℕ) (file : List ℕ) → 8_192 * n + 8_192 ≤ length file → (length (page_of n file) == 8_192) ≡ true
long_page n file long = eq-eqb (length (page_of n file)) 8_192 (omega (arith, long, length-take 8_192 (drop (8_192 * n) file), length-drop (8_192 * n) file))

pub none_pushed : (bytes page : List ℕ) → (length page == 8_192) ≡ false → bytes ≡ bytes ++ if_whole page
none_pushed bytes page short = sym (append-nil bytes) ∙ ap (λ (b : Bool). bytes ++ cond b page []) (sym short)

pub one_pushed : (old new frame page : List ℕ) → new ≡ old ++ frame → frame ≡ page → (length page == 8_192) ≡ true → new ≡ old ++ if_whole page
one_pushed old new frame page is same long = is ∙ ap (λ (l : List ℕ). old ++ l) same ∙ ap (λ (b : Bool). old ++ cond b page []) (sym long)

pub here_other : (n : ℕ) (images : List (ℕ × List ℕ)) (file : List ℕ) → begins_with n images ≡ false → page_here n images file ≡ page_of n file
here_other n [] file other = refl
here_other n (image ∷ images) file other = ap (λ (b : Bool). cond b image.1 (page_of n file)) other

pub left_other : (n : ℕ) (images : List (ℕ × List ℕ)) → begins_with n images ≡ false → left_behind n images ≡ images
left_other n [] other = refl
left_other n (image ∷ images) other = ap (λ (b : Bool). cond b images (image ∷ images)) other

pub next_within : (n next : ℕ) (images : List (ℕ × List ℕ)) → begins_with n (drop next images) ≡ true → next < length images
next_within n next images begins = within (drop next images) begins (length-drop next images)
  where
    within : (rest : List (ℕ × List ℕ)) → begins_with n rest ≡ true → length rest ≡ length images - next → next < length images
    within [] e long = cc
    within (image ∷ rest) e long = omega (arith, long)

module _ (n next : ℕ) (images : List (ℕ × List ℕ)) (item : ℕ × List ℕ) (within : next < length images) (at : item ≡ get_or images next item) (begins : begins_with n (drop next images) ≡ true) where
  rest_is : drop next images ≡ item ∷ drop (next + 1) images
  rest_is = drop-cons images next item within ∙ (λ i. sym at i ∷ drop (sym (add-one next) i) images)

  is_first : (item.0 == n) ≡ true
  is_first = ap (begins_with n) (sym rest_is) ∙ begins

  pub here_next : (file : List ℕ) → page_here n (drop next images) file ≡ item.1
  here_next file = ap (λ (l : List (ℕ × List ℕ)). page_here n l file) rest_is ∙ ap (λ (b : Bool). cond b item.1 (page_of n file)) is_first

  pub left_next : drop (next + 1) images ≡ left_behind n (drop next images)
  left_next = sym (ap (left_behind n) rest_is ∙ ap (λ (b : Bool). cond b (drop (next + 1) images) (item ∷ drop (next + 1) images)) is_first)

  pub whole_next : ArePages (drop next images) → length item.1 ≡ 8_192
  whole_next are = (subst ArePages rest_is are).whole.0

-- ---- answers

pub on_ok_then : {T E : Type 0} (r : Result T E) (P Q : Type 0) → (P → Q) → OnOk r P → OnOk r Q
on_ok_then (Ok x) P Q leads h = leads h
on_ok_then (Err e) P Q leads h = tt

pub on_ok_always : {T E : Type 0} (r : Result T E) (P : Type 0) → P → OnOk r P
on_ok_always (Ok x) P p = p
on_ok_always (Err e) P p = tt

pub not_false : (b : Bool) → not b ≡ false → b ≡ true
not_false true e = refl
not_false false e = cc

pub not_true : (b : Bool) → not b ≡ true → b ≡ false
not_true true e = cc
not_true false e = refl

pub error_of : {T : Type 0} {a b : SeqError} → ◌≡◌ {A = Result T SeqError} (Err a) (Err b) → a ≡ b
error_of e = cc
