-- The pages of a cut that a file doesn't have: how they are gathered, and that with them put in the file has the cut's pages.
use Rattle.std.proofs.Common.{◌≡◌, ◌≤◌, ◌<◌, ◌==◌, ℕ, zero, suc, ◌+◌, ◌*◌, ◌^◌, max, nat_lt, Bool, true, false, cond, List, [], ◌∷◌, ◌++◌, length, take, drop, get_or, Option, Some, None, unwrap_or, refl, sym, ap, subst, ◌∙◌, arith, append_assoc, length-append}
use Rattle.std.proofs.lemmas.Bool.{and_from, eq-eqb, eqb-true, ne_eqb, lt-ltb}
use Rattle.std.proofs.lemmas.List.{append-nil, length-take, length-drop, take_more}
use Rattle.std.specs.Cmp.Lexicographic.{pointwise}
use Rattle.std.specs.List.{AllByRecursion}
use Rattle.std.specs.Prelude.{nat_eq}
use Rattle.byteorder.specs.Endian.{big_bytes}
use Rattle.page_store.specs.Pages.{page_of}
use Rattle.tree_model.proofs.Lists.{all_append, all_on}
use Rattle.node_records.proofs.ReadLaws.{both}
use Rattle.page_store.specs.Images.{AreImages, Rising}
use Rattle.journal.specs.PageImages.{IsPageImage, images_body, images_bytes, numbers_rise}
use Rattle.store_contents.specs.Contents.{image_of}
use Rattle.checkpoint.specs.NewPages.{has_page, image_unless, new_pages}
use Rattle.checkpoint.specs.inside.Gathered.{AreGathered, AreWhole}

bytes_same : (xs ys : List ℕ) → pointwise nat_eq xs ys ≡ true → xs ≡ ys
bytes_same [] [] h = refl
bytes_same [] (y ∷ ys) h = cc
bytes_same (x ∷ xs) [] h = cc
bytes_same (x ∷ xs) (y ∷ ys) h = let parts = both (nat_eq x y) (pointwise nat_eq xs ys) h in (λ i. eqb-true x y parts.0 i ∷ bytes_same xs ys parts.1 i)

-- a file that ends before a page does hasn't this page
pub short_differs : (n : ℕ) (page file : List ℕ) → length page ≡ 8_192 → length file < 8_192 * n + 8_192 → has_page n page file ≡ false
short_differs n page file whole short = (elim (has_page n page file) as (λ b. has_page n page file ≡ b → b ≡ false) [
  | true ↦ λ h.
      let same = ap (λ (b : List ℕ). length b) (bytes_same page (page_of n file) h) in
      absurd (omega (arith, same, whole, short, length-take 8_192 (drop (8_192 * n) file), length-drop (8_192 * n) file))
  | false ↦ λ h. refl
]) refl

-- ---- whole pages

-- one of them
pub whole_at : (pages : List (List ℕ)) (i : ℕ) (page : List ℕ) → AreWhole pages → i < length pages → page ≡ get_or pages i page → length page ≡ 8_192
whole_at [] i page whole less at = absurd (omega (arith, less))
whole_at (p ∷ ps) zero page whole less at = ap (λ (b : List ℕ). length b) at ∙ whole.0
whole_at (p ∷ ps) (suc i) page whole less at = whole_at ps i page whole.1 (omega (arith, less)) at

-- one more of them
pub whole_more : (pages : List (List ℕ)) (i : ℕ) (page : List ℕ) → AreWhole (take i pages) → i < length pages → page ≡ get_or pages i page → length page ≡ 8_192 → AreWhole (take (i + 1) pages)
whole_more pages i page so_far less at whole =
    subst AreWhole (sym (take_more pages i page less ∙ ap (λ (p : List ℕ). take i pages ++ p ∷ []) (sym at)))
    (all_append (λ (p : List ℕ). length p ≡ 8_192) (take i pages) (page ∷ []) so_far (whole, tt))

-- ---- one page more

abbrev image_if_new : ℕ → List ℕ → List ℕ → List (ℕ × List ℕ)
image_if_new n page file = image_unless (has_page n page file) n page

one_more : (n : ℕ) (pages : List (List ℕ)) (page file : List ℕ) → new_pages n (pages ++ page ∷ []) file ≡ new_pages n pages file ++ image_if_new (n + length pages) page file
one_more n [] page file = let same : n ≡ n + 0 = omega arith in ap (λ (k : ℕ). image_if_new k page file) same
one_more n (p ∷ ps) page file =
    let same : n + 1 + length ps ≡ n + suc (length ps) = omega arith in
    let rest : new_pages (n + 1) (ps ++ page ∷ []) file ≡ new_pages (n + 1) ps file ++ image_if_new (n + suc (length ps)) page file =
    one_more (n + 1) ps page file ∙ ap (λ (k : ℕ). new_pages (n + 1) ps file ++ image_if_new k page file) same in
    elim (has_page n p file) as (λ b. cond b (new_pages (n + 1) (ps ++ page ∷ []) file) ((n, p) ∷ new_pages (n + 1) (ps ++ page ∷ []) file)
    ≡ cond b (new_pages (n + 1) ps file) ((n, p) ∷ new_pages (n + 1) ps file) ++ image_if_new (n + suc (length ps)) page file) [
      | true ↦ rest
      | false ↦ ap (λ (l : List (ℕ × List ℕ)). (n, p) ∷ l) rest
    ]

pages_at : (cut : List (List ℕ)) (i : ℕ) (page file : List ℕ) → i < length cut → page ≡ get_or cut i page
    → new_pages 0 (take (i + 1) cut) file ≡ new_pages 0 (take i cut) file ++ image_if_new i page file
pages_at cut i page file less at =
    let taken : 0 + length (take i cut) ≡ i = omega (arith, less, length-take i cut) in
    ap (λ (l : List (List ℕ)). new_pages 0 l file) (take_more cut i page less ∙ ap (λ (p : List ℕ). take i cut ++ p ∷ []) (sym at))
    ∙ one_more 0 (take i cut) page file
    ∙ ap (λ (k : ℕ). new_pages 0 (take i cut) file ++ image_if_new k page file) taken

-- the images of one page more
pub pages_more : (cut : List (List ℕ)) (i : ℕ) (page file : List ℕ) (has : Bool) (images more : List (ℕ × List ℕ)) → i < length cut → page ≡ get_or cut i page → has ≡ has_page i page file
    → images ≡ new_pages 0 (take i cut) file → more ≡ images ++ image_unless has i page → more ≡ new_pages 0 (take (i + 1) cut) file
pages_more cut i page file has images more less at answer so_far pushed =
    pushed ∙ (λ j. so_far j ++ image_unless (answer j) i page) ∙ sym (pages_at cut i page file less at)

-- ---- what was gathered

pub none_gathered : AreGathered 0 []
none_gathered = record { below = tt; whole = tt; rising = tt; few = omega arith }

pub gathered_wider : (n m : ℕ) (images : List (ℕ × List ℕ)) → n ≤ m → AreGathered n images → AreGathered m images
gathered_wider n m images le are = record {
  below = all_on (λ (image : ℕ × List ℕ). image.0 < n) (λ (image : ℕ × List ℕ). image.0 < m) (λ image less. omega (arith, less, le)) images are.below;
  whole = are.whole;
  rising = are.rising;
  few = omega (arith, are.few, le);
}

rising_more : (images : List (ℕ × List ℕ)) (image : ℕ × List ℕ) → Rising images → AllByRecursion (λ earlier. earlier.0 < image.0) images → Rising (images ++ image ∷ [])
rising_more [] image rise below = (tt, tt)
rising_more (first ∷ images) image rise below =
    (all_append (λ (later : ℕ × List ℕ). first.0 < later.0) images (image ∷ []) rise.0 (below.0, tt), rising_more images image rise.1 below.1)

gathered_more : (n : ℕ) (images : List (ℕ × List ℕ)) (page : List ℕ) → AreGathered n images → length page ≡ 8_192 → AreGathered (n + 1) (images ++ (n, page) ∷ [])
gathered_more n images page are whole =
    let wider : AreGathered (n + 1) images = gathered_wider n (n + 1) images (omega arith) are in
    record {
      below = all_append (λ (image : ℕ × List ℕ). image.0 < n + 1) images ((n, page) ∷ []) wider.below (omega arith, tt);
      whole = all_append (λ (image : ℕ × List ℕ). length image.1 ≡ 8_192) images ((n, page) ∷ []) are.whole (whole, tt);
      rising = rising_more images (n, page) are.rising are.below;
      few = omega (arith, are.few, length-append images ((n, page) ∷ []));
    }

pub gathered_on : (n : ℕ) (images more : List (ℕ × List ℕ)) (page : List ℕ) (has : Bool) → AreGathered n images → length page ≡ 8_192 → more ≡ images ++ image_unless has n page → AreGathered (n + 1) more
gathered_on n images more page true are whole pushed = subst (AreGathered (n + 1)) (sym (pushed ∙ append-nil images)) (gathered_wider n (n + 1) images (omega arith) are)
gathered_on n images more page false are whole pushed = subst (AreGathered (n + 1)) (sym pushed) (gathered_more n images page are whole)

-- ---- as the body of a group

-- an image more at the end of what was written
pub body_more : (body head page rest all : List ℕ) → body ++ ((head ++ page) ++ rest) ≡ all → ((body ++ head) ++ page) ++ rest ≡ all
body_more body head page rest all e =
    append_assoc (body ++ head) page rest ∙ append_assoc body head (page ++ rest) ∙ ap (λ (l : List ℕ). body ++ l) (sym (append_assoc head page rest)) ∙ e

numbers_more : (image next : ℕ × List ℕ) (images : List (ℕ × List ℕ)) → image.0 < next.0 → numbers_rise (next ∷ images) ≡ true → numbers_rise (image ∷ next ∷ images) ≡ true
numbers_more image next images less rest = and_from (nat_lt image.0 next.0) (numbers_rise (next ∷ images)) (lt-ltb image.0 next.0 less) rest

pub rising_numbers : (images : List (ℕ × List ℕ)) → Rising images → numbers_rise images ≡ true
rising_numbers [] rise = refl
rising_numbers (image ∷ []) rise = refl
rising_numbers (image ∷ next ∷ images) rise = numbers_more image next images rise.0.0 (rising_numbers (next ∷ images) rise.1)

pub page_images_are : (count : ℕ) (images : List (ℕ × List ℕ)) → count ≤ 32_768 → AreGathered count images → AllByRecursion IsPageImage images
page_images_are count [] few are = tt
page_images_are count (image ∷ images) few are = (
  record { fits = omega (arith, are.below.0, few); whole = are.whole.0 },
  page_images_are count images few (record { below = are.below.1; whole = are.whole.1; rising = are.rising.1; few = omega (arith, are.few) }),
)

length-images_bytes : (images : List (ℕ × List ℕ)) → AllByRecursion (λ image. length image.1 ≡ 8_192) images → length (images_bytes images) ≡ 8_196 * length images
length-images_bytes [] whole = refl
length-images_bytes (image ∷ images) whole =
    let rest = length-images_bytes images whole.1 in
    omega (arith, rest, whole.0, length-append (big_bytes 4 image.0 ++ image.1) (images_bytes images), length-append (big_bytes 4 image.0) image.1)

pub short_body : (count : ℕ) (images : List (ℕ × List ℕ)) → count ≤ 32_768 → AreGathered count images → length (images_body images) < 2 ^ 32
short_body count images few are = omega (arith, few, are.few, length-images_bytes images are.whole, length-append (big_bytes 4 (length images)) (images_bytes images))

-- ---- put into the file

-- images of later pages are none of this one's
later_lack : (n : ℕ) (pages : List (List ℕ)) (file : List ℕ) (k : ℕ) → k < n → image_of k (new_pages n pages file) ≡ None
later_lack n [] file k less = refl
later_lack n (page ∷ pages) file k less =
    let rest = later_lack (n + 1) pages file k (omega (arith, less)) in
    let other : (n == k) ≡ false = ne_eqb n k (λ same. absurd (omega (arith, same, less))) in
    elim (has_page n page file) as (λ b. image_of k (cond b (new_pages (n + 1) pages file) ((n, page) ∷ new_pages (n + 1) pages file)) ≡ None) [
      | true ↦ rest
      | false ↦ ap (λ (b : Bool). cond b (Some page) (image_of k (new_pages (n + 1) pages file))) other ∙ rest
    ]

-- each page of the cut is the file's, with the images put in
page_there : (pages : List (List ℕ)) (n k : ℕ) (file : List ℕ) → k < length pages → unwrap_or (image_of (n + k) (new_pages n pages file)) (page_of (n + k) file) ≡ get_or pages k []
page_there [] n k file less = absurd (omega (arith, less))
page_there (page ∷ pages) n zero file less =
    let here : n + 0 ≡ n = omega arith in
    let same : (n == n + 0) ≡ true = eq-eqb n (n + 0) (sym here) in
    (elim (has_page n page file) as (λ b. has_page n page file ≡ b
    → unwrap_or (image_of (n + 0) (cond b (new_pages (n + 1) pages file) ((n, page) ∷ new_pages (n + 1) pages file))) (page_of (n + 0) file) ≡ page) [
      | true ↦ λ h. ap (λ (o : Option (List ℕ)). unwrap_or o (page_of (n + 0) file)) (later_lack (n + 1) pages file (n + 0) (omega arith))
          ∙ ap (λ (m : ℕ). page_of m file) here ∙ sym (bytes_same page (page_of n file) h)
      | false ↦ λ h. ap (λ (b : Bool). unwrap_or (cond b (Some page) (image_of (n + 0) (new_pages (n + 1) pages file))) (page_of (n + 0) file)) same
    ]) refl
page_there (page ∷ pages) n (suc k) file less =
    let next : n + 1 + k ≡ n + suc k = omega arith in
    let other : (n == n + suc k) ≡ false = ne_eqb n (n + suc k) (λ same. absurd (omega (arith, same))) in
    let rest : unwrap_or (image_of (n + suc k) (new_pages (n + 1) pages file)) (page_of (n + suc k) file) ≡ get_or pages k [] =
    ap (λ (m : ℕ). unwrap_or (image_of m (new_pages (n + 1) pages file)) (page_of m file)) (sym next) ∙ page_there pages (n + 1) k file (omega (arith, less)) in
    elim (has_page n page file) as (λ b. unwrap_or (image_of (n + suc k) (cond b (new_pages (n + 1) pages file) ((n, page) ∷ new_pages (n + 1) pages file))) (page_of (n + suc k) file) ≡ get_or pages k []) [
      | true ↦ rest
      | false ↦ ap (λ (b : Bool). unwrap_or (cond b (Some page) (image_of (n + suc k) (new_pages (n + 1) pages file))) (page_of (n + suc k) file)) other ∙ rest
    ]

pub page_found : (cut : List (List ℕ)) (n : ℕ) (file : List ℕ) → n < length cut → unwrap_or (image_of n (new_pages 0 cut file)) (page_of n file) ≡ get_or cut n []
page_found cut n file less =
    let same : n ≡ 0 + n = omega arith in
    ap (λ (m : ℕ). unwrap_or (image_of m (new_pages 0 cut file)) (page_of m file)) same ∙ page_there cut 0 n file less

-- whole pages can be written one after another: none begins behind the file's end
pub installable : (pages : List (List ℕ)) (n count : ℕ) (file : List ℕ) → AreWhole pages → 8_192 * n ≤ count → length file ≤ count → AreImages count (new_pages n pages file)
installable [] n count file whole within longer = tt
installable (page ∷ pages) n count file whole within longer = (elim (has_page n page file) as (λ b. has_page n page file ≡ b
    → AreImages count (cond b (new_pages (n + 1) pages file) ((n, page) ∷ new_pages (n + 1) pages file))) [
      | true ↦ λ h.
          let same = ap (λ (b : List ℕ). length b) (bytes_same page (page_of n file) h) in
          installable pages (n + 1) count file whole.1
          (omega (arith, same, whole.0, longer, length-take 8_192 (drop (8_192 * n) file), length-drop (8_192 * n) file)) longer
      | false ↦ λ h. (whole.0, within, installable pages (n + 1) (max count (8_192 * n + 8_192)) file whole.1 (omega arith) (omega (arith, longer)))
    ]) refl
