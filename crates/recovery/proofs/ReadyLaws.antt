-- Images that are written in place one after another, and that these are all below the count where the pages with them hold a map.
use Rattle.std.proofs.Common.{◌≡◌, ◌≤◌, ◌<◌, ◌==◌, ◌&&◌, ℕ, zero, suc, ◌+◌, ◌-◌, ◌*◌, max, nat_lt, Bool, true, false, cond, List, [], ◌∷◌, length, take, drop, get_or, Option, Some, None, Ok, unwrap_or, add-one, drop-cons, ⊎_elim, refl, sym, ap, subst, ◌∙◌, arith}
use Rattle.std.proofs.lemmas.Bool.{and_from, cases_lt, eq-eqb, eqb-true, le-leb, leb-true, le-ltb, lt-ltb, ltb-true, ne_eqb}
use Rattle.std.proofs.lemmas.List.{length-take, length-drop, take-append-drop}
use Rattle.std.specs.List.{AllByRecursion}
use Rattle.std.specs.Prelude.{nat_le}
use Rattle.page_store.specs.Pages.{ArePagesOf, IsPageOf, page_of}
use Rattle.page_store.specs.Images.{AreImages, Lacks, Rising}
use Rattle.tree_model.proofs.Lists.{all_append, all_on}
use Rattle.node_records.proofs.ReadLaws.{both}
use Rattle.node_pages.specs.PageZero.{Header, count_of, header_in}
use Rattle.node_pages.specs.PagesIn.{pages_in}
use Rattle.tree_model.specs.Entries.{Entries}
use Rattle.store_contents.specs.Contents.{image_of, page_among}
use Rattle.store_contents.specs.MadePages.{AreMade}
use Rattle.store_contents.proofs.WholePages.{long_below}
use Rattle.journal.specs.declared.group.Images.{Images}
use Rattle.recovery.specs.inside.Finishing.{ArePages, AreSound, StandFrom, is_ready, ready_front, stands_above}
use Rattle.recovery.proofs.GatherLaws.{above_first, all_from_zero, later_pages, none_of}

-- ---- what is asked of images that are written

pub record IsReady (count size : ℕ) (last : Option ℕ) (image : ℕ × List ℕ) : Type 0 where
  pub below : image.0 < count
  pub whole : length image.1 ≡ 8_192
  pub above : stands_above last image.0 ≡ true
  pub within : 8_192 * image.0 ≤ size

ready_parts : (count size : ℕ) (last : Option ℕ) (image : ℕ × List ℕ) → is_ready count size last image ≡ true → IsReady count size last image
ready_parts count size last image h =
    let halves = both (nat_lt image.0 count && (length image.1 == 8_192)) (stands_above last image.0 && nat_le (8_192 * image.0) size) h in
    let first = both (nat_lt image.0 count) (length image.1 == 8_192) halves.0 in
    let second = both (stands_above last image.0) (nat_le (8_192 * image.0) size) halves.1 in
    record { below = ltb-true image.0 count first.0; whole = eqb-true (length image.1) 8_192 first.1; above = second.0; within = leb-true (8_192 * image.0) size second.1 }

ready_of : (count size : ℕ) (last : Option ℕ) (image : ℕ × List ℕ) → IsReady count size last image → is_ready count size last image ≡ true
ready_of count size last image is =
    and_from (nat_lt image.0 count && (length image.1 == 8_192)) (stands_above last image.0 && nat_le (8_192 * image.0) size)
    (and_from (nat_lt image.0 count) (length image.1 == 8_192) (lt-ltb image.0 count is.below) (eq-eqb (length image.1) 8_192 is.whole))
    (and_from (stands_above last image.0) (nat_le (8_192 * image.0) size) is.above (le-leb (8_192 * image.0) size is.within))

pub ready_images : (count size : ℕ) (last : Option ℕ) (images : List (ℕ × List ℕ)) → AreImages size (take (ready_front count size last images) images)
ready_images count size last [] = tt
ready_images count size last (image ∷ images) = (elim (is_ready count size last image) as (λ b. is_ready count size last image ≡ b
    → AreImages size (take (cond b (suc (ready_front count (max size (8_192 * image.0 + 8_192)) (Some image.0) images)) 0) (image ∷ images))) [
      | true ↦ λ h. let is = ready_parts count size last image h in (is.whole, is.within, ready_images count (max size (8_192 * image.0 + 8_192)) (Some image.0) images)
      | false ↦ λ h. tt
    ]) refl

ready_above : (count size low : ℕ) (images : List (ℕ × List ℕ)) → AllByRecursion (λ later. low < later.0) (take (ready_front count size (Some low) images) images)
ready_above count size low [] = tt
ready_above count size low (image ∷ images) = (elim (is_ready count size (Some low) image) as (λ b. is_ready count size (Some low) image ≡ b
    → AllByRecursion (λ later. low < later.0) (take (cond b (suc (ready_front count (max size (8_192 * image.0 + 8_192)) (Some image.0) images)) 0) (image ∷ images))) [
      | true ↦ λ h.
          let is = ready_parts count size (Some low) image h in
          let less : low < image.0 = ltb-true low image.0 is.above in
          let rest = take (ready_front count (max size (8_192 * image.0 + 8_192)) (Some image.0) images) images in (
            less,
            all_on (λ (later : ℕ × List ℕ). image.0 < later.0) (λ (later : ℕ × List ℕ). low < later.0) (λ later more. omega (arith, less, more)) rest
                (ready_above count (max size (8_192 * image.0 + 8_192)) image.0 images),
          )
      | false ↦ λ h. tt
    ]) refl

pub ready_rising : (count size : ℕ) (last : Option ℕ) (images : List (ℕ × List ℕ)) → Rising (take (ready_front count size last images) images)
ready_rising count size last [] = tt
ready_rising count size last (image ∷ images) = elim (is_ready count size last image) as (λ b.
    Rising (take (cond b (suc (ready_front count (max size (8_192 * image.0 + 8_192)) (Some image.0) images)) 0) (image ∷ images))) [
      | true ↦ (ready_above count (max size (8_192 * image.0 + 8_192)) image.0 images, ready_rising count (max size (8_192 * image.0 + 8_192)) (Some image.0) images)
      | false ↦ tt
    ]

-- ---- these are all below the count

-- each page from this one on, below the count, of which there is no image, lies within the file
abbrev HasOthers : List ℕ → ℕ → ℕ → List (ℕ × List ℕ) → Type 0
HasOthers file count from images = (n : ℕ) → from ≤ n → n < count → image_of n images ≡ None → 8_192 * n + 8_192 ≤ length file

module _ (file : List ℕ) (count : ℕ) where
  fits : (image : ℕ × List ℕ) (images : List (ℕ × List ℕ)) (from size : ℕ) → ArePages (image ∷ images) → StandFrom from (image ∷ images) → 8_192 * from ≤ size → length file ≤ size
      → HasOthers file count from (image ∷ images) → image.0 < count → 8_192 * image.0 ≤ size
  fits image images from size are stand before longer others below = ⊎_elim
      (λ (behind : from < image.0).
      let n = image.0 - 1 in
      let none : image_of n (image ∷ images) ≡ None =
      none_of n (image ∷ images) (omega (arith, behind), above_first n image images (omega arith) are.rising) in
      omega (arith, behind, longer, others n (omega (arith, behind)) (omega (arith, below)) none))
      (λ (at : image.0 ≤ from). omega (arith, at, before))
      (cases_lt from image.0)

  pub ready_all : (images : List (ℕ × List ℕ)) (from size : ℕ) (last : Option ℕ) → ArePages images → StandFrom from images → 8_192 * from ≤ size → length file ≤ size
      → ((n : ℕ) → from ≤ n → stands_above last n ≡ true) → HasOthers file count from images
      → AllByRecursion (λ image. count ≤ image.0) (drop (ready_front count size last images) images)
  ready_all [] from size last are stand before longer above others = tt
  ready_all (image ∷ images) from size last are stand before longer above others = ⊎_elim
      (λ (below : image.0 < count).
      let is : IsReady count size last image = record {
        below = below;
        whole = are.whole.0;
        above = above image.0 stand.0;
        within = fits image images from size are stand before longer others below;
      } in
      let after = max size (8_192 * image.0 + 8_192) in
      subst (λ (b : Bool). AllByRecursion (λ (later : ℕ × List ℕ). count ≤ later.0) (drop (cond b (suc (ready_front count after (Some image.0) images)) 0) (image ∷ images))) (sym (ready_of count size last image is))
      (ready_all images (image.0 + 1) after (Some image.0) (later_pages image images are)
      (all_on (λ (later : ℕ × List ℕ). image.0 < later.0) (λ (later : ℕ × List ℕ). image.0 + 1 ≤ later.0) (λ later more. omega (arith, more)) images are.rising.0)
      (omega arith) (omega (arith, longer)) (λ n le. lt-ltb image.0 n (omega (arith, le)))
      (λ n le less none. others n (omega (arith, le, stand.0)) less
      (ap (λ (b : Bool). cond b (Some image.1) (image_of n images)) (ne_eqb image.0 n (λ same. absurd (omega (arith, same, le)))) ∙ none))))
      (λ (past : count ≤ image.0).
      subst (λ (b : Bool). AllByRecursion (λ (later : ℕ × List ℕ). count ≤ later.0)
      (drop (cond ((b && (length image.1 == 8_192)) && (stands_above last image.0 && nat_le (8_192 * image.0) size)) (suc (ready_front count (max size (8_192 * image.0 + 8_192)) (Some image.0) images)) 0) (image ∷ images)))
      (sym (le-ltb image.0 count past))
      (past, all_on (λ (later : ℕ × List ℕ). image.0 < later.0) (λ (later : ℕ × List ℕ). count ≤ later.0) (λ later more. omega (arith, past, more)) images are.rising.0))
      (cases_lt image.0 count)

all_taken : {A : Type 0} (P : A → Type 0) (k : ℕ) (xs : List A) → AllByRecursion P xs → AllByRecursion P (take k xs)
all_taken P zero xs all = tt
all_taken P (suc k) [] all = tt
all_taken P (suc k) (x ∷ xs) all = (all.0, all_taken P k xs all.1)

pub fewer_lack : (n k : ℕ) (images : List (ℕ × List ℕ)) → Lacks n images → Lacks n (take k images)
fewer_lack n k images lacks = all_taken _ k images lacks

module _ (file : List ℕ) (images : Images) (count : ℕ) (are : ArePages images.pages) (sound : AreSound file images count) (held : Entries × ℕ) (hold : pages_in (page_among images.pages file) ≡ Ok held) (size : ℕ) (long : size ≡ length file) where
  ready : ℕ
  ready = ready_front count size None images.pages

  others : HasOthers file count 0 images.pages
  others n le below none =
      let longs : 8_192 ≤ length (page_among images.pages file n) =
      long_below (page_among images.pages file) held hold sound.header sound.said n (omega (arith, below, sound.counted)) in
      let own : 8_192 ≤ length (page_of n file) = subst (λ (o : Option (List ℕ)). 8_192 ≤ length (unwrap_or o (page_of n file))) none longs in
      omega (arith, own, length-take 8_192 (drop (8_192 * n) file), length-drop (8_192 * n) file)

  rest_past : AllByRecursion (λ image. count ≤ image.0) (drop (ready_front count size None images.pages) images.pages)
  rest_past = ready_all file count images.pages 0 size None are (all_from_zero images.pages) (omega arith) (omega (arith, long)) (λ n le. refl) others

  pub made_below : (h : Header) → header_in (page_among images.pages file 0) ≡ Some h → (made : List ℕ) → ArePagesOf made (take (ready_front count size None images.pages) images.pages) → AreMade (count_of h) made images.pages
  made_below h said made pages =
      let same : count ≡ count_of h = sound.counted ∙ ap count_of (header_told (sym sound.said ∙ said)) in
      subst (AreMade (count_of h) made) (take-append-drop (ready_front count size None images.pages) images.pages)
      (all_append (λ (image : ℕ × List ℕ). image.0 < count_of h → IsPageOf made image) (take (ready_front count size None images.pages) images.pages) (drop (ready_front count size None images.pages) images.pages)
      (all_on (IsPageOf made) (λ (image : ℕ × List ℕ). image.0 < count_of h → IsPageOf made image) (λ image is below. is) (take (ready_front count size None images.pages) images.pages) pages)
      (all_on (λ (image : ℕ × List ℕ). count ≤ image.0) (λ (image : ℕ × List ℕ). image.0 < count_of h → IsPageOf made image) (λ image past below. absurd (omega (arith, same, past, below)))
      (drop (ready_front count size None images.pages) images.pages) rest_past))
    where
      header_told : {a b : Header} → Some a ≡ Some b → a ≡ b
      header_told e = cc

-- ---- counted one after another

module _ (count size : ℕ) (last : Option ℕ) (images : List (ℕ × List ℕ)) (i : ℕ) where
  pub front_ended : length images ≤ i → ready_front count size last (drop i images) ≡ 0
  front_ended past = none (drop i images) (omega (arith, past, length-drop i images))
    where
      none : (rest : List (ℕ × List ℕ)) → length rest ≡ 0 → ready_front count size last rest ≡ 0
      none [] long = refl
      none (image ∷ rest) long = absurd (omega (arith, long))

  module _ (item : ℕ × List ℕ) (within : i < length images) (at : item ≡ get_or images i item) where
    rest_is : drop i images ≡ item ∷ drop (i + 1) images
    rest_is = drop-cons images i item within ∙ (λ j. sym at j ∷ drop (sym (add-one i) j) images)

    pub front_more : is_ready count size last item ≡ true
        → ready_front count size last (drop i images) ≡ suc (ready_front count (max size (8_192 * item.0 + 8_192)) (Some item.0) (drop (i + 1) images))
    front_more goes =
        ap (ready_front count size last) rest_is
        ∙ ap (λ (b : Bool). cond b (suc (ready_front count (max size (8_192 * item.0 + 8_192)) (Some item.0) (drop (i + 1) images))) 0) goes

    pub front_stops : is_ready count size last item ≡ false → ready_front count size last (drop i images) ≡ 0
    front_stops stops =
        ap (ready_front count size last) rest_is
        ∙ ap (λ (b : Bool). cond b (suc (ready_front count (max size (8_192 * item.0 + 8_192)) (Some item.0) (drop (i + 1) images))) 0) stops
