-- Reading images one by one is reading them all.
use Rattle.std.proofs.Common.{◌≡◌, ℕ, zero, suc, ◌<◌, ◌≤◌, ◌^◌, IsTrue, nat_lt, List, [], ◌∷◌, ◌++◌, length, take, drop, Option, Some, None, refl, sym, ◌∙◌, ap, arith, append_assoc, length-append, length-take, take-append-drop}
use Rattle.std.specs.Prelude.{option_and_then, option_map, if◌then◌else◌}
use Rattle.std.specs.List.{AllByRecursion}
use Rattle.std.proofs.lemmas.Bool.{cond-true, cond-false, lt-ltb, le-ltb}
use Rattle.std.proofs.lemmas.List.{append-nil, drop-take, drop_at, take_at}
use Rattle.byteorder.specs.Endian.{big_bytes, big_number}
use Rattle.byteorder.specs.Numbers.{big_from-append, big_number-reads_back, length-bytes_high_first}
use Rattle.journal.specs.PageImages.{IsPageImage, images_body, images_bytes, images_in, images_of, numbers_rise}

-- these images before those that are found
abbrev pub with_pages : List (ℕ × List ℕ) → Option (List (ℕ × List ℕ)) → Option (List (ℕ × List ℕ))
with_pages pages found = option_map (λ (more : List (ℕ × List ℕ)). pages ++ more) found

pub with_none : (found : Option (List (ℕ × List ℕ))) → with_pages [] found ≡ found
with_none None = refl
with_none (Some more) = refl

with_one : (pages : List (ℕ × List ℕ)) (page : ℕ × List ℕ) (found : Option (List (ℕ × List ℕ))) → with_pages pages (option_map (λ (more : List (ℕ × List ℕ)). page ∷ more) found) ≡ with_pages (pages ++ page ∷ []) found
with_one pages page None = refl
with_one pages page (Some more) = ap Some (sym (append_assoc pages (page ∷ []) more))

-- one image more
pub one_image : (pages : List (ℕ × List ℕ)) (left after : ℕ) (rest : List ℕ) → left ≡ suc after → 8_196 ≤ length rest
    → with_pages pages (images_of left rest) ≡ with_pages (pages ++ (big_number 4 rest, take 8_192 (drop 4 rest)) ∷ []) (images_of after (drop 8_196 rest))
unfolding images_of
one_image pages left after rest is long =
    ap (λ (n : ℕ). with_pages pages (images_of n rest)) is
    ∙ ap (with_pages pages) (cond-false (nat_lt (length rest) 8_196) _ _ (le-ltb (length rest) 8_196 long))
    ∙ with_one pages (big_number 4 rest, take 8_192 (drop 4 rest)) (images_of after (drop 8_196 rest))

-- too few bytes for one more
pub no_image : (pages : List (ℕ × List ℕ)) (left : ℕ) (rest : List ℕ) → 0 < left → length rest < 8_196 → with_pages pages (images_of left rest) ≡ None
unfolding images_of
no_image pages zero rest some short = absurd (omega (arith, some))
no_image pages (suc left) rest some short = ap (with_pages pages) (cond-true (nat_lt (length rest) 8_196) _ _ (lt-ltb (length rest) 8_196 short))

-- all are read
pub last_image : (pages : List (ℕ × List ℕ)) (left : ℕ) (rest : List ℕ) → left ≡ 0 → length rest ≡ 0 → with_pages pages (images_of left rest) ≡ Some pages
unfolding images_of
last_image pages zero [] is none = ap Some (append-nil pages)
last_image pages zero (b ∷ rest) is none = absurd (omega (arith, none))
last_image pages (suc left) rest is none = absurd (omega (arith, is))

-- and bytes are left
pub bytes_left : (pages : List (ℕ × List ℕ)) (left : ℕ) (rest : List ℕ) → left ≡ 0 → 0 < length rest → with_pages pages (images_of left rest) ≡ None
unfolding images_of
bytes_left pages zero [] is some = absurd (omega (arith, some))
bytes_left pages zero (b ∷ rest) is some = refl
bytes_left pages (suc left) rest is some = absurd (omega (arith, is))

-- a page was read of the bytes that stood first
pub image_more : (pages : List (ℕ × List ℕ)) (left after : ℕ) (rest image behind : List ℕ) (page : ℕ × List ℕ) (found : Option (List (ℕ × List ℕ)))
    → left ≡ suc after → 8_196 ≤ length rest → image ≡ take 8_196 rest → behind ≡ drop 8_196 rest → page.0 ≡ big_number 4 image → page.1 ≡ drop 4 image
    → with_pages pages (images_of left rest) ≡ found → with_pages (pages ++ page ∷ []) (images_of after behind) ≡ found
image_more pages left after rest image behind page found is long front back number bytes so_far =
    let n : page.0 ≡ big_number 4 rest =
    number ∙ ap (big_number 4) front ∙ sym (big_from-append 4 (take 8_196 rest) (drop 8_196 rest) (omega (arith, long, length-take 8_196 rest)))
    ∙ ap (big_number 4) (take-append-drop 8_196 rest) in
    let b : page.1 ≡ take 8_192 (drop 4 rest) = bytes ∙ ap (drop 4) front ∙ drop-take 4 8_192 rest in
    (λ i. with_pages (pages ++ (n i, b i) ∷ []) (images_of after (back i)))
    ∙ sym (one_image pages left after rest is long) ∙ so_far

-- ---- what was written is read again

length-four : (n : ℕ) → length (big_bytes 4 n) ≡ 4
length-four n = length-bytes_high_first 4 n

module _ (image : ℕ × List ℕ) (is : IsPageImage image) (rest : List ℕ) where
  abbrev four : List ℕ
  four = big_bytes 4 image.0

  abbrev bytes : List ℕ
  bytes = (four ++ image.1) ++ rest

  split : bytes ≡ four ++ (image.1 ++ rest)
  split = append_assoc four image.1 rest

  number_again : big_number 4 bytes ≡ image.0
  number_again = ap (big_number 4) split ∙ big_number-reads_back 4 image.0 (image.1 ++ rest) is.fits

  page_again : take 8_192 (drop 4 bytes) ≡ image.1
  page_again = ap (λ (l : List ℕ). take 8_192 (drop 4 l)) split ∙ ap (take 8_192) (drop_at four (image.1 ++ rest) 4 (length-four image.0)) ∙ take_at image.1 rest 8_192 is.whole

  long : length (four ++ image.1) ≡ 8_196
  long = omega (arith, length-append four image.1, length-four image.0, is.whole)

  rest_again : drop 8_196 bytes ≡ rest
  rest_again = drop_at (four ++ image.1) rest 8_196 long

  enough : 8_196 ≤ length bytes
  enough = omega (arith, long, length-append (four ++ image.1) rest)

images_again : (images : List (ℕ × List ℕ)) → AllByRecursion IsPageImage images → images_of (length images) (images_bytes images) ≡ Some images
unfolding images_of
images_again [] are = refl
images_again (image ∷ images) are =
    let rest = images_bytes images in
    cond-false (nat_lt (length ((big_bytes 4 image.0 ++ image.1) ++ rest)) 8_196) _ _ (le-ltb (length ((big_bytes 4 image.0 ++ image.1) ++ rest)) 8_196 (enough image are.0 rest))
    ∙ (λ i. option_map (λ (more : List (ℕ × List ℕ)). (number_again image are.0 rest i, page_again image are.0 rest i) ∷ more) (images_of (length images) (rest_again image are.0 rest i)))
    ∙ ap (option_map (λ (more : List (ℕ × List ℕ)). image ∷ more)) (images_again images are.1)

pub body_again : (images : List (ℕ × List ℕ)) → AllByRecursion IsPageImage images → IsTrue (numbers_rise images) → length images < 2 ^ 32 → images_in (images_body images) ≡ Some images
unfolding images_in
body_again images are rise fits =
    let four = big_bytes 4 (length images) in
    let rest = images_bytes images in
    cond-false (nat_lt (length (four ++ rest)) 4) _ _ (le-ltb (length (four ++ rest)) 4 (omega (arith, length-append four rest, length-four (length images))))
    ∙ (λ i. option_and_then (λ (found : List (ℕ × List ℕ)). if numbers_rise found then Some found else None)
    (images_of (big_number-reads_back 4 (length images) rest fits i) (drop_at four rest 4 (length-four (length images)) i)))
    ∙ ap (option_and_then (λ (found : List (ℕ × List ℕ)). if numbers_rise found then Some found else None)) (images_again images are)
    ∙ cond-true (numbers_rise images) _ _ rise
