-- Images of pages, and the body of a group of them (docs/FILE_FORMAT.md, "A body of images").
use Rattle.std.specs.Prelude.{◌≡◌, ◌<◌, ◌^◌, ℕ, zero, suc, Bool, true, ◌&&◌, nat_lt, if◌then◌else◌}
use Rattle.std.specs.Prelude.{List, [], ◌∷◌, ◌++◌, length, take, drop, Option, Some, None, option_map, option_and_then}
use Rattle.byteorder.specs.Endian.{big_bytes, big_number}

-- each page stands above the one before it
abbrev pub numbers_rise : List (ℕ × List ℕ) → Bool
numbers_rise [] = true
numbers_rise (image ∷ []) = true
numbers_rise (image ∷ next ∷ images) = nat_lt image.0 next.0 && numbers_rise (next ∷ images)

-- so many images, each a page's number in four bytes and its 8,192 bytes, one behind the other and nothing behind them
unfoldable pub images_of : ℕ → List ℕ → Option (List (ℕ × List ℕ))
images_of zero [] = Some []
images_of zero (byte ∷ bytes) = None
images_of (suc n) bytes =
    if nat_lt (length bytes) 8_196 then None
    else option_map (λ more. (big_number 4 bytes, take 8_192 (drop 4 bytes)) ∷ more) (images_of n (drop 8_196 bytes))

-- the images of a body: how many there are, in four bytes, and they, with rising numbers; None where these bytes aren't such a body
unfoldable pub images_in : List ℕ → Option (List (ℕ × List ℕ))
images_in body =
    if nat_lt (length body) 4 then None
    else option_and_then (λ images. if numbers_rise images then Some images else None) (images_of (big_number 4 body) (drop 4 body))

-- ---- what is written

-- a whole page, with a number of four bytes
pub record IsPageImage (image : ℕ × List ℕ) : Type 0 where
  pub fits : image.0 < 2 ^ 32
  pub whole : length image.1 ≡ 8_192

-- images, one behind the other
abbrev pub images_bytes : List (ℕ × List ℕ) → List ℕ
images_bytes [] = []
images_bytes (image ∷ images) = (big_bytes 4 image.0 ++ image.1) ++ images_bytes images

-- the body of these images
abbrev pub images_body : List (ℕ × List ℕ) → List ℕ
images_body images = big_bytes 4 (length images) ++ images_bytes images

-- images are read again from their body
abbrev pub ImagesAreReadAgain : List (ℕ × List ℕ) → Type 0
ImagesAreReadAgain images = images_in (images_body images) ≡ Some images
