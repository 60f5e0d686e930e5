-- What page 0 tells of the last commit, by how many bytes the page file has.
use Rattle.std.proofs.Common.{◌≡◌, ◌<◌, ◌*◌, ◌==◌, ℕ, Bool, false, if◌then◌else◌, List, [], ◌∷◌, length, drop, Some, None, refl, ap, ◌∙◌, arith, length-take, length-drop}
use Rattle.std.proofs.lemmas.Bool.{and_left, ne_eqb}
use Rattle.node_pages.specs.PageFiles.{file_page}
use Rattle.node_pages.specs.PageZero.{header_in, header_of}
use Rattle.store_contents.specs.Contents.{base_of, base_told}

-- an empty file holds no commit
pub empty_base : (file : List ℕ) (n : ℕ) → n ≡ length file → n ≡ 0 → base_of file ≡ Some 0
empty_base [] n is none = refl
empty_base (b ∷ bs) n is none = absurd (omega (arith, is, none))

-- any other tells what its page 0 tells
pub page_base : (file : List ℕ) (n : ℕ) → n ≡ length file → (n ≡ 0 → ⊥) → base_of file ≡ base_told (header_in (file_page file 0))
page_base [] n is some = absurd (some is)
page_base (b ∷ bs) n is some = refl

-- which is nothing where that isn't whole
not_zero : (page : List ℕ) → length page < 8_192 → header_in page ≡ None
not_zero page few =
    let other : (length page == 8_192) ≡ false = ne_eqb (length page) 8_192 (λ e. omega (arith, few, e)) in
    ap (λ (b : Bool). if b then Some (header_of page) else None) (and_left _ _ other)

pub short_base : (file : List ℕ) (n : ℕ) → n ≡ length file → (n ≡ 0 → ⊥) → n < 8_192 → base_of file ≡ None
short_base file n is some few = page_base file n is some ∙ ap base_told (not_zero (file_page file 0) (omega (arith, is, few, length-take 8_192 (drop (8_192 * 0) file), length-drop (8_192 * 0) file)))
