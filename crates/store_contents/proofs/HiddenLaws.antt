-- What files with images stand for, whatever stands in the places of the images, and once the images stand there.
use Rattle.std.proofs.Common.{◌≡◌, ◌≢◌, ◌≤◌, ◌<◌, ◌==◌, ℕ, ◌+◌, ◌*◌, Bool, true, false, cond, List, [], ◌∷◌, length, take, drop, Option, Some, None, Ok, unwrap_or, refl, sym, ap, subst, ◌∙◌, arith}
use Rattle.std.proofs.lemmas.Bool.{eq-eqb, eqb-true}
use Rattle.std.proofs.lemmas.List.{length-take, length-drop}
use Rattle.std.specs.List.{AllByRecursion}
use Rattle.page_store.specs.Pages.{IsPageOf, page_of}
use Rattle.page_store.specs.Images.{KeepsOthers, Lacks}
use Rattle.tree_model.specs.Entries.{Entries}
use Rattle.node_pages.specs.PageFiles.{contents_of_file, file_page}
use Rattle.node_pages.specs.PageZero.{Header, count_of, header_in, header_of}
use Rattle.node_pages.specs.PagesIn.{pages_in}
use Rattle.node_pages.proofs.CountLaws.{pages_same}
use Rattle.journal.specs.Groups.{only_commits}
use Rattle.journal.specs.Journals.{read}
use Rattle.journal.specs.declared.group.Groups.{Groups}
use Rattle.journal.specs.declared.group.Images.{Images}
use Rattle.store_contents.specs.Contents.{Contents, HoldsImages, contents_of_files, image_of, page_among}
use Rattle.store_contents.specs.MadePages.{AreMade}
use Rattle.store_contents.proofs.ContentsLaws.{commits_held}
use Rattle.store_contents.proofs.ImagesLaws.{holds_images, images_held}
use Rattle.store_contents.proofs.WholePages.{has_header, header_is, long_below}

-- where there is no image of a page, none of the images is one
pub none_lacks : (n : ℕ) (images : List (ℕ × List ℕ)) → image_of n images ≡ None → Lacks n images
none_lacks n [] none = tt
none_lacks n (image ∷ images) none = (elim (image.0 == n) as (λ b. (image.0 == n) ≡ b → cond b (Some image.1) (image_of n images) ≡ None → Lacks n (image ∷ images)) [
  | true ↦ λ h e. cc
  | false ↦ λ h e. ((λ is. let no_way : false ≡ true = sym h ∙ eq-eqb image.0 n is in cc), none_lacks n images e)
]) refl none

abbrev bytes_told : List ℕ → Option (List ℕ) → List ℕ
bytes_told other None = other
bytes_told other (Some bytes) = bytes

-- an image that was made the page of its number
made_page : (made : List ℕ) (count n : ℕ) (images : List (ℕ × List ℕ)) (bytes : List ℕ) → AreMade count made images → n < count → image_of n images ≡ Some bytes → page_of n made ≡ bytes
made_page made count n [] bytes are below some = cc
made_page made count n (image ∷ images) bytes are below some = (elim (image.0 == n) as (λ b. (image.0 == n) ≡ b → cond b (Some image.1) (image_of n images) ≡ Some bytes → page_of n made ≡ bytes) [
  | true ↦ λ h e.
      let same : image.0 ≡ n = eqb-true image.0 n h in
      ap (λ (k : ℕ). page_of k made) (sym same) ∙ sym (are.0 (subst (λ (k : ℕ). k < count) (sym same) below)) ∙ ap (bytes_told bytes) e
  | false ↦ λ h e. made_page made count n images bytes are.1 below e
]) refl some

-- a page that is whole ends within the file
within_file : (n : ℕ) (file : List ℕ) → 8_192 ≤ length (page_of n file) → 8_192 * n + 8_192 ≤ length file
within_file n file long = omega (arith, long, length-take 8_192 (drop (8_192 * n) file), length-drop (8_192 * n) file)

-- pages of a file that keeps the others
same_page : (images : List (ℕ × List ℕ)) (file pages : List ℕ) (n : ℕ) (o : Option (List ℕ)) → KeepsOthers images file pages → image_of n images ≡ o → 8_192 ≤ length (unwrap_or o (page_of n file))
    → unwrap_or o (page_of n pages) ≡ unwrap_or o (page_of n file)
same_page images file pages n (Some bytes) keeps is long = refl
same_page images file pages n None keeps is long = keeps.pages n (none_lacks n images is) (within_file n file long)

-- and in which the images were made pages
page_made : (images : List (ℕ × List ℕ)) (count : ℕ) (file made : List ℕ) (n : ℕ) (o : Option (List ℕ)) → KeepsOthers images file made → AreMade count made images → n < count
    → image_of n images ≡ o → 8_192 ≤ length (unwrap_or o (page_of n file)) → page_of n made ≡ unwrap_or o (page_of n file)
page_made images count file made n (Some bytes) keeps are below is long = made_page made count n images bytes are below is
page_made images count file made n None keeps are below is long = keeps.pages n (none_lacks n images is) (within_file n file long)

module _ (images : List (ℕ × List ℕ)) (file other : List ℕ) (held : Entries × ℕ) (hold : pages_in (page_among images file) ≡ Ok held) (keeps : KeepsOthers images file other) where
  first : (h : Header) × (header_in (page_among images file 0) ≡ Some h)
  first = has_header (page_among images file) held hold

  long : (n : ℕ) → n < count_of (header_of (page_among images file 0)) → 8_192 ≤ length (page_among images file n)
  long n below = long_below (page_among images file) held hold first.0 first.1 n (subst (λ (h : Header). n < count_of h) (header_is (page_among images file 0) first.0 first.1) below)

  -- the pages with the images put in are the same beside another file that keeps the others
  pub pages_hidden : pages_in (page_among images other) ≡ Ok held
  pages_hidden = sym (pages_same (page_among images file) (page_among images other) (λ n below. sym (same_page images file other n (image_of n images) keeps refl (long n below)))) ∙ hold

  -- they are the file's own, where the images below the count were made its pages
  pub pages_stand : ((h : Header) → header_in (page_among images file 0) ≡ Some h → AreMade (count_of h) other images) → pages_in (file_page other) ≡ Ok held
  pages_stand are = sym (pages_same (page_among images file) (file_page other) (λ n below.
      sym (page_made images (count_of first.0) file other n (image_of n images) keeps (are first.0 first.1)
      (subst (λ (h : Header). n < count_of h) (header_is (page_among images file 0) first.0 first.1) below) refl (long n below)))) ∙ hold

-- a file whose pages break no rule has a byte
pub file_holds : (file : List ℕ) (held : Entries × ℕ) → pages_in (file_page file) ≡ Ok held → contents_of_file file ≡ Ok held
file_holds [] held hold = cc
file_holds (b ∷ bs) held hold = hold

module _ (journal file : List ℕ) (groups : Groups) (images : Images) (contents : Contents) (reads : read journal ≡ Ok groups) (some : groups.images ≡ Some images)
    (opens : contents_of_files journal file ≡ Ok contents) where
  parts : HoldsImages file images contents
  parts = holds_images journal file groups images contents reads some opens

  pub hidden : (pages : List ℕ) → KeepsOthers images.pages file pages → contents_of_files journal pages ≡ Ok contents
  hidden pages keeps = images_held journal pages groups images contents reads some (record {
    hold = pages_hidden images.pages file pages (contents.entries, contents.number) parts.hold keeps;
    number = parts.number;
    keeps_rules = parts.keeps_rules;
  })

  pub stand_alone : (cleared made : List ℕ) → read cleared ≡ Ok (only_commits []) → KeepsOthers images.pages file made
      → ((h : Header) → header_in (page_among images.pages file 0) ≡ Some h → AreMade (count_of h) made images.pages) → contents_of_files cleared made ≡ Ok contents
  stand_alone cleared made none keeps are = commits_held cleared made (only_commits []) contents none (record {
    held = (contents.entries, contents.number);
    no_images = refl;
    pages_hold = file_holds made (contents.entries, contents.number) (pages_stand images.pages file made (contents.entries, contents.number) parts.hold keeps are);
    goes_on = refl;
    is = refl;
    keeps_rules = parts.keeps_rules;
  })
