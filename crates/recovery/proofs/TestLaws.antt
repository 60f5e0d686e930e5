-- What is found of pages with images put in is what they stand for.
use Rattle.std.proofs.Common.{◌≡◌, ◌≤◌, ◌==◌, ℕ, ◌*◌, Bool, true, false, cond, List, [], ◌∷◌, length, drop, Option, Some, None, Result, Ok, Err, unwrap_or, refl, sym, ap, ◌∙◌, arith}
use Rattle.std.proofs.lemmas.List.{length-take}
use Rattle.std.specs.List.{AllByRecursion}
use Rattle.page_store.specs.Pages.{page_of}
use Rattle.tree_model.specs.Entries.{Entries}
use Rattle.tree_model.specs.StoredTree.{IsStoredTree, broken_at}
use Rattle.tree_model.proofs.UnbrokenTrees.{unbroken}
use Rattle.node_records.specs.declared.open_error.OpenError.{OpenError}
use Rattle.node_records.specs.declared.open_error.OpenError.TheVariants.{Damaged, DiskFault, NoMemory}
use Rattle.node_records.specs.declared.open_error.Place.{Place}
use Rattle.journal.specs.Refusals.{HasReason}
use Rattle.node_records.specs.declared.open_error.File.TheVariants.{Pages, Tree}
use Rattle.node_pages.specs.PageFiles.{contents_of_file}
use Rattle.node_pages.specs.PageZero.{Header, count_of, header_in}
use Rattle.node_pages.specs.PagesIn.{pages_in}
use Rattle.journal.specs.declared.group.Images.{Images}
use Rattle.paged_seq.specs.PagedFiles.{BreaksPages}
use Rattle.store_contents.specs.Contents.{Contents, base_told, checked, image_of, is_number, over_pages, page_among, place_in, with_images}
use Rattle.recovery.specs.inside.Finishing.{ArePages, AreSound, IsJudged, IsRowOf, judged, memory_alone}
use Rattle.recovery.specs.inside.Fronts.{front}
use Rattle.recovery.specs.inside.Nets.{IsMisfit}
use Rattle.recovery.proofs.FrontLaws.{front_stands}
use Rattle.recovery.proofs.GatherLaws.{header_whole}

-- ---- pages in a row

-- a map that breaks no rule, or breaks one at this place
checked_as : (es : Entries) (n : ℕ) (o : Option ℕ) → broken_at es ≡ o → checked (record { entries = es; number = n }) ≡ elim o as (λ _. Result Contents Place) [ None ↦ Ok (record { entries = es; number = n }) | Some at ↦ Err (place_in Tree at) ]
checked_as es n o is = ap (λ (x : Option ℕ). elim x as (λ _. Result Contents Place) [ None ↦ Ok (record { entries = es; number = n }) | Some at ↦ Err (place_in Tree at) ]) is

pub row_holds : (bytes : List ℕ) (es : Entries) (base : ℕ) → contents_of_file bytes ≡ Ok (es, base) → IsStoredTree es → (contents : Contents) × (over_pages [] (contents_of_file bytes) ≡ Ok contents)
row_holds bytes es base is stored =
    (record { entries = es; number = base }, ap (over_pages []) is ∙ checked_as es base None (ap broken_at (sym stored.map) ∙ unbroken stored.tree stored.is_valid_tree))

pub row_misfits : (bytes : List ℕ) (es : Entries) (base : ℕ) (place : Place) → contents_of_file bytes ≡ Ok (es, base) → IsMisfit es place → over_pages [] (contents_of_file bytes) ≡ Err place
row_misfits bytes es base place is misfit = ap (over_pages []) is ∙ checked_as es base (Some misfit.0) misfit.1 ∙ ap (λ (p : Place). Err p) (sym misfit.2)

pub row_breaks : (bytes : List ℕ) (place : Place) → BreaksPages true bytes place → over_pages [] (contents_of_file bytes) ≡ Err place
row_breaks bytes place breaks = ap (over_pages []) (breaks.2 refl) ∙ ap (λ (p : Place). Err p) (sym breaks.1)

-- a disk in memory lacks memory alone
pub in_memory : (P : Place → Type 0) (cause : Type 0) (fault : OpenError) → HasReason P cause fault → HasReason P ⊥ (memory_alone fault)
in_memory P cause (Damaged place) h = h
in_memory P cause DiskFault h = tt
in_memory P cause NoMemory h = tt

-- ---- what they are judged

pub judged_same : (number : ℕ) (row : Header × List ℕ) → (row.0.base == number) ≡ false → judged number (Some row) ≡ Err (place_in Pages 0)
judged_same number row other = ap (λ (b : Bool). cond b (over_pages [] (contents_of_file row.1)) (Err (place_in Pages 0))) other

pub judged_on : (number : ℕ) (row : Header × List ℕ) → (row.0.base == number) ≡ true → judged number (Some row) ≡ over_pages [] (contents_of_file row.1)
judged_on number row same = ap (λ (b : Bool). cond b (over_pages [] (contents_of_file row.1)) (Err (place_in Pages 0))) same

-- ---- the pages of a file with images put in

image_whole : (n : ℕ) (images : List (ℕ × List ℕ)) (bytes : List ℕ) → AllByRecursion (λ image. length image.1 ≡ 8_192) images → image_of n images ≡ Some bytes → length bytes ≡ 8_192
image_whole n [] bytes whole e = cc
image_whole n (image ∷ images) bytes whole e = (elim (image.0 == n) as (λ b. cond b (Some image.1) (image_of n images) ≡ Some bytes → length bytes ≡ 8_192) [
  | true ↦ λ is. let same : image.1 ≡ bytes = cc in ap (λ (b : List ℕ). length b) (sym same) ∙ whole.0
  | false ↦ λ is. image_whole n images bytes whole.1 is
]) e

-- none has more bytes than a page
page_within : (images : List (ℕ × List ℕ)) (file : List ℕ) → AllByRecursion (λ image. length image.1 ≡ 8_192) images → (n : ℕ) → length (page_among images file n) ≤ 8_192
page_within images file whole n = (elim (image_of n images) as (λ o. image_of n images ≡ o → length (unwrap_or o (page_of n file)) ≤ 8_192) [
  | None ↦ λ is. omega (arith, length-take 8_192 (drop (8_192 * n) file))
  | Some bytes ↦ λ is. omega (arith, image_whole n images bytes whole is)
]) refl

module _ (file : List ℕ) (images : Images) (are : ArePages images.pages) where
  abbrev page : ℕ → List ℕ
  page = page_among images.pages file

  pub judged_is : (row : Option (Header × List ℕ)) → IsRowOf file images.pages row → judged images.number row ≡ with_images file images
  judged_is None none = sym (ap (λ (o : Option Header). cond (is_number images.number (base_told o)) (over_pages [] (pages_in page)) (Err (place_in Pages 0))) none)
  judged_is (Some f) is =
      let stands : contents_of_file (front page 0 (count_of f.0)) ≡ pages_in page =
      front_stands page f.0 (count_of f.0) is.0 (header_whole (page 0) f.0 is.0) refl (page_within images.pages file are.whole) in
      ap (λ (r : Result (Entries × ℕ) ℕ). cond (f.0.base == images.number) (over_pages [] r) (Err (place_in Pages 0))) (ap contents_of_file is.1 ∙ stands)
      ∙ sym (ap (λ (o : Option Header). cond (is_number images.number (base_told o)) (over_pages [] (pages_in page)) (Err (place_in Pages 0))) is.0)

  row_header : (row : Option (Header × List ℕ)) (h : Header) (bytes : List ℕ) → row ≡ Some (h, bytes) → IsRowOf file images.pages row → header_in (page_among images.pages file 0) ≡ Some h
  row_header None h bytes e is = cc
  row_header (Some f) h bytes e is = let same : f ≡ (h, bytes) = cc in is.0 ∙ ap (λ (x : Header × List ℕ). Some x.0) same

  pub sound_row : (row : Option (Header × List ℕ)) (count : ℕ) → IsRowOf file images.pages row → IsJudged images.number row count → AreSound file images count
  sound_row row count of_row is = record {
    contents = is.contents;
    is = sym (judged_is row of_row) ∙ is.is;
    header = is.header;
    said = row_header row is.header is.bytes is.has of_row;
    counted = is.counted;
  }
