-- The cut of a valid tree: its pages are whole, and with those put in that a file doesn't have the file stands for the tree.
use Rattle.std.proofs.Common.{◌≡◌, ◌≤◌, ◌<◌, ℕ, ◌-◌, ◌^◌, Bool, true, false, cond, List, [], ◌∷◌, ◌++◌, length, take, map, replicate, Option, Some, None, Ok, ⊎_elim, refl, sym, ap, subst, ◌∙◌, arith, length-append}
use Rattle.std.proofs.lemmas.Bool.{cases_lt, leb-true}
use Rattle.std.proofs.lemmas.List.{get_or_past, length-map, length-replicate, take_all}
use Rattle.std.specs.List.{AllByRecursion}
use Rattle.std.specs.Prelude.{nat_le}
use Rattle.byteorder.specs.Endian.{big_bytes}
use Rattle.byteorder.specs.Numbers.{length-bytes_high_first}
use Rattle.page_store.specs.Pages.{ArePagesOf, IsPageOf}
use Rattle.outside_traits.specs.Moments.{History}
use Rattle.page_store.specs.Images.{KeepsOthers}
use Rattle.tree_model.specs.declared.key.Key.{Key}
use Rattle.tree_model.specs.declared.record.Record.{Record}
use Rattle.tree_model.specs.Tree.{Tree, map_of}
use Rattle.tree_model.specs.ValidTrees.{IsValidTree}
use Rattle.tree_model.proofs.Lists.{all_append, all_on}
use Rattle.tree_model.proofs.UnbrokenTrees.{unbroken}
use Rattle.tree_model.proofs.WholeTree.{map_sorted}
use Rattle.node_records.specs.declared.entries.Entry.{Entry}
use Rattle.node_pages.specs.Chunks.{all_chunks}
use Rattle.node_pages.specs.CutReads.{IsCuttable, page_among as page_of_cut}
use Rattle.node_pages.specs.Cuts.{cut_of, data_of, directory_of, file_of, header_for, most_pages}
use Rattle.node_pages.specs.Cutting.{IsShort, IsStored}
use Rattle.node_pages.specs.EntryForm.{entry_behind}
use Rattle.node_pages.specs.Filling.{AreFilled, page_bytes, page_with, written}
use Rattle.node_pages.specs.PageFiles.{contents_of_file}
use Rattle.node_pages.specs.PageStarts.{start_behind, starts_from}
use Rattle.node_pages.specs.PageZero.{Header, count_of, header_in, header_of, page_magic, page_zero}
use Rattle.node_pages.specs.PagesIn.{pages_in}
use Rattle.node_pages.specs.declared.cut.Cut.{Cut}
use Rattle.node_pages.specs.declared.cut.Cut.TheVariants.{Pages, TooMany}
use Rattle.node_pages.proofs.ChunkLaws.{all_short, entries_short, starts_short}
use Rattle.node_pages.proofs.CountLaws.{pages_same}
use Rattle.node_pages.proofs.CutScan.{cut_again}
use Rattle.node_pages.proofs.CuttableLaws.{cuttable}
use Rattle.node_pages.proofs.RuleLaws.{filled_keep, joined_filled}
use Rattle.node_pages.proofs.StoredLaws.{tree_stored}
use Rattle.journal.specs.Groups.{only_commits}
use Rattle.journal.specs.Journals.{read}
use Rattle.store_contents.specs.Contents.{HoldsImages, contents_of_files, page_among}
use Rattle.store_contents.specs.MadePages.{AreMade}
use Rattle.store_contents.proofs.ContentsLaws.{commits_held}
use Rattle.store_contents.proofs.HiddenLaws.{file_holds, pages_stand}
use Rattle.store_contents.proofs.WholePages.{has_header, header_is, long_below}
use Rattle.checkpoint.specs.NewPages.{new_pages}
use Rattle.checkpoint.specs.inside.Gathered.{AreWhole}
use Rattle.checkpoint.specs.inside.Phases.{HasWritten, IsCutOf, numbered_images, stored}
use Rattle.checkpoint.proofs.NewPagesLaws.{page_found}

-- images that are the file's pages are so below any count
pub made_of_pages : (count : ℕ) (file : List ℕ) (images : List (ℕ × List ℕ)) → ArePagesOf file images → AreMade count file images
made_of_pages count file images are = all_on (IsPageOf file) (λ (image : ℕ × List ℕ). image.0 < count → IsPageOf file image) (λ image is below. is) images are

-- ---- whole pages

whole_page : (count : ℕ) (bytes : List ℕ) → length bytes ≤ 8_190 → length (page_with count bytes) ≡ 8_192
unfolding page_with
whole_page count bytes room =
    let zeros : List ℕ = replicate (8_190 - length bytes) 0 in
    omega (arith, room, length-bytes_high_first 2 count, length-append (big_bytes 2 count) (bytes ++ zeros), length-append bytes zeros, length-replicate {A = ℕ} (8_190 - length bytes) 0)

filled_whole : {A : Type 0} (write : Option A → A → List ℕ) (pages : List (List A)) → AreFilled write pages → AllByRecursion (λ page. length page ≡ 8_192) (map (page_bytes write) pages)
filled_whole write [] are = tt
filled_whole write ([] ∷ pages) are = elim are [ ]
filled_whole write ((x ∷ xs) ∷ pages) are = (whole_page (length (x ∷ xs)) (written write None (x ∷ xs)) are.0, filled_whole write pages are.2)

whole_zero_with : (h : Header) (z : List ℕ) → length z ≡ 8_168
    → length (page_magic ++ (big_bytes 4 h.base ++ (big_bytes 4 (count_of h) ++ (big_bytes 4 h.data_pages ++ (big_bytes 4 h.directory_pages ++ z))))) ≡ 8_192
whole_zero_with h z long = omega (arith, long)

whole_zero : (h : Header) → length (page_zero h) ≡ 8_192
whole_zero h = whole_zero_with h (replicate 8_168 0) (length-replicate {A = ℕ} 8_168 0)

-- ---- a cut that isn't too large

abbrev pages_told : List (List ℕ) → Cut → List (List ℕ)
pages_told other (Pages pages) = pages
pages_told other (TooMany count) = other

cut_within : (b : Bool) (made pages : List (List ℕ)) (count : ℕ) → cond b (Pages made) (TooMany count) ≡ Pages pages → (b ≡ true) × (made ≡ pages)
cut_within true made pages count e = (refl, ap (pages_told pages) e)
cut_within false made pages count e = cc

length-file : (number : ℕ) (pages : List (List Entry)) → length (file_of number pages) ≡ count_of (header_for number pages)
length-file number pages =
    let datas = map (page_bytes entry_behind) pages in
    let directory = map (page_bytes start_behind) (directory_of pages) in
    omega (arith, length-append datas directory, length-map pages (page_bytes entry_behind), length-map (directory_of pages) (page_bytes start_behind))

-- the pages of a cut are no more than a checkpoint may make
pub few_pages : (number : ℕ) (pages : List (List Entry)) (cut : List (List ℕ)) → cut_of number pages ≡ Pages cut → length cut ≤ 32_768
few_pages number pages cut is =
    let parts = cut_within (nat_le (count_of (header_for number pages)) most_pages) (file_of number pages) cut (count_of (header_for number pages)) is in
    let few = leb-true (count_of (header_for number pages)) 32_768 parts.0 in
    omega (arith, few, length-file number pages, ap (λ (l : List (List ℕ)). length l) parts.1)

-- ---- of a valid tree

module _ (t : Tree) (valid : IsValidTree t) where
  all_stored : AllByRecursion IsStored (map_of t)
  all_stored = tree_stored t valid

  cuttable_map : AllByRecursion IsCuttable (map_of t)
  cuttable_map = all_on IsStored IsCuttable (λ (e : Key × Record) is. cuttable e.0 e.1 is.1.0 is.1.1) (map_of t) all_stored

  file_whole : (number : ℕ) → AreWhole (file_of number (data_of (map_of t)))
  file_whole number =
      let es = map_of t in (
        whole_zero (header_for number (data_of es)),
        all_append (λ (page : List ℕ). length page ≡ 8_192) (map (page_bytes entry_behind) (data_of es)) (map (page_bytes start_behind) (directory_of (data_of es)))
            (filled_whole entry_behind (data_of es) (filled_keep entry_behind (all_chunks es) (entries_short (all_chunks es) (all_short es all_stored))))
            (filled_whole start_behind (directory_of (data_of es)) (filled_keep start_behind (starts_from 1 (data_of es))
            (starts_short 1 (data_of es) (subst (AllByRecursion IsShort) (sym (joined_filled entry_behind (all_chunks es))) (all_short es all_stored))))),
      )

  module _ (number : ℕ) (cut : List (List ℕ)) (is : cut_of number (data_of (map_of t)) ≡ Pages cut) where
    made : file_of number (data_of (map_of t)) ≡ cut
    made = (cut_within (nat_le (count_of (header_for number (data_of (map_of t)))) most_pages) (file_of number (data_of (map_of t))) cut (count_of (header_for number (data_of (map_of t)))) is).1

    pub whole : AreWhole cut
    whole = subst AreWhole made (file_whole number)

  module _ (number : ℕ) (fits : number < 2 ^ 32) (cut : List (List ℕ)) (is : cut_of number (data_of (map_of t)) ≡ Pages cut) where
    again : pages_in (page_of_cut cut) ≡ Ok (map_of t, number)
    again = cut_again number (map_of t) cut fits (map_sorted t valid) cuttable_map is

    first : (h : Header) × (header_in (page_of_cut cut 0) ≡ Some h)
    first = has_header (page_of_cut cut) (map_of t, number) again

    -- a page below the count is one of the cut's
    within : (n : ℕ) → n < count_of (header_of (page_of_cut cut 0)) → n < length cut
    within n below = ⊎_elim
        (λ (less : n < length cut). less)
        (λ (past : length cut ≤ n).
        let long = long_below (page_of_cut cut) (map_of t, number) again first.0 first.1 n (subst (λ (h : Header). n < count_of h) (header_is (page_of_cut cut 0) first.0 first.1) below) in
        let none : length (page_of_cut cut n) ≡ 0 = ap (λ (b : List ℕ). length b) (get_or_past cut n [] past) in
        absurd (omega (arith, long, none)))
        (cases_lt n (length cut))

    module _ (file : List ℕ) where
      -- the pages with the images put in hold the tree
      held : pages_in (page_among (new_pages 0 cut file) file) ≡ Ok (map_of t, number)
      held = sym (pages_same (page_of_cut cut) (page_among (new_pages 0 cut file) file) (λ n below. sym (page_found cut n file (within n below)))) ∙ again

      pub holds : HoldsImages file (numbered_images number (new_pages 0 cut file)) (stored t number)
      holds = record { hold = held; number = refl; keeps_rules = unbroken t valid }

      -- and so do they once the images are the file's pages
      pub pages_hold : (old new : History) → old.now.reads ≡ file → HasWritten (new_pages 0 cut file) old new → contents_of_file new.now.reads ≡ Ok (map_of t, number)
      pages_hold old new was written =
          file_holds new.now.reads (map_of t, number)
          (pages_stand (new_pages 0 cut file) file new.now.reads (map_of t, number) held (subst (λ (f : List ℕ). KeepsOthers (new_pages 0 cut file) f new.now.reads) was written.others)
          (λ h said. made_of_pages (count_of h) new.now.reads (new_pages 0 cut file) written.pages))

-- ---- what is written of a cut

-- all pages of a tree's cut are written
pub all_in_front : (t : Tree) (number : ℕ) (cut : List (List ℕ)) → IsCutOf t number cut → (count : ℕ) → (AreWhole cut → length cut ≤ most_pages → count ≡ length cut) → take count cut ≡ cut
all_in_front t number cut is count all =
    ap (λ (n : ℕ). take n cut) (all (whole t is.valid number cut is.is) (few_pages number (data_of (map_of t)) cut is.is)) ∙ take_all (length cut) cut (omega arith)

-- pages that hold a tree stand for it beside a journal without groups
pub cleared_opens : (t : Tree) (number : ℕ) (journal pages : List ℕ) → IsValidTree t → read journal ≡ Ok (only_commits []) → contents_of_file pages ≡ Ok (map_of t, number)
    → contents_of_files journal pages ≡ Ok (stored t number)
cleared_opens t number journal pages valid none hold = commits_held journal pages (only_commits []) (stored t number) none (record {
  held = (map_of t, number);
  no_images = refl;
  pages_hold = hold;
  goes_on = refl;
  is = refl;
  keeps_rules = unbroken t valid;
})
