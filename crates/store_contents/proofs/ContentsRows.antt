-- Files and what they stand for (docs/FILE_FORMAT.md, "A journal byte by byte", "Damage of pages" and "Opening").
use Rattle.std.proofs.Common.{◌≡◌, ℕ, List, [], ◌∷◌, ◌++◌, take, Some, Ok, Err, refl}
use Rattle.std.specs.Prelude.{slice_set}
use Rattle.std.specs.Str.{is_utf8, chars}
use Rattle.std.specs.Fmt.{digits}
use lib.Utf8.{encode}
use Rattle.tree_model.specs.declared.record.Record.TheVariants.{Document, Element, Attr}
use Rattle.tree_model.specs.Names.{is_name, is_start_char, is_name_char}
use Rattle.tree_model.specs.Tree.{empty_tree}
use Rattle.node_records.specs.declared.open_error.File.TheVariants.{Journal, Pages}
use Rattle.node_pages.specs.PageZero.{page_zero}
use Rattle.node_pages.specs.Reading.{page_in}
use Rattle.journal.specs.Bodies.{changes_in}
use Rattle.journal.specs.Groups.{word_of, group_at, images_at}
use Rattle.journal.specs.Journals.{read, groups_from}
use Rattle.journal.specs.PageImages.{images_in, images_of}
use Rattle.journal.specs.declared.group.Groups.{Groups}
use Rattle.journal.proofs.JournalRows.{new_journal, one_commit, first_group}
use Rattle.store_contents.specs.Contents.{Contents, place_in, contents_from, contents_of_files, contents_beside}
use Rattle.store_contents.specs.StoredTrees.{StandFor}

-- the document x with the element a
abbrev one_document : Contents
one_document = record {
  entries =
      (record { label = 1 ∷ []; name = 0x78 ∷ [] }, Attr (0x31 ∷ 0x2E ∷ 0x31 ∷ 0x30 ∷ 0x30 ∷ 0x31 ∷ []))
      ∷ (record { label = 1 ∷ 1001 ∷ []; name = [] }, Document)
      ∷ (record { label = 1 ∷ 1001 ∷ 1001 ∷ []; name = [] }, Element (0x61 ∷ []))
      ∷ [];
  number = 1;
}

sixty_bytes : contents_of_files one_commit [] ≡ Ok one_document
unfolding contents_beside read groups_from group_at changes_in word_of is_utf8 chars encode is_name is_start_char is_name_char digits
sixty_bytes = refl

no_bytes : contents_of_files [] [] ≡ Ok (record { entries = []; number = 0 })
unfolding contents_beside read
no_bytes = refl

-- two empty files stand for the tree without documents
pub empty_files : StandFor [] [] empty_tree 0
empty_files = record {
  is_valid_tree = record { keys = tt; kinds = tt; limits = tt; catalogue = record { names = tt; each_document = tt; each_entry = tt } };
  opens = no_bytes;
}

-- page 0 ends too early
a_short_page : contents_of_files new_journal (0 ∷ []) ≡ Err (place_in Pages 0)
unfolding contents_beside read groups_from
a_short_page = refl

-- the first commit's number isn't that behind the base
number_2 : contents_of_files (slice_set one_commit 13 2) [] ≡ Err (place_in Journal 8)
unfolding contents_beside read groups_from group_at changes_in word_of is_utf8 chars encode
number_2 = refl

-- where page 0 tells no base the number isn't tested
number_2_beside_a_short_page : contents_of_files (slice_set one_commit 13 2) (0 ∷ []) ≡ Err (place_in Pages 0)
unfolding contents_beside read groups_from group_at changes_in word_of is_utf8 chars encode
number_2_beside_a_short_page = refl

-- a rule of the journal comes before one of the pages
last_gate_open_beside_a_short_page : contents_of_files (slice_set one_commit 59 1) (0 ∷ []) ≡ Err (place_in Journal 59)
unfolding contents_beside read groups_from group_at images_at changes_in word_of is_utf8 chars encode
last_gate_open_beside_a_short_page = refl

-- the number is tested before a rule that is broken behind it
both : contents_of_files (slice_set (slice_set one_commit 13 2) 59 1) [] ≡ Err (place_in Journal 8)
unfolding contents_beside read groups_from group_at images_at changes_in word_of is_utf8 chars encode
both = refl

-- ---- images

-- images of no page behind the commit, with a number and the gate behind them
abbrev images_behind : ℕ → ℕ → List ℕ
images_behind number gate = take 59 one_commit ++ (0x01 ∷ 0x01 ∷ 0x00 ∷ 0x00 ∷ 0x00 ∷ number ∷ 0x00 ∷ 0x00 ∷ 0x00 ∷ 0x04 ∷ 0x00 ∷ 0x00 ∷ 0x00 ∷ 0x00 ∷ gate ∷ [])

-- with images and without a page 0 the pages are damaged
no_page_zero : contents_of_files (images_behind 1 0) [] ≡ Err (place_in Pages 0)
unfolding contents_beside read groups_from group_at images_at images_in images_of changes_in word_of is_utf8 chars encode
no_page_zero = refl

-- the first number isn't tested beside images, nor beside broken ones
any_first_number : contents_of_files (slice_set (images_behind 2 0) 13 2) (0 ∷ []) ≡ Err (place_in Pages 0)
unfolding contents_beside read groups_from group_at images_at images_in images_of changes_in word_of is_utf8 chars encode
any_first_number = refl

broken_images : contents_of_files (slice_set (images_behind 2 1) 13 2) [] ≡ Err (place_in Journal 59)
unfolding contents_beside read groups_from group_at images_at images_in images_of changes_in word_of is_utf8 chars encode
broken_images = refl

-- page 0 of a file without records, and of one with a data page, both with this base
abbrev zero_alone : ℕ → List ℕ
zero_alone base = page_zero (record { base = base; data_pages = 0; directory_pages = 0 })

abbrev zero_of_two : ℕ → List ℕ
zero_of_two base = page_zero (record { base = base; data_pages = 1; directory_pages = 0 })

-- the commit, and behind it images with its number, among them this page 0
abbrev with_zero : List ℕ → Groups
with_zero page = record { commits = first_group ∷ []; images = Some (record { number = 1; pages = (0, page) ∷ [] }) }

-- the commit isn't made again on pages in which it stands
made_already : contents_from [] (with_zero (zero_alone 1)) ≡ Ok (record { entries = []; number = 1 })
made_already = refl

another_base : contents_from [] (with_zero (zero_alone 2)) ≡ Err (place_in Pages 0)
another_base = refl

-- a page that neither the file nor the images have
no_page_one : contents_from [] (with_zero (zero_of_two 1)) ≡ Err (place_in Pages 8_192)
unfolding page_in
no_page_one = refl
