-- A checkpoint that a crash broke off is finished (docs/FILE_FORMAT.md, "With pages").
use Rattle.std.specs.Prelude.{◌≡◌, ◌*◌, ◌≤◌, max, ℕ, suc, ◌+◌, ◌==◌, Bool, true, false, ◌&&◌, nat_lt, nat_le, if◌then◌else◌, List, [], ◌∷◌, length, Option, Some, None, MatchOption, Result, Ok, Err, IsTrue, ◌++◌, ◌-◌}
use Rattle.std.specs.List.{AllByRecursion}
use Rattle.outside_traits.specs.DiskPairs.{Pair, PairsLeave}
use Rattle.outside_traits.specs.Moments.{History}
use Rattle.outside_traits.specs.declared.disk.Disk.{Ghosts}
use Rattle.page_store.specs.Images.{Lacks, Rising}
use Rattle.page_store.specs.Pages.{ArePagesOf, page_of}
use Rattle.node_records.specs.declared.open_error.File.TheVariants.{Pages}
use Rattle.node_records.specs.declared.open_error.OpenError.{OpenError}
use Rattle.node_records.specs.declared.open_error.OpenError.TheVariants.{Damaged, DiskFault, NoMemory}
use Rattle.node_records.specs.declared.open_error.Place.{Place}
use Rattle.node_pages.specs.PageFiles.{contents_of_file}
use Rattle.node_pages.specs.PageZero.{Header, count_of, header_in}
use Rattle.journal.specs.Groups.{only_commits}
use Rattle.journal.specs.Journals.{read}
use Rattle.journal.specs.Views.{JournalView}
use Rattle.journal.specs.declared.group.Groups.{Groups}
use Rattle.journal.specs.declared.group.Images.{Images}
use Rattle.store_contents.specs.Contents.{Contents, contents_of_files, over_pages, page_among, place_in, with_images}
use Rattle.store_contents.specs.MadePages.{AreMade}
use Rattle.recovery.specs.Openings.{HasImages, files_on}
use Rattle.recovery.specs.inside.Fronts.{front}

-- whole pages with rising numbers
pub record ArePages (images : List (ℕ × List ℕ)) : Type 0 where
  pub whole : AllByRecursion (λ image. length image.1 ≡ 8_192) images
  pub rising : Rising images

-- none of them is that of a page before this one
abbrev pub StandFrom : ℕ → List (ℕ × List ℕ) → Type 0
StandFrom n images = AllByRecursion (λ image. n ≤ image.0) images

-- whole pages with rising numbers, none below this one
pub record AreLeft (n : ℕ) (images : List (ℕ × List ℕ)) : Type 0 where
  pub pages : ArePages images
  pub from : StandFrom n images

-- ---- a pass over the pages of a file with images put in

-- the first of these images is that of this page
abbrev pub begins_with : ℕ → List (ℕ × List ℕ) → Bool
begins_with n [] = false
begins_with n (image ∷ images) = image.0 == n

-- the page: the first image, or the file's
abbrev pub page_here : ℕ → List (ℕ × List ℕ) → List ℕ → List ℕ
page_here n [] file = page_of n file
page_here n (image ∷ images) file = if image.0 == n then image.1 else page_of n file

-- the images that are left behind it
abbrev pub left_behind : ℕ → List (ℕ × List ℕ) → List (ℕ × List ℕ)
left_behind n [] = []
left_behind n (image ∷ images) = if image.0 == n then images else image ∷ images

-- its bytes, where these are all that a page has
abbrev pub if_whole : List ℕ → List ℕ
if_whole page = if length page == 8_192 then page else []

-- of a known file with these images put in it was told whether it has this page whole
abbrev pub TellsWhole : Bool → ℕ → List (ℕ × List ℕ) → List ℕ → Bool → Type 0
TellsWhole is_known page images file has = IsTrue is_known → ArePages images → has ≡ (length (page_here page images file) == 8_192)

-- the page was put behind these bytes, where the file has it whole
abbrev pub AddsPage : Bool → ℕ → List (ℕ × List ℕ) → List ℕ → List ℕ → List ℕ → Type 0
AddsPage is_known page images file bytes bytes_now = IsTrue is_known → ArePages images → bytes_now ≡ bytes ++ if_whole (page_here page images file)

-- so were the pages from 1 on, up to this one, until one isn't whole
abbrev pub AddsPagesUpTo : ℕ → Bool → List (ℕ × List ℕ) → List ℕ → List ℕ → List ℕ → Type 0
AddsPagesUpTo end is_known images file bytes bytes_now = IsTrue is_known → ArePages images → StandFrom 1 images
    → bytes_now ≡ bytes ++ front (page_among images file) 1 (end - 1)

-- ---- images that are written in place

-- an image stands above the last one
abbrev pub stands_above : Option ℕ → ℕ → Bool
stands_above None n = true
stands_above (Some last) n = nat_lt last n

-- an image of a page below the count is whole, stands above the last one, and begins within a file of so many bytes
abbrev pub is_ready : ℕ → ℕ → Option ℕ → ℕ × List ℕ → Bool
is_ready count size last image = (nat_lt image.0 count && (length image.1 == 8_192)) && (stands_above last image.0 && nat_le (8_192 * image.0) size)

-- how many images are so, each in the file with those before it
abbrev pub ready_front : ℕ → ℕ → Option ℕ → List (ℕ × List ℕ) → ℕ
ready_front count size last [] = 0
ready_front count size last (image ∷ images) =
    if is_ready count size last image then suc (ready_front count (max size (8_192 * image.0 + 8_192)) (Some image.0) images) else 0

-- ---- what was found of them

-- what page 0 of a file with these images put in says, and the pages that it counts, up to the first that isn't whole; None where page 0 breaks a rule
abbrev pub IsRowOf : List ℕ → List (ℕ × List ℕ) → Option (Header × List ℕ) → Type 0
IsRowOf file images row = MatchOption row
    (header_in (page_among images file 0) ≡ None)
    (λ f. (header_in (page_among images file 0) ≡ Some f.0) × (f.1 ≡ front (page_among images file) 0 (count_of f.0)))

-- the fault of a disk in memory: what it lacks is memory
abbrev pub memory_alone : OpenError → OpenError
memory_alone (Damaged place) = Damaged place
memory_alone DiskFault = NoMemory
memory_alone NoMemory = NoMemory

-- what pages in a row stand for, of which page 0 says this: their number has to be this one
abbrev pub judged : ℕ → Option (Header × List ℕ) → Result Contents Place
judged number None = Err (place_in Pages 0)
judged number (Some row) = if row.0.base == number then over_pages [] (contents_of_file row.1) else Err (place_in Pages 0)

-- they stand for something, and page 0 counts so many pages
pub record IsJudged (number : ℕ) (row : Option (Header × List ℕ)) (count : ℕ) : Type 0 where
  pub contents : Contents
  pub is : judged number row ≡ Ok contents
  pub header : Header
  pub bytes : List ℕ
  pub has : row ≡ Some (header, bytes)
  pub counted : count ≡ count_of header

-- with the images put in the pages of a file stand for something, and page 0 counts so many pages
pub record AreSound (file : List ℕ) (images : Images) (count : ℕ) : Type 0 where
  pub contents : Contents
  pub is : with_images file images ≡ Ok contents
  pub header : Header
  pub said : header_in (page_among images.pages file 0) ≡ Some header
  pub counted : count ≡ count_of header

-- at this place a known file breaks its first rule with the images put in, which are pages
abbrev pub BreaksWithImages : Bool → List ℕ → Images → Place → Type 0
BreaksWithImages is_known file images place = IsTrue is_known → ArePages images.pages → with_images file images ≡ Err place

-- ---- images that are to be written

-- images are open in a synced journal, with them the files stand for this; these are as many of them as are written,
-- and once they are pages all below the count are
pub record AreUnfinished (journal pages : History) (written : List (ℕ × List ℕ)) (contents : Contents) : Type 0 where
  pub groups : Groups
  pub images : Images
  pub reads : read journal.now.reads ≡ Ok groups
  pub has : groups.images ≡ Some images
  pub stood : contents_of_files journal.now.reads pages.now.reads ≡ Ok contents
  pub fewer : (n : ℕ) → Lacks n images.pages → Lacks n written
  pub below : (h : Header) → header_in (page_among images.pages pages.now.reads 0) ≡ Some h
      → (made : List ℕ) → ArePagesOf made written → AreMade (count_of h) made images.pages

-- two files that stand for this
abbrev pub StandForThis : Contents → List ℕ → List ℕ → Type 0
StandForThis contents journal pages = contents_of_files journal pages ≡ Ok contents

-- where these images are unfinished, this holds of what the files stand for with them
abbrev pub WhereUnfinished : (Contents → Pair → Pair → Type 0) → List (ℕ × List ℕ) → Pair → Pair → Type 0
WhereUnfinished Q written old new = (contents : Contents) → AreUnfinished old.journal old.pages written contents → Q contents old new

-- after each call a crash leaves two files that stand for this
abbrev pub LeaveThis : Contents → Pair → Pair → Type 0
LeaveThis contents old new = PairsLeave (StandForThis contents) old new

-- the files stand for this in the end
abbrev pub EndWithThis : Contents → Pair → Pair → Type 0
EndWithThis contents old new = StandForThis contents new.journal.now.reads new.pages.now.reads

-- what the two files stood for they stand for still, and no group is open any more
pub record IsFinished (old new : Pair) : Type 0 where
  pub contents : Contents
  pub stood : StandForThis contents old.journal.now.reads old.pages.now.reads
  pub stands : StandForThis contents new.journal.now.reads new.pages.now.reads
  pub cleared : read new.journal.now.reads ≡ Ok (only_commits [])

-- the journal is read with these images
pub record HasOpen (journal : History) (images : Images) : Type 0 where
  pub groups : Groups
  pub reads : read journal.now.reads ≡ Ok groups
  pub has : groups.images ≡ Some images

-- the files break their first rule at this place, and weren't written
pub record IsUntouchedAt (old new : Pair) (place : Place) : Type 0 where
  pub broken : contents_of_files old.journal.now.reads old.pages.now.reads ≡ Err place
  pub same : new ≡ old

-- ---- the disks of a store whose images are put in

-- an open journal on such a disk tells the disk's history and count of faults
abbrev pub journal_on : {J : Type 0} → Ghosts J → Ghosts JournalView
journal_on of_journal = record { is_known = of_journal.is_known; history = λ journal. journal.history; faults = λ journal. journal.faults }

-- the files of two disks that are answered
abbrev pub files_done : {J P : Type 0} → Ghosts J → Ghosts P → J × P → Pair
files_done of_journal of_pages done = files_on of_journal of_pages done.0 done.1

-- where no images were open, both files are as they were
abbrev pub StayUnlessImages : {J P : Type 0} → Ghosts J → Ghosts P → J → P → J → P → Type 0
StayUnlessImages of_journal of_pages journal pages journal_now pages_now = (HasImages (of_journal.history journal).now.reads → ⊥)
    → (of_journal.history journal_now ≡ of_journal.history journal) × (of_pages.history pages_now ≡ of_pages.history pages)
