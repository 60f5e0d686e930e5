-- What the two files of a store stand for, or the place of the first rule that they break (docs/FILE_FORMAT.md, "Opening").
use Rattle.std.specs.Prelude.{◌≡◌, ℕ, ◌+◌, Bool, true, false, ◌&&◌, not, ◌==◌, nat_lt, if◌then◌else◌}
use Rattle.std.specs.Prelude.{List, [], ◌∷◌, Option, Some, None, option_map, unwrap_or, Result, Ok, Err}
use Rattle.outside_traits.specs.Moments.{History, LeavesOnly}
use Rattle.tree_model.specs.Entries.{Entries, changed}
use Rattle.tree_model.specs.StoredTree.{broken_at}
use Rattle.node_records.specs.declared.open_error.Place.{Place}
use Rattle.node_records.specs.declared.open_error.File.{File}
use Rattle.node_records.specs.declared.open_error.File.TheVariants.{Journal, Pages, Tree}
use Rattle.node_pages.specs.PageFiles.{contents_of_file, file_page, place_of_page}
use Rattle.node_pages.specs.PageZero.{Header, header_in}
use Rattle.node_pages.specs.PagesIn.{pages_in}
use Rattle.journal.specs.Heads.{first_gate, first_number, images_kind, kind_at}
use Rattle.journal.specs.Journals.{read}
use Rattle.journal.specs.declared.group.Group.{Group}
use Rattle.journal.specs.declared.group.Groups.{Groups}
use Rattle.journal.specs.declared.group.Images.{Images}

-- the map of a tree, and the number of the last commit
pub record Contents : Type 0 where
  pub entries : Entries
  pub number : ℕ

abbrev pub place_in : File → ℕ → Place
place_in file at = record { file = file; at = at }

-- ---- commits

-- the map after these commits, one after another
abbrev pub after_commits : List Group → Entries → Entries
after_commits [] es = es
after_commits (group ∷ groups) es = after_commits groups (changed group.changes es)

-- the number of the last of these commits, or this one where there is none
abbrev pub last_of : List Group → ℕ → ℕ
last_of [] number = number
last_of (group ∷ groups) number = last_of groups group.number

-- the map and the number of the pages, with the commits made on them
abbrev pub with_commits : List Group → Entries × ℕ → Contents
with_commits groups held = record { entries = after_commits groups held.0; number = last_of groups held.1 }

-- the contents after one commit more, and after many
abbrev pub with_one_commit : Group → Contents → Contents
with_one_commit group contents = record { entries = changed group.changes contents.entries; number = group.number }

abbrev pub with_more_commits : List Group → Contents → Contents
with_more_commits groups contents = with_commits groups (contents.entries, contents.number)

-- ---- the number that the commits go on from

-- the base that a header tells, if there is one
abbrev pub base_told : Option Header → Option ℕ
base_told header = option_map (λ h. h.base) header

-- the number of the last commit that the pages hold: 0 where there are none; nothing where page 0 breaks a rule
abbrev pub base_of : List ℕ → Option ℕ
base_of [] = Some 0
base_of (b ∷ bs) = base_told (header_in (file_page (b ∷ bs) 0))

-- the number is there and is this one
abbrev pub is_number : ℕ → Option ℕ → Bool
is_number n None = false
is_number n (Some m) = m == n

-- the first of these commits has the number behind the base, where both are there
abbrev pub goes_on_from : Option ℕ → List Group → Bool
goes_on_from None groups = true
goes_on_from (Some base) [] = true
goes_on_from (Some base) (group ∷ groups) = group.number == base + 1

-- ---- the map

-- the contents, where no record of theirs breaks a rule of the tree
abbrev pub checked : Contents → Result Contents Place
checked contents = elim (broken_at contents.entries) [
  | None ↦ Ok contents
  | Some at ↦ Err (place_in Tree at)
]

-- what commits make of the pages, where these break no rule
abbrev pub over_pages : List Group → Result (Entries × ℕ) ℕ → Result Contents Place
over_pages groups (Ok held) = checked (with_commits groups held)
over_pages groups (Err page) = Err (place_in Pages (place_of_page page))

-- what a journal's commits stand for beside a page file
abbrev pub commits_over : List ℕ → List Group → Result Contents Place
commits_over pages commits = if goes_on_from (base_of pages) commits then over_pages commits (contents_of_file pages) else Err (place_in Journal first_gate)

-- ---- images

-- the image of the page with this number
abbrev pub image_of : ℕ → List (ℕ × List ℕ) → Option (List ℕ)
image_of n [] = None
image_of n (image ∷ images) = if image.0 == n then Some image.1 else image_of n images

-- the pages of a file by their numbers, with these images put in; a gap before an image is a page that isn't there
abbrev pub page_among : List (ℕ × List ℕ) → List ℕ → ℕ → List ℕ
page_among images pages n = unwrap_or (image_of n images) (file_page pages n)

-- what these pages stand for, in which all commits up to this number stand already: page 0 has it as its base
abbrev pub made_up_to : ℕ → (ℕ → List ℕ) → Result Contents Place
made_up_to number page = if is_number number (base_told (header_in (page 0))) then over_pages [] (pages_in page) else Err (place_in Pages 0)

-- what a page file stands for with images put in
abbrev pub with_images : List ℕ → Images → Result Contents Place
with_images pages images = made_up_to images.number (page_among images.pages pages)

-- what a journal's groups stand for beside a page file: with images the commits stand in these already, and the first may have any number
abbrev pub contents_from : List ℕ → Groups → Result Contents Place
contents_from pages groups = elim groups.images [
  | None ↦ commits_over pages groups.commits
  | Some images ↦ with_images pages images
]

-- ---- a journal that breaks a rule

-- the first commit's number isn't the one behind the base
abbrev pub is_other : Option ℕ → Option ℕ → Bool
is_other None number = false
is_other (Some base) number = not (is_number (base + 1) number)

-- the group at a later gate breaks a rule and isn't one of images, and the first commit's number is a wrong one
abbrev pub starts_wrong : Option ℕ → List ℕ → ℕ → Bool
starts_wrong base journal at = nat_lt first_gate at && (not (kind_at journal at == images_kind) && is_other base (first_number journal))

-- the first broken rule, the journal's groups being read up to this gate
abbrev pub first_broken : Option ℕ → List ℕ → ℕ → ℕ
first_broken base journal at = if starts_wrong base journal at then first_gate else at

-- ---- both files

-- the map and the number that a journal stands for beside a page file, or the place of the first rule that they break:
-- those of the journal come first, the first commit's number among them where page 0 tells the base and no images are open, then those of the pages, then those of the tree
unfoldable pub contents_beside : List ℕ → List ℕ → Result Contents Place
contents_beside pages journal = elim (read journal) [
  | Ok groups ↦ contents_from pages groups
  | Err at ↦ Err (place_in Journal (first_broken (base_of pages) journal at))
]

abbrev pub contents_of_files : List ℕ → List ℕ → Result Contents Place
contents_of_files journal pages = contents_beside pages journal

-- the files stand for these contents
abbrev pub FilesHold : List ℕ → List ℕ → Contents → Type 0
FilesHold journal pages contents = contents_of_files journal pages ≡ Ok contents

-- these files stand for what those stand for, or break the same rule
abbrev pub HoldTheSame : List ℕ → List ℕ → List ℕ → List ℕ → Type 0
HoldTheSame journal pages journal_then pages_then = contents_of_files journal pages ≡ contents_of_files journal_then pages_then

-- without images, in parts: what the pages hold, the commits that go on from there, and a map that breaks no rule of the tree
pub record HoldsCommits (pages : List ℕ) (groups : Groups) (contents : Contents) : Type 0 where
  pub held : Entries × ℕ
  pub no_images : groups.images ≡ None
  pub pages_hold : contents_of_file pages ≡ Ok held
  pub goes_on : goes_on_from (Some held.1) groups.commits ≡ true
  pub is : contents ≡ with_commits groups.commits held
  pub keeps_rules : broken_at contents.entries ≡ None

-- with images, in parts: what the pages hold with these put in, whose number page 0 has, and which breaks no rule of the tree
pub record HoldsImages (pages : List ℕ) (images : Images) (contents : Contents) : Type 0 where
  pub hold : pages_in (page_among images.pages pages) ≡ Ok (contents.entries, contents.number)
  pub number : contents.number ≡ images.number
  pub keeps_rules : broken_at contents.entries ≡ None

-- after each call of the journal's disk a crash leaves what stands for the same beside the page file
abbrev pub LeavesSameContents : List ℕ → History → History → Type 0
LeavesSameContents pages old new = LeavesOnly (λ journal. contents_beside pages journal ≡ contents_beside pages old.now.reads) old new
