-- Of which files the laws of this crate tell.
use Rattle.std.specs.Prelude.{◌≡◌, ℕ, List, [], Some, None, Ok}
use Rattle.tree_model.specs.StoredTree.{broken_at}
use Rattle.page_store.specs.Images.{KeepsOthers}
use Rattle.node_pages.specs.PageZero.{Header, count_of, header_in}
use Rattle.journal.specs.Groups.{only_commits}
use Rattle.journal.specs.Journals.{read}
use Rattle.journal.specs.declared.group.Groups.{Groups}
use Rattle.journal.specs.declared.group.Images.{Images}
use Rattle.store_contents.specs.Contents.{Contents, FilesHold, page_among}
use Rattle.store_contents.specs.MadePages.{AreMade}

-- this holds of a journal with these groups, beside any pages
abbrev pub OfGroups : (List ℕ → List ℕ → Groups → Contents → Type 0) → Type 0
OfGroups P = (journal pages : List ℕ) (groups : Groups) (contents : Contents) → read journal ≡ Ok groups → P journal pages groups contents

-- of one whose last group is these images
abbrev pub OfImages : (List ℕ → List ℕ → Images → Contents → Type 0) → Type 0
OfImages P =
    (journal pages : List ℕ) (groups : Groups) (images : Images) (contents : Contents) → read journal ≡ Ok groups → groups.images ≡ Some images
    → P journal pages images contents

-- of what such a journal and a page file stand for, where another file has the same pages but for those of the images
abbrev pub BesideImages : List ℕ → List ℕ → List ℕ → (Images → Contents → Type 0) → Type 0
BesideImages journal file pages P =
    (groups : Groups) (images : Images) (contents : Contents) → read journal ≡ Ok groups → groups.images ≡ Some images
    → FilesHold journal file contents → KeepsOthers images.pages file pages → P images contents

-- and where that has the images themselves too, those below the count of the header among them
abbrev pub BesideMadeImages : List ℕ → List ℕ → List ℕ → (Contents → Type 0) → Type 0
BesideMadeImages journal file made P =
    BesideImages journal file made (λ images contents. ((h : Header) → header_in (page_among images.pages file 0) ≡ Some h → AreMade (count_of h) made images.pages)
    → P contents)

-- the journal is one without groups
abbrev pub HasNoGroups : List ℕ → Type 0
HasNoGroups journal = read journal ≡ Ok (only_commits [])

-- Where a journal with commits alone gets more of them that may follow, and the contents with these break no rule of the tree, the files stand for those.
abbrev pub StandForMore : {More : Type 0} → (Groups → More → Groups) → (More → Contents → Type 0) → (More → Contents → Contents) → Type 0
StandForMore {More = M} with_more MayFollow made =
    (journal longer pages : List ℕ) (groups : Groups) (more : M) (contents : Contents) → read journal ≡ Ok groups → groups.images ≡ None
    → read longer ≡ Ok (with_more groups more) → FilesHold journal pages contents → MayFollow more contents
    → broken_at (made more contents).entries ≡ None → FilesHold longer pages (made more contents)
