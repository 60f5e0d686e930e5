-- What files stand for, by a few of their parts.
use Rattle.std.proofs.Common.{◌≡◌, ℕ, Bool, true, false, List, [], ◌∷◌, Option, Some, None, Result, Ok, Err, if◌then◌else◌, refl, sym, ◌∙◌, ap}
use Rattle.tree_model.specs.Entries.{Entries}
use Rattle.tree_model.specs.StoredTree.{broken_at}
use Rattle.node_records.specs.declared.open_error.Place.{Place}
use Rattle.node_records.specs.declared.open_error.File.TheVariants.{Journal, Tree}
use Rattle.node_pages.specs.PageFiles.{contents_of_file, file_page}
use Rattle.node_pages.specs.PagesIn.{read_behind, starts_in, entries_from}
use Rattle.node_pages.specs.PageZero.{Header, header_in}
use Rattle.node_pages.specs.Chunks.{records_in}
use Rattle.node_pages.specs.Scanning.{and_then}
use Rattle.node_pages.specs.declared.page_start.PageStart.{PageStart}
use Rattle.journal.specs.Heads.{first_gate}
use Rattle.journal.specs.Journals.{read}
use Rattle.journal.specs.declared.group.Groups.{Groups}
use Rattle.journal.specs.declared.group.Images.{Images}
use Rattle.store_contents.specs.Contents.{Contents, HoldsCommits, place_in, with_commits, base_of, base_told, goes_on_from, checked, over_pages, commits_over, with_images, contents_from, first_broken, contents_beside, contents_of_files}

-- where a journal is read, what it stands for hangs on its groups alone
pub by_groups : (pages journal : List ℕ) (groups : Groups) → read journal ≡ Ok groups → contents_beside pages journal ≡ contents_from pages groups
unfolding contents_beside
by_groups pages journal groups h = ap (λ (r : Result Groups ℕ). elim r [ Ok gs ↦ contents_from pages gs | Err at ↦ Err (place_in Journal (first_broken (base_of pages) journal at)) ]) h

-- where a rule of the journal is broken, it stands for a place
pub by_damage : (pages journal : List ℕ) (at : ℕ) → read journal ≡ Err at → contents_beside pages journal ≡ Err (place_in Journal (first_broken (base_of pages) journal at))
unfolding contents_beside
by_damage pages journal at h = ap (λ (r : Result Groups ℕ). elim r [ Ok gs ↦ contents_from pages gs | Err at ↦ Err (place_in Journal (first_broken (base_of pages) journal at)) ]) h

-- without images the commits are made on the pages
pub over_commits : (pages : List ℕ) (groups : Groups) → groups.images ≡ None → contents_from pages groups ≡ commits_over pages groups.commits
over_commits pages groups none = ap (λ (o : Option Images). elim o as (λ _. Result Contents Place) [ None ↦ commits_over pages groups.commits | Some images ↦ with_images pages images ]) none

-- with images they stand in the pages
pub over_images : (pages : List ℕ) (groups : Groups) (images : Images) → groups.images ≡ Some images → contents_from pages groups ≡ with_images pages images
over_images pages groups images some = ap (λ (o : Option Images). elim o as (λ _. Result Contents Place) [ None ↦ commits_over pages groups.commits | Some found ↦ with_images pages found ]) some

-- journals that are read as the same groups stand for the same
pub same_beside : (pages a b : List ℕ) (groups : Groups) → read a ≡ Ok groups → read b ≡ Ok groups → contents_beside pages a ≡ contents_beside pages b
same_beside pages a b groups h g = by_groups pages a groups h ∙ sym (by_groups pages b groups g)

-- ---- the base

abbrev base_in : Result (Entries × ℕ) ℕ → Option ℕ
base_in (Ok held) = Some held.1
base_in (Err page) = None

base_with : (page : ℕ → List ℕ) (h : Header) (r : Result (List PageStart) ℕ) (held : Entries × ℕ) → and_then r (λ starts. Ok (records_in (entries_from page 1 h.data_pages), h.base)) ≡ Ok held → Some h.base ≡ Some held.1
base_with page h (Ok starts) held e = ap base_in e
base_with page h (Err n) held e = cc

pub base_behind : (page : ℕ → List ℕ) (o : Option Header) (held : Entries × ℕ) → read_behind page o ≡ Ok held → base_told o ≡ Some held.1
base_behind page None held e = cc
base_behind page (Some h) held e = base_with page h (starts_in page h) held e

-- pages that break no rule tell their base on page 0
pub base_is : (pages : List ℕ) (held : Entries × ℕ) → contents_of_file pages ≡ Ok held → base_of pages ≡ Some held.1
base_is [] held e = ap base_in e
base_is (b ∷ bs) held e = base_behind (file_page (b ∷ bs)) (header_in (file_page (b ∷ bs) 0)) held e

-- ---- in parts

abbrev found_in : Contents → Result Contents Place → Contents
found_in other (Ok found) = found
found_in other (Err place) = other

module _ (pages : List ℕ) (groups : Groups) (contents : Contents) (none : groups.images ≡ None) where
  in_tree : (held : Entries × ℕ) (o : Option ℕ) → contents_of_file pages ≡ Ok held → goes_on_from (base_of pages) groups.commits ≡ true
      → broken_at (with_commits groups.commits held).entries ≡ o
      → elim o as (λ _. Result Contents Place) [ None ↦ Ok (with_commits groups.commits held) | Some at ↦ Err (place_in Tree at) ] ≡ Ok contents → HoldsCommits pages groups contents
  in_tree held None hold on keeps e =
      let is : contents ≡ with_commits groups.commits held = sym (ap (found_in contents) e) in
      record {
        held = held;
        no_images = none;
        pages_hold = hold;
        goes_on = ap (λ (o : Option ℕ). goes_on_from o groups.commits) (sym (base_is pages held hold)) ∙ on;
        is = is;
        keeps_rules = ap (λ (c : Contents). broken_at c.entries) is ∙ keeps;
      }
  in_tree held (Some at) hold on keeps e = cc

  in_pages : (r : Result (Entries × ℕ) ℕ) → contents_of_file pages ≡ r → goes_on_from (base_of pages) groups.commits ≡ true → over_pages groups.commits r ≡ Ok contents → HoldsCommits pages groups contents
  in_pages (Ok held) hold on e = in_tree held (broken_at (with_commits groups.commits held).entries) hold on refl e
  in_pages (Err page) hold on e = cc

  in_journal : (b : Bool) → goes_on_from (base_of pages) groups.commits ≡ b → (if b then over_pages groups.commits (contents_of_file pages) else Err (place_in Journal first_gate)) ≡ Ok contents → HoldsCommits pages groups contents
  in_journal true on e = in_pages (contents_of_file pages) refl on e
  in_journal false on e = cc

  pub parts_of : contents_from pages groups ≡ Ok contents → HoldsCommits pages groups contents
  parts_of e = in_journal (goes_on_from (base_of pages) groups.commits) refl (sym (over_commits pages groups none) ∙ e)

pub of_parts : (pages : List ℕ) (groups : Groups) (contents : Contents) → HoldsCommits pages groups contents → contents_from pages groups ≡ Ok contents
of_parts pages groups contents parts =
    let on : goes_on_from (base_of pages) groups.commits ≡ true = ap (λ (o : Option ℕ). goes_on_from o groups.commits) (base_is pages parts.held parts.pages_hold) ∙ parts.goes_on in
    over_commits pages groups parts.no_images
    ∙ ap (λ (b : Bool). if b then over_pages groups.commits (contents_of_file pages) else Err (place_in Journal first_gate)) on
    ∙ ap (over_pages groups.commits) parts.pages_hold
    ∙ ap checked (sym parts.is)
    ∙ ap (λ (o : Option ℕ). elim o as (λ _. Result Contents Place) [ None ↦ Ok contents | Some at ↦ Err (place_in Tree at) ]) parts.keeps_rules

pub holds_commits : (journal pages : List ℕ) (groups : Groups) (contents : Contents) → read journal ≡ Ok groups → groups.images ≡ None → contents_of_files journal pages ≡ Ok contents → HoldsCommits pages groups contents
holds_commits journal pages groups contents h none e = parts_of pages groups contents none (sym (by_groups pages journal groups h) ∙ e)

pub commits_held : (journal pages : List ℕ) (groups : Groups) (contents : Contents) → read journal ≡ Ok groups → HoldsCommits pages groups contents → contents_of_files journal pages ≡ Ok contents
commits_held journal pages groups contents h parts = by_groups pages journal groups h ∙ of_parts pages groups contents parts
