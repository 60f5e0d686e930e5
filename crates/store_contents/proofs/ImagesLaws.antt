-- What files stand for where images of pages are open.
use Rattle.std.proofs.Common.{◌≡◌, ℕ, Bool, true, false, List, [], Option, Some, None, Result, Ok, Err, if◌then◌else◌, refl, sym, ◌∙◌, ap}
use Rattle.std.proofs.lemmas.Bool.{eqb-true, eq-eqb}
use Rattle.tree_model.specs.Entries.{Entries}
use Rattle.tree_model.specs.StoredTree.{broken_at}
use Rattle.node_records.specs.declared.open_error.Place.{Place}
use Rattle.node_records.specs.declared.open_error.File.TheVariants.{Pages, Tree}
use Rattle.node_pages.specs.PagesIn.{pages_in}
use Rattle.node_pages.specs.PageZero.{header_in}
use Rattle.journal.specs.Journals.{read}
use Rattle.journal.specs.declared.group.Groups.{Groups}
use Rattle.journal.specs.declared.group.Images.{Images}
use Rattle.store_contents.specs.Contents.{Contents, HoldsImages, place_in, with_commits, base_told, is_number, over_pages, page_among, with_images, contents_of_files}
use Rattle.store_contents.proofs.ContentsLaws.{base_behind, by_groups, over_images}

abbrev contents_found : Contents → Result Contents Place → Contents
contents_found other (Ok found) = found
contents_found other (Err place) = other

-- a number that is there and is this one
one_number : (n : ℕ) (o : Option ℕ) (m : ℕ) → is_number n o ≡ true → o ≡ Some m → m ≡ n
one_number n None m is some = cc
one_number n (Some k) m is some = ap (λ (o : Option ℕ). elim o as (λ _. ℕ) [ None ↦ m | Some x ↦ x ]) (sym some) ∙ eqb-true k n is

module _ (pages : List ℕ) (images : Images) (contents : Contents) where
  abbrev page : ℕ → List ℕ
  page = page_among images.pages pages

  in_tree : (held : Entries × ℕ) (o : Option ℕ) → is_number images.number (base_told (header_in (page 0))) ≡ true → pages_in page ≡ Ok held
      → broken_at held.0 ≡ o → elim o as (λ _. Result Contents Place) [ None ↦ Ok (with_commits [] held) | Some at ↦ Err (place_in Tree at) ] ≡ Ok contents → HoldsImages pages images contents
  in_tree held None numbered hold keeps e =
      let is : contents ≡ with_commits [] held = sym (ap (contents_found contents) e) in
      record {
        hold = hold ∙ ap (λ (c : Contents). Ok (c.entries, c.number)) (sym is);
        number = ap (λ (c : Contents). c.number) is ∙ one_number images.number (base_told (header_in (page 0))) held.1 numbered (base_behind page (header_in (page 0)) held hold);
        keeps_rules = ap (λ (c : Contents). broken_at c.entries) is ∙ keeps;
      }
  in_tree held (Some at) numbered hold keeps e = cc

  in_pages : (r : Result (Entries × ℕ) ℕ) → is_number images.number (base_told (header_in (page 0))) ≡ true → pages_in page ≡ r → over_pages [] r ≡ Ok contents → HoldsImages pages images contents
  in_pages (Ok held) numbered hold e = in_tree held (broken_at held.0) numbered hold refl e
  in_pages (Err n) numbered hold e = cc

  in_zero : (b : Bool) → is_number images.number (base_told (header_in (page 0))) ≡ b → (if b then over_pages [] (pages_in page) else Err (place_in Pages 0)) ≡ Ok contents → HoldsImages pages images contents
  in_zero true numbered e = in_pages (pages_in page) numbered refl e
  in_zero false numbered e = cc

  pub parts_of : with_images pages images ≡ Ok contents → HoldsImages pages images contents
  parts_of e = in_zero (is_number images.number (base_told (header_in (page 0)))) refl e

  pub of_parts : HoldsImages pages images contents → with_images pages images ≡ Ok contents
  of_parts parts =
      let numbered : is_number images.number (base_told (header_in (page 0))) ≡ true =
      ap (is_number images.number) (base_behind page (header_in (page 0)) (contents.entries, contents.number) parts.hold) ∙ eq-eqb contents.number images.number parts.number in
      ap (λ (b : Bool). if b then over_pages [] (pages_in page) else Err (place_in Pages 0)) numbered
      ∙ ap (over_pages []) parts.hold
      ∙ ap (λ (o : Option ℕ). elim o as (λ _. Result Contents Place) [ None ↦ Ok contents | Some at ↦ Err (place_in Tree at) ]) parts.keeps_rules

pub holds_images : (journal pages : List ℕ) (groups : Groups) (images : Images) (contents : Contents)
    → read journal ≡ Ok groups → groups.images ≡ Some images → contents_of_files journal pages ≡ Ok contents → HoldsImages pages images contents
holds_images journal pages groups images contents h some e = parts_of pages images contents (sym (over_images pages groups images some) ∙ sym (by_groups pages journal groups h) ∙ e)

pub images_held : (journal pages : List ℕ) (groups : Groups) (images : Images) (contents : Contents)
    → read journal ≡ Ok groups → groups.images ≡ Some images → HoldsImages pages images contents → contents_of_files journal pages ≡ Ok contents
images_held journal pages groups images contents h some parts = by_groups pages journal groups h ∙ over_images pages groups images some ∙ of_parts pages images contents parts
