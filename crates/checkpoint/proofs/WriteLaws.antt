-- What is written of a tree's cut, and runs that begin where another one left both disks as they were.
use Rattle.std.proofs.Common.{◌≡◌, ◌<◌, ◌≤◌, ◌^◌, ℕ, List, length, take, Some, Ok, sym, ap, subst, ◌∙◌, arith}
use Rattle.outside_traits.specs.DiskPairs.{Pair, PairsLeave, pair_of}
use Rattle.outside_traits.specs.Moments.{History}
use Rattle.outside_traits.proofs.PairLaws.{none}
use Rattle.page_store.specs.Images.{AreImages}
use Rattle.tree_model.specs.Tree.{Tree, map_of}
use Rattle.node_pages.specs.Cuts.{most_pages}
use Rattle.node_pages.specs.PageFiles.{contents_of_file}
use Rattle.journal.specs.PageImages.{images_body, images_in}
use Rattle.journal.proofs.ImageLaws.{body_again}
use Rattle.store_contents.specs.Contents.{Contents, HoldsImages, contents_of_files}
use Rattle.checkpoint.specs.Checkpoints.{OpenAs}
use Rattle.checkpoint.specs.NewPages.{new_pages}
use Rattle.checkpoint.specs.inside.Gathered.{AreGathered, AreWhole}
use Rattle.checkpoint.specs.inside.Phases.{HasWritten, IsCutOf, numbered_images, stored}
use Rattle.checkpoint.proofs.CutLaws.{all_in_front, holds, pages_hold}
use Rattle.checkpoint.proofs.NewPagesLaws.{installable, page_images_are, rising_numbers, short_body}

-- ---- the body of what was gathered

pub read_again : (images : List (ℕ × List ℕ)) (body : List ℕ) → AreGathered 32_768 images → body ≡ images_body images → images_in body ≡ Some images
read_again images body are is = ap images_in is ∙ body_again images (page_images_are 32_768 images (omega arith) are) (rising_numbers images are.rising) (omega (arith, are.few))

pub is_short : (images : List (ℕ × List ℕ)) (body : List ℕ) → AreGathered 32_768 images → body ≡ images_body images → length body < 2 ^ 32
is_short images body are is = subst (λ (b : List ℕ). length b < 2 ^ 32) (sym is) (short_body 32_768 images (omega arith) are)

-- ---- what was gathered of a cut

pub can_be_installed : (pages : List (List ℕ)) (file : List ℕ) (images : List (ℕ × List ℕ)) → AreWhole pages → images ≡ new_pages 0 pages file → AreImages (length file) images
can_be_installed pages file images whole is = subst (AreImages (length file)) (sym is) (installable pages 0 (length file) file whole (omega arith) (omega arith))

module _ (t : Tree) (number : ℕ) (fits : number < 2 ^ 32) (cut : List (List ℕ)) (is : IsCutOf t number cut) (count : ℕ) (all : AreWhole cut → length cut ≤ most_pages → count ≡ length cut)
    (file : List ℕ) (images : List (ℕ × List ℕ)) (gathered : images ≡ new_pages 0 (take count cut) file) where
  images_are : images ≡ new_pages 0 cut file
  images_are = gathered ∙ ap (λ (l : List (List ℕ)). new_pages 0 l file) (all_in_front t number cut is count all)

  pub holds_them : HoldsImages file (numbered_images number images) (stored t number)
  holds_them = subst (λ (l : List (ℕ × List ℕ)). HoldsImages file (numbered_images number l) (stored t number)) (sym images_are) (holds t is.valid number fits cut is.is file)

  pub tree_written : (old new : History) → old.now.reads ≡ file → HasWritten images old new → contents_of_file new.now.reads ≡ Ok (map_of t, number)
  tree_written old new was written = pages_hold t is.valid number fits cut is.is file old new was (subst (λ (l : List (ℕ × List ℕ)). HasWritten l old new) images_are written)

-- ---- runs

-- nothing was written
pub untouched : (Q : List ℕ → List ℕ → Type 0) (j p j_now p_now : History) → j_now ≡ j → p_now ≡ p → PairsLeave Q (pair_of j p) (pair_of j_now p_now)
untouched Q j p j_now p_now same_journal same_pages =
    subst (λ (h : History). PairsLeave Q (pair_of j p) (pair_of h p_now)) (sym same_journal) (subst (λ (h : History). PairsLeave Q (pair_of j p) (pair_of j h)) (sym same_pages) (none Q (pair_of j p)))

-- a run that began with both disks as they were
pub from_there : (Q : List ℕ → List ℕ → Type 0) (j p j_then p_then : History) (new : Pair) → j_then ≡ j → p_then ≡ p → PairsLeave Q (pair_of j_then p_then) new → PairsLeave Q (pair_of j p) new
from_there Q j p j_then p_then new same_journal same_pages run =
    subst (λ (h : History). PairsLeave Q (pair_of h p) new) same_journal (subst (λ (h : History). PairsLeave Q (pair_of j_then h) new) same_pages run)

-- so both stood for the same there
pub stood_there : (contents : Contents) (j p j_then p_then : History) → j_then ≡ j → p_then ≡ p → contents_of_files j.now.reads p.now.reads ≡ Ok contents → contents_of_files j_then.now.reads p_then.now.reads ≡ Ok contents
stood_there contents j p j_then p_then same_journal same_pages stood = (λ i. contents_of_files (same_journal i).now.reads (same_pages i).now.reads) ∙ stood

-- the three phases, begun where both disks were as they had been
pub phases_written : (t : Tree) (number : ℕ) (fits : number < 2 ^ 32) (cut : List (List ℕ)) (is : IsCutOf t number cut) (count : ℕ) (all : AreWhole cut → length cut ≤ most_pages → count ≡ length cut)
    (j p j_then p_then : History) (new : Pair) (gathered images : List (ℕ × List ℕ)) → j_then ≡ j → p_then ≡ p → gathered ≡ new_pages 0 (take count cut) p.now.reads → images ≡ gathered
    → contents_of_files j.now.reads p.now.reads ≡ Ok (stored t number)
    → ((contents : Contents) → contents_of_files j_then.now.reads p_then.now.reads ≡ Ok contents → HoldsImages p_then.now.reads (numbered_images number images) contents
    → PairsLeave (OpenAs contents) (pair_of j_then p_then) new)
    → PairsLeave (OpenAs (stored t number)) (pair_of j p) new
phases_written t number fits cut is count all j p j_then p_then new gathered images same_journal same_pages are of_images stood run =
    let held : HoldsImages p.now.reads (numbered_images number images) (stored t number) =
    subst (λ (l : List (ℕ × List ℕ)). HoldsImages p.now.reads (numbered_images number l) (stored t number)) (sym of_images) (holds_them t number fits cut is count all p.now.reads gathered are) in
    from_there (OpenAs (stored t number)) j p j_then p_then new same_journal same_pages
    (run (stored t number) (stood_there (stored t number) j p j_then p_then same_journal same_pages stood)
    (subst (λ (h : History). HoldsImages h.now.reads (numbered_images number images) (stored t number)) (sym same_pages) held))
