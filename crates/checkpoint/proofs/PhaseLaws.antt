-- Each phase of a checkpoint leaves two files that stand for the same.
use Rattle.std.proofs.Common.{◌≡◌, ⊎_elim, ℕ, List, [], Option, Some, Ok, unwrap_or, refl, sym, ap, subst, ◌∙◌, arith}
use Rattle.outside_traits.specs.Disks.{DiskState, all_synced}
use Rattle.outside_traits.specs.CrashImages.{IsImage}
use Rattle.outside_traits.specs.DiskPairs.{PairsLeave, TouchesJournal, TouchesPages, pair_of}
use Rattle.outside_traits.specs.Moments.{History, IsAllSynced}
use Rattle.outside_traits.proofs.ImageLaws.{image-all_synced}
use Rattle.outside_traits.proofs.MomentLaws.{weaker}
use Rattle.outside_traits.proofs.PairLaws.{journal_phase, pages_phase, pairs_joined}
use Rattle.page_store.specs.Images.{KeepsOthers, LeavesOthers}
use Rattle.node_pages.specs.PageZero.{count_of}
use Rattle.journal.specs.Appends.{IsOneOf, groups_in, groups_read}
use Rattle.journal.specs.Groups.{images, only_commits, with_images}
use Rattle.journal.specs.ImageAppends.{LeavesWithOrWithoutImages}
use Rattle.journal.specs.Journals.{read}
use Rattle.journal.specs.PageImages.{images_in}
use Rattle.journal.specs.Resets.{LeavesGroupsOrNone}
use Rattle.journal.specs.declared.group.Groups.{Groups}
use Rattle.store_contents.specs.Contents.{Contents, HoldsImages, contents_of_files}
use Rattle.store_contents.proofs.CommitLaws.{same_groups}
use Rattle.store_contents.proofs.HiddenLaws.{hidden, stand_alone}
use Rattle.store_contents.proofs.ImagesLaws.{images_held}
use Rattle.checkpoint.specs.Checkpoints.{OpenAs}
use Rattle.checkpoint.specs.inside.Phases.{HasWritten, numbered_images}
use Rattle.checkpoint.proofs.CutLaws.{made_of_pages}

-- a crash of a synced disk leaves what a read gives
synced_image : (s : History) → IsAllSynced s → (image : List ℕ) → IsImage s.now image → image ≡ s.now.reads
synced_image s synced image is = image-all_synced s.now.reads image (subst (λ (d : DiskState). IsImage d image) synced is)

-- synced bytes are those that a read gives
pub synced_again : (s : History) (file : List ℕ) → s.now ≡ all_synced file → IsAllSynced s
synced_again s file is = is ∙ ap all_synced (sym (ap (λ (d : DiskState). d.reads) is))

keeps_itself : (pages : List (ℕ × List ℕ)) (file : List ℕ) → KeepsOthers pages file file
keeps_itself pages file = record { longer = omega arith; pages = λ n lacks within. refl }

module _ (number : ℕ) (body : List ℕ) (pages : List (ℕ × List ℕ)) (is_body : images_in body ≡ Some pages) (contents : Contents) (j0 p0 : History)
    (reads : read j0.now.reads ≡ Ok (groups_in j0)) (synced : IsAllSynced p0) (stood : contents_of_files j0.now.reads p0.now.reads ≡ Ok contents)
    (holds : HoldsImages p0.now.reads (numbered_images number pages) contents) where
  -- the groups with the images
  abbrev held : Groups
  held = with_images (groups_in j0) (images number body)

  has_images : Some (images number body) ≡ Some (numbered_images number pages)
  has_images = ap (λ (o : Option (List (ℕ × List ℕ))). Some (numbered_images number (unwrap_or o []))) is_body

  found_opens : (journal : List ℕ) → read journal ≡ Ok (groups_in j0) → OpenAs contents journal p0.now.reads
  found_opens journal is = same_groups j0.now.reads journal p0.now.reads (groups_in j0) reads is ∙ stood

  held_opens : (journal file : List ℕ) → read journal ≡ Ok held → KeepsOthers pages p0.now.reads file → OpenAs contents journal file
  held_opens journal file is keeps =
      hidden journal p0.now.reads held (numbered_images number pages) contents is has_images (images_held journal p0.now.reads held (numbered_images number pages) contents is has_images holds) file keeps

  left_opens : (journal : List ℕ) (p1 : History) → read journal ≡ Ok (only_commits []) → HasWritten pages p0 p1 → (held_in : List ℕ) → read held_in ≡ Ok held → OpenAs contents journal p1.now.reads
  left_opens journal p1 none written held_in is =
      stand_alone held_in p0.now.reads held (numbered_images number pages) contents is has_images (images_held held_in p0.now.reads held (numbered_images number pages) contents is has_images holds)
      journal p1.now.reads none written.others (λ h said. made_of_pages (count_of h) p1.now.reads pages written.pages)

  -- the images go into the journal
  first_phase : (j1 : History) → LeavesWithOrWithoutImages number body j0 j1 → TouchesJournal (OpenAs contents) (pair_of j0 p0) (pair_of j1 p0)
  first_phase j1 leaves = record {
    leaves = weaker (IsOneOf (groups_in j0) held) (λ journal. (file : List ℕ) → IsImage p0.now file → OpenAs contents journal file) j0 j1
        (λ journal either file of_pages. subst (λ (f : List ℕ). OpenAs contents journal f) (sym (synced_image p0 synced file of_pages))
        (⊎_elim (λ is. found_opens journal is) (λ is. held_opens journal p0.now.reads is (keeps_itself pages p0.now.reads)) either))
        leaves;
    still = refl;
  }

  pub after_first : (j1 : History) → LeavesWithOrWithoutImages number body j0 j1 → PairsLeave (OpenAs contents) (pair_of j0 p0) (pair_of j1 p0)
  after_first j1 leaves = journal_phase (OpenAs contents) (pair_of j0 p0) (pair_of j1 p0) (first_phase j1 leaves)

  module _ (j1 : History) (first : LeavesWithOrWithoutImages number body j0 j1) (durable : (image : List ℕ) → IsImage j1.now image → read image ≡ Ok held) where
    -- they are written in place
    second_phase : (p1 : History) → LeavesOthers pages p0 p1 → TouchesPages (OpenAs contents) (pair_of j1 p0) (pair_of j1 p1)
    second_phase p1 leaves = record {
      leaves = weaker (KeepsOthers pages p0.now.reads) (λ file. (journal : List ℕ) → IsImage j1.now journal → OpenAs contents journal file) p0 p1
          (λ file keeps journal of_journal. held_opens journal file (durable journal of_journal) keeps) leaves;
      still = refl;
    }

    pub after_second : (p1 : History) → LeavesOthers pages p0 p1 → PairsLeave (OpenAs contents) (pair_of j0 p0) (pair_of j1 p1)
    after_second p1 leaves = pairs_joined (OpenAs contents) (pair_of j0 p0) (pair_of j1 p0) (pair_of j1 p1) (after_first j1 first)
        (pages_phase (OpenAs contents) (pair_of j1 p0) (pair_of j1 p1) (second_phase p1 leaves))

    module _ (p1 : History) (second : LeavesOthers pages p0 p1) (written : HasWritten pages p0 p1) (with_them : read j1.now.reads ≡ Ok held) where
      -- and the journal is reset
      third_phase : (j2 : History) → LeavesGroupsOrNone j1 j2 → TouchesJournal (OpenAs contents) (pair_of j1 p1) (pair_of j2 p1)
      third_phase j2 leaves = record {
        leaves = weaker (IsOneOf (groups_in j1) (only_commits [])) (λ journal. (file : List ℕ) → IsImage p1.now file → OpenAs contents journal file) j1 j2
            (λ journal either file of_pages. subst (λ (f : List ℕ). OpenAs contents journal f) (sym (synced_image p1 written.synced file of_pages))
            (⊎_elim (λ is. held_opens journal p1.now.reads (is ∙ ap (λ r. Ok (groups_read r)) with_them) written.others) (λ none. left_opens journal p1 none written j1.now.reads with_them) either))
            leaves;
        still = refl;
      }

      pub after_third : (j2 : History) → LeavesGroupsOrNone j1 j2 → PairsLeave (OpenAs contents) (pair_of j0 p0) (pair_of j2 p1)
      after_third j2 leaves = pairs_joined (OpenAs contents) (pair_of j0 p0) (pair_of j1 p1) (pair_of j2 p1) (after_second p1 second)
          (journal_phase (OpenAs contents) (pair_of j1 p1) (pair_of j2 p1) (third_phase j2 leaves))
