-- What a crash leaves while a checkpoint is finished that an earlier one broke off.
use Rattle.std.proofs.Common.{◌≡◌, ⊎_elim, ℕ, List, [], length, take, None, Ok, Err, refl, sym, ap, subst, ◌∙◌}
use Rattle.outside_traits.specs.CrashImages.{IsImage}
use Rattle.outside_traits.specs.DiskPairs.{Pair, PairsHave, PairsLeave, pair_of}
use Rattle.outside_traits.specs.Disks.{DiskState, all_synced}
use Rattle.outside_traits.specs.Moments.{History, IsAllSynced}
use Rattle.outside_traits.proofs.ImageLaws.{image-all_synced}
use Rattle.outside_traits.proofs.MomentLaws.{weaker}
use Rattle.outside_traits.proofs.PairLaws.{journal_phase, none, pages_phase, pairs_joined, pairs_now, pairs_weaker}
use Rattle.page_store.specs.Images.{KeepsOthers, LeavesOthers}
use Rattle.page_store.specs.Pages.{ArePagesOf}
use Rattle.journal.specs.Appends.{IsOneOf, groups_in, groups_read}
use Rattle.journal.specs.Groups.{only_commits}
use Rattle.journal.specs.Journals.{read}
use Rattle.journal.specs.Resets.{LeavesGroupsOrNone}
use Rattle.journal.specs.declared.group.Images.{Images}
use Rattle.node_records.specs.declared.open_error.Place.{Place}
use Rattle.store_contents.specs.Contents.{Contents, contents_of_files, with_images}
use Rattle.store_contents.specs.StoredTrees.{LeaveWhatStood, StoodFor}
use Rattle.store_contents.proofs.CommitLaws.{same_groups}
use Rattle.store_contents.proofs.ContentsLaws.{by_groups, over_images}
use Rattle.store_contents.proofs.HiddenLaws.{hidden, stand_alone}
use Rattle.store_contents.proofs.ImagesLaws.{holds_images}
use Rattle.recovery.specs.inside.Finishing.{ArePages, AreSound, AreUnfinished, HasOpen, IsFinished, IsUntouchedAt, StandForThis, ready_front}
use Rattle.recovery.proofs.ImagePages.{read_pages}
use Rattle.recovery.proofs.ReadyLaws.{fewer_lack, made_below}

-- ---- runs of which each leaves what stood at its start

itself : (pair : Pair) → PairsHave (StoodFor pair) pair
itself pair journal pages of_journal of_pages = record { journal_then = journal; pages_then = pages; of_journal = of_journal; of_pages = of_pages; same = refl }

-- one run after another
pub stood_on : (old mid new : Pair) → LeaveWhatStood old mid → LeaveWhatStood mid new → LeaveWhatStood old new
stood_on old mid new first second = pairs_joined (StoodFor old) old mid new first (pairs_weaker (StoodFor mid) (StoodFor old) (λ journal pages stood.
    let before = pairs_now (StoodFor old) old mid first (itself old) stood.journal_then stood.pages_then stood.of_journal stood.of_pages in
    record {
      journal_then = before.journal_then;
      pages_then = before.pages_then;
      of_journal = before.of_journal;
      of_pages = before.of_pages;
      same = stood.same ∙ before.same;
    }) mid new second)

-- what stands for the same as the two files did
pub stood_for_this : (contents : Contents) (old new : Pair) → IsImage old.journal.now old.journal.now.reads → IsImage old.pages.now old.pages.now.reads
    → contents_of_files old.journal.now.reads old.pages.now.reads ≡ Ok contents → PairsLeave (StandForThis contents) old new → LeaveWhatStood old new
stood_for_this contents old new of_journal of_pages stood run = pairs_weaker (StandForThis contents) (StoodFor old) (λ journal pages is. record {
  journal_then = old.journal.now.reads;
  pages_then = old.pages.now.reads;
  of_journal = of_journal;
  of_pages = of_pages;
  same = is ∙ sym stood;
}) old new run

-- ---- images are written in place, and the journal is reset

synced_image : (s : History) → IsAllSynced s → (image : List ℕ) → IsImage s.now image → image ≡ s.now.reads
synced_image s synced image is = image-all_synced s.now.reads image (subst (λ (d : DiskState). IsImage d image) synced is)

-- synced bytes are those that a read gives
pub synced_again : (s : History) (file : List ℕ) → s.now ≡ all_synced file → IsAllSynced s
synced_again s file is = is ∙ ap all_synced (sym (ap (λ (d : DiskState). d.reads) is))

module _ (j0 p0 : History) (written : List (ℕ × List ℕ)) (contents : Contents) (un : AreUnfinished j0 p0 written contents) where
  wider : (file : List ℕ) → KeepsOthers written p0.now.reads file → KeepsOthers un.images.pages p0.now.reads file
  wider file keeps = record { longer = keeps.longer; pages = λ n lacks within. keeps.pages n (un.fewer n lacks) within }

  held_opens : (journal file : List ℕ) → read journal ≡ Ok un.groups → KeepsOthers written p0.now.reads file → StandForThis contents journal file
  held_opens journal file is keeps =
      hidden journal p0.now.reads un.groups un.images contents is un.has (same_groups j0.now.reads journal p0.now.reads un.groups un.reads is ∙ un.stood) file (wider file keeps)

  pub alone_opens : (journal : List ℕ) (p1 : History) → read journal ≡ Ok (only_commits []) → ArePagesOf p1.now.reads written → KeepsOthers written p0.now.reads p1.now.reads → StandForThis contents journal p1.now.reads
  alone_opens journal p1 cleared made keeps =
      stand_alone j0.now.reads p0.now.reads un.groups un.images contents un.reads un.has un.stood journal p1.now.reads cleared (wider p1.now.reads keeps) (λ h said. un.below h said p1.now.reads made)

  module _ (rests : IsAllSynced j0) (p1 : History) (in_place : LeavesOthers written p0 p1) where
    pub after_pages : PairsLeave (StandForThis contents) (pair_of j0 p0) (pair_of j0 p1)
    after_pages = pages_phase (StandForThis contents) (pair_of j0 p0) (pair_of j0 p1) (record {
      leaves = weaker (KeepsOthers written p0.now.reads) (λ file. (journal : List ℕ) → IsImage j0.now journal → StandForThis contents journal file) p0 p1
          (λ file keeps journal of_journal. subst (λ (bytes : List ℕ). StandForThis contents bytes file) (sym (synced_image j0 rests journal of_journal)) (held_opens j0.now.reads file un.reads keeps))
          in_place;
      still = refl;
    })

    pub after_reset : IsAllSynced p1 → ArePagesOf p1.now.reads written → KeepsOthers written p0.now.reads p1.now.reads → (j1 : History) → LeavesGroupsOrNone j0 j1
        → PairsLeave (StandForThis contents) (pair_of j0 p0) (pair_of j1 p1)
    after_reset pages_rest made keeps j1 leaves = pairs_joined (StandForThis contents) (pair_of j0 p0) (pair_of j0 p1) (pair_of j1 p1) after_pages
        (journal_phase (StandForThis contents) (pair_of j0 p1) (pair_of j1 p1) (record {
          leaves = weaker (IsOneOf (groups_in j0) (only_commits [])) (λ journal. (file : List ℕ) → IsImage p1.now file → StandForThis contents journal file) j0 j1
              (λ journal either file of_pages. subst (λ (f : List ℕ). StandForThis contents journal f) (sym (synced_image p1 pages_rest file of_pages))
              (⊎_elim (λ is. held_opens journal p1.now.reads (is ∙ ap (λ r. Ok (groups_read r)) un.reads) keeps) (λ cleared. alone_opens journal p1 cleared made keeps) either))
              leaves;
          still = refl;
        }))

-- ---- before anything is written

-- neither disk was
pub still : (j p q : History) → q ≡ p → LeaveWhatStood (pair_of j p) (pair_of j q)
still j p q same = subst (λ (t : History). LeaveWhatStood (pair_of j p) (pair_of j t)) (sym same) (none (StoodFor (pair_of j p)) (pair_of j p))

-- where images are open the files stand for the pages with these put in
pub by_images : (journal : History) (pages : List ℕ) (images : Images) → HasOpen journal images → contents_of_files journal.now.reads pages ≡ with_images pages images
by_images journal pages images held = by_groups pages journal.now.reads held.groups held.reads ∙ over_images pages held.groups images held.has

pub untouched_at : (j p q : History) (images : Images) (place : Place) → HasOpen j images → q ≡ p → with_images p.now.reads images ≡ Err place → IsUntouchedAt (pair_of j p) (pair_of j q) place
untouched_at j p q images place held same broken = record {
  broken = by_images j p.now.reads images held ∙ broken;
  same = (λ i. pair_of j (same i));
}

-- what was tested is ready to be written, as the front of the images
pub unfinished : (j p q : History) (images : Images) (count size : ℕ) → (held : HasOpen j images) → (sound : AreSound p.now.reads images count) → q ≡ p → size ≡ length p.now.reads
    → AreUnfinished j q (take (ready_front count size None images.pages) images.pages) sound.contents
unfinished j p q images count size held sound same long =
    let are : ArePages images.pages = read_pages j.now.reads held.groups held.reads images held.has in
    let stood : contents_of_files j.now.reads p.now.reads ≡ Ok sound.contents = by_images j p.now.reads images held ∙ sound.is in
    let parts = holds_images j.now.reads p.now.reads held.groups images sound.contents held.reads held.has stood in
    subst (λ (t : History). AreUnfinished j t (take (ready_front count size None images.pages) images.pages) sound.contents) (sym same) (record {
      groups = held.groups;
      images = images;
      reads = held.reads;
      has = held.has;
      stood = stood;
      fewer = λ n lacks. fewer_lack n (ready_front count size None images.pages) images.pages lacks;
      below = made_below p.now.reads images count are sound (sound.contents.entries, sound.contents.number) parts.hold size long;
    })

pub finished : (j p q r : History) (images : Images) (contents : Contents) → HasOpen j images → with_images p.now.reads images ≡ Ok contents → StandForThis contents r.now.reads q.now.reads → read r.now.reads ≡ Ok (only_commits [])
    → IsFinished (pair_of j p) (pair_of r q)
finished j p q r images contents held is stands cleared = record {
  contents = contents;
  stood = by_images j p.now.reads images held ∙ is;
  stands = stands;
  cleared = cleared;
}

-- ---- the front of the images is written

module _ (j p p_then : History) (images : Images) (written : List (ℕ × List ℕ)) (count size : ℕ) (held : HasOpen j images) (sound : AreSound p.now.reads images count)
    (same : p_then ≡ p) (long : size ≡ length p.now.reads) (is : written ≡ take (ready_front count size None images.pages) images.pages) (new : Pair) where
  pub front_unfinished : AreUnfinished j p_then written sound.contents
  front_unfinished = subst (λ (l : List (ℕ × List ℕ)). AreUnfinished j p_then l sound.contents) (sym is) (unfinished j p p_then images count size held sound same long)

  pub put_moments : IsImage j.now j.now.reads → IsImage p.now p.now.reads
      → ((contents : Contents) → AreUnfinished j p_then written contents → PairsLeave (StandForThis contents) (pair_of j p_then) new) → LeaveWhatStood (pair_of j p) new
  put_moments of_journal of_pages run = stood_for_this sound.contents (pair_of j p) new of_journal of_pages (by_images j p.now.reads images held ∙ sound.is)
      (subst (λ (t : History). PairsLeave (StandForThis sound.contents) (pair_of j t) new) same (run sound.contents front_unfinished))
