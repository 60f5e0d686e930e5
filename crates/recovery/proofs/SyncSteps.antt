-- What a sync leaves could have been left before it.
use Rattle.std.proofs.Common.{ℕ, List, refl, sym, subst}
use Rattle.outside_traits.specs.CrashImages.{IsImage}
use Rattle.outside_traits.specs.DiskPairs.{pair_of}
use Rattle.outside_traits.specs.Disks.{DiskState, Synced, Unsynced}
use Rattle.outside_traits.specs.Moments.{History, TakesStep, Fails}
use Rattle.outside_traits.proofs.ImageLaws.{image-all_synced, image-unsynced}
use Rattle.outside_traits.proofs.MomentLaws.{started, goes_on, goes_wrong}
use Rattle.outside_traits.proofs.PairLaws.{journal_phase, pages_phase, pairs_joined}
use Rattle.recovery.specs.inside.Syncs.{CouldLeave, LeaveNoOther}

synced : (t u : History) → IsImage t.now t.now.reads → TakesStep Synced t u → (image : List ℕ) → IsImage u.now image → IsImage t.now image
synced t u reads goes image is = subst (IsImage t.now) (sym (image-all_synced t.now.reads image (subst (λ (s : DiskState). IsImage s image) goes.by is))) reads

module _ (j j2 p : History) where
  could : (journal pages : List ℕ) → IsImage j.now journal → IsImage p.now pages → CouldLeave (pair_of j p) journal pages
  could journal pages of_journal of_pages = record { of_journal = of_journal; of_pages = of_pages }

  pub journal_fails : Fails Unsynced j j2 → LeaveNoOther (pair_of j p) (pair_of j2 p)
  journal_fails fails = journal_phase _ (pair_of j p) (pair_of j2 p) (record {
    leaves = goes_wrong _ Unsynced j j j2 (started _ j) fails (λ next same image is pages of_pages. could image pages (image-unsynced j.now next same image is) of_pages);
    still = refl;
  })

  module _ (reads : IsImage j.now j.now.reads) (goes : TakesStep Synced j j2) where
    journal_first : LeaveNoOther (pair_of j p) (pair_of j2 p)
    journal_first = journal_phase _ (pair_of j p) (pair_of j2 p) (record {
      leaves = goes_on _ Synced j j j2 (started _ j) goes (λ image is pages of_pages. could image pages (synced j j2 reads goes image is) of_pages);
      still = refl;
    })

    pub pages_fail : (p2 : History) → Fails Unsynced p p2 → LeaveNoOther (pair_of j p) (pair_of j2 p2)
    pages_fail p2 fails = pairs_joined _ (pair_of j p) (pair_of j2 p) (pair_of j2 p2) journal_first (pages_phase _ (pair_of j2 p) (pair_of j2 p2) (record {
      leaves = goes_wrong _ Unsynced p p p2 (started _ p) fails (λ next same image is journal of_journal. could journal image (synced j j2 reads goes journal of_journal) (image-unsynced p.now next same image is));
      still = refl;
    }))

    pub both : (p2 : History) → IsImage p.now p.now.reads → TakesStep Synced p p2 → LeaveNoOther (pair_of j p) (pair_of j2 p2)
    both p2 pages_read goes_2 = pairs_joined _ (pair_of j p) (pair_of j2 p) (pair_of j2 p2) journal_first (pages_phase _ (pair_of j2 p) (pair_of j2 p2) (record {
      leaves = goes_on _ Synced p p p2 (started _ p) goes_2 (λ image is journal of_journal. could journal image (synced j j2 reads goes journal of_journal) (synced p p2 pages_read goes_2 image is));
      still = refl;
    }))
