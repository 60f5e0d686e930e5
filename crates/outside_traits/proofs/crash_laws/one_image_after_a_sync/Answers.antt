use Rattle.std.proofs.Common.{List, ℕ, sym, subst}
use Rattle.outside_traits.specs.Disks.{DiskState}
use Rattle.outside_traits.specs.CrashImages.{IsImage}
use Rattle.outside_traits.proofs.ImageLaws.{image-of_rests, image-all_synced}
use Rattle.outside_traits.proofs.crash_laws.one_image_after_a_sync.Goals as goal

pub returns : goal.returns
returns c = record {
  law = λ old new image synced are. (
    (λ is. image-all_synced old.now.reads image (subst (λ (s : DiskState). IsImage s image) synced.by is)),
    (λ is. subst (λ (b : List ℕ). IsImage new.now b) (sym is) (subst (λ (s : DiskState). IsImage s old.now.reads) (sym synced.by) (image-of_rests old.now.reads are))),
  );
}
