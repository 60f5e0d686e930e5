-- The file over which images were written has them as its pages, and its other pages as they were.
use Rattle.std.proofs.Common.{inl, ◌≡◌, ◌≢◌, ◌≤◌, ◌<◌, ℕ, ◌+◌, ◌*◌, max, List, [], ◌∷◌, ◌++◌, length, take, drop, refl, sym, ap, subst, ◌∙◌, arith, append_assoc}
use Rattle.std.proofs.lemmas.List.{take_at, drop_at, length-take-le}
use Rattle.std.specs.List.{AllByRecursion}
use Rattle.outside_traits.specs.Disks.{DiskState, all_synced, put_at, Synced, Wrote}
use Rattle.outside_traits.specs.Moments.{History, TakesStep}
use Rattle.outside_traits.proofs.ImageLaws.{remains-rests, remains-wrote}
use Rattle.page_store.specs.Pages.{page_of, ArePagesOf}
use Rattle.page_store.specs.Images.{written_over, AreImages, Lacks, KeepsOthers, Rising}
use Rattle.page_store.specs.inside.Installing.{IsInstalling}
use Rattle.page_store.proofs.InstallSteps.{all_written, others_remain, length-put_at}

module _ (p : ℕ × List ℕ) (file : List ℕ) (whole : length p.1 ≡ 8_192) (within : 8_192 * p.0 ≤ length file) where
  abbrev after : List ℕ
  after = put_at (8_192 * p.0) p.1 file

  put_same : page_of p.0 after ≡ p.1
  put_same =
      let rest = drop (8_192 * p.0 + length p.1) file in
      ap (λ (b : List ℕ). take 8_192 b) (ap (λ (b : List ℕ). drop (8_192 * p.0) b) (append_assoc (take (8_192 * p.0) file) p.1 rest)
      ∙ drop_at (take (8_192 * p.0) file) (p.1 ++ rest) (8_192 * p.0) (length-take-le (8_192 * p.0) file within))
      ∙ take_at p.1 rest 8_192 whole

  abbrev next : DiskState
  next = record { reads = after; synced = file; written = (8_192 * p.0, length p.1) ∷ []; longest = max (length file) (8_192 * p.0 + length p.1) }

  put_others : KeepsOthers (p ∷ []) file after
  put_others =
      let wrote : Wrote (8_192 * p.0) p.1 (all_synced file) next = record { opens = record { synced = refl; written = refl; longest = refl }; reads = refl } in
      others_remain (p ∷ []) file next after (record { synced = refl; ranges = (inl (refl, whole), tt) }) (remains-wrote (8_192 * p.0) p.1 (all_synced file) next wrote within (remains-rests file))

  count : length (put_at (8_192 * p.0) p.1 file) ≡ max (length file) (8_192 * p.0 + 8_192)
  count = length-put_at (8_192 * p.0) p.1 file within ∙ ap (λ n. max (length file) (8_192 * p.0 + n)) whole

-- a page above which all images stand is none of theirs
above_lack : (n : ℕ) (images : List (ℕ × List ℕ)) → AllByRecursion (λ image. n < image.0) images → Lacks n images
above_lack n [] above = tt
above_lack n (p ∷ ps) above = ((λ is. absurd (omega (arith, is, above.0))), above_lack n ps above.1)

-- the other pages are as they were
pub others_kept : (images : List (ℕ × List ℕ)) (file : List ℕ) → AreImages (length file) images → KeepsOthers images file (written_over images file)
others_kept [] file are = record { longer = omega arith; pages = λ n lacks within. refl }
others_kept (p ∷ ps) file are =
    let first = put_others p file are.0 are.1 in
    let rest : KeepsOthers ps (put_at (8_192 * p.0) p.1 file) (written_over ps (put_at (8_192 * p.0) p.1 file)) =
    others_kept ps (put_at (8_192 * p.0) p.1 file) (subst (λ n. AreImages n ps) (sym (count p file are.0 are.1)) are.2) in
    record {
      longer = omega (arith, first.longer, rest.longer);
      pages = λ n lacks within. rest.pages n lacks.1 (omega (arith, within, first.longer)) ∙ first.pages n (lacks.0, tt) within;
    }

-- and each image is the page of its number
pub pages_are_images : (images : List (ℕ × List ℕ)) (file : List ℕ) → Rising images → AreImages (length file) images → ArePagesOf (written_over images file) images
pages_are_images [] file rise are = tt
pages_are_images (p ∷ ps) file rise are =
    let now : List ℕ = put_at (8_192 * p.0) p.1 file in
    let long : length (put_at (8_192 * p.0) p.1 file) ≡ max (length file) (8_192 * p.0 + 8_192) = count p file are.0 are.1 in
    let left : AreImages (length (put_at (8_192 * p.0) p.1 file)) ps = subst (λ n. AreImages n ps) (sym long) are.2 in
    let kept : page_of p.0 (written_over ps (put_at (8_192 * p.0) p.1 file)) ≡ page_of p.0 (put_at (8_192 * p.0) p.1 file) =
    (others_kept ps now left).pages p.0 (above_lack p.0 ps rise.0) (omega (arith, long)) in
    (sym (kept ∙ put_same p file are.0 are.1), pages_are_images ps now rise.1 left)

-- the same of the file once all images are synced
module _ (images : List (ℕ × List ℕ)) (old mid new : History) (so_far : IsInstalling images [] old mid) (goes : TakesStep Synced mid new) where
  reads : new.now.reads ≡ written_over images old.now.reads
  reads = ap (λ (s : DiskState). s.reads) (all_written images old mid new so_far goes)

  pub pages_installed : Rising images → AreImages (length old.now.reads) images → ArePagesOf new.now.reads images
  pages_installed rise are = subst (λ (f : List ℕ). ArePagesOf f images) (sym reads) (pages_are_images images old.now.reads rise are)

  pub others_installed : AreImages (length old.now.reads) images → KeepsOthers images old.now.reads new.now.reads
  others_installed are = subst (λ (f : List ℕ). KeepsOthers images old.now.reads f) (sym reads) (others_kept images old.now.reads are)
