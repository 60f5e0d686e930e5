-- How images are written in place, one after another.
use Rattle.std.proofs.Common.{◌≡◌, ◌≢◌, ◌≤◌, ◌<◌, ◌⊎◌, ⊎_elim, inl, inr, ℕ, zero, suc, ◌+◌, ◌-◌, ◌*◌, max, List, [], ◌∷◌, ◌++◌, length, take, drop, get_or, refl, sym, ap, subst, ◌∙◌, arith, length-append}
use Rattle.std.proofs.lemmas.Bool.{cases_lt}
use Rattle.std.proofs.lemmas.List.{ext_get_or, get_or-take, get_or-drop, length-take, length-take-le, length-drop}
use Rattle.std.specs.List.{AllByRecursion}
use Rattle.outside_traits.specs.Disks.{DiskState, all_synced, put_at, OpensRange, Wrote, Synced, Unsynced}
use Rattle.outside_traits.specs.CrashImages.{IsImage, Remains, Misses}
use Rattle.outside_traits.specs.Moments.{History, TakesStep, Fails, LeavesOnly}
use Rattle.outside_traits.proofs.MomentLaws.{started, goes_on, goes_wrong}
use Rattle.outside_traits.proofs.ImageLaws.{image-all_synced}
use Rattle.page_store.specs.Pages.{page_of}
use Rattle.page_store.specs.Images.{written_over, AreImages, Lacks, KeepsOthers, LeavesOthers}
use Rattle.page_store.specs.inside.Installing.{IsRangeOf, IsWriting, IsInstalling}

-- a place of another page lies in none of the ranges
misses_range : (images : List (ℕ × List ℕ)) (range : ℕ × ℕ) (k i : ℕ) → Lacks k images → IsRangeOf images range → i < 8_192 → ((8_192 * k + i) < range.0) ⊎ (range.0 + range.1 ≤ 8_192 * k + i)
misses_range [] range k i lacks of_one small = absurd of_one
misses_range (p ∷ ps) range k i lacks of_one small = ⊎_elim
    (λ here. ⊎_elim
    (λ (below : p.0 < k). inr (omega (arith, below, here.0, here.1, small)))
    (λ (from : k ≤ p.0). ⊎_elim
    (λ (above : k < p.0). inl (omega (arith, above, here.0, small)))
    (λ (le : p.0 ≤ k). elim (lacks.0 (omega (arith, le, from))) [ ])
    (cases_lt k p.0))
    (cases_lt p.0 k))
    (λ later. misses_range ps range k i lacks.1 later small)
    of_one

misses : (images : List (ℕ × List ℕ)) (ranges : List (ℕ × ℕ)) (k i : ℕ) → Lacks k images → AllByRecursion (IsRangeOf images) ranges → i < 8_192 → Misses ranges (8_192 * k + i)
misses images [] k i lacks are small = tt
misses images (range ∷ ranges) k i lacks are small = (misses_range images range k i lacks are.0 small, misses images ranges k i lacks are.1 small)

-- what a crash leaves in the middle
pub others_remain : (images : List (ℕ × List ℕ)) (file : List ℕ) (s : DiskState) (image : List ℕ) → IsWriting images file s → Remains s image → KeepsOthers images file image
others_remain images file s image writing is =
    let longer : length file ≤ length image = subst (λ (f : List ℕ). length f ≤ length image) writing.synced is.no_shorter in
    record {
      longer = longer;
      pages = λ k lacks within.
          let old : length (page_of k file) ≡ 8_192 = length-take-le 8_192 (drop (8_192 * k) file) (omega (arith, within, length-drop (8_192 * k) file)) in
          let new : length (page_of k image) ≡ 8_192 = length-take-le 8_192 (drop (8_192 * k) image) (omega (arith, within, longer, length-drop (8_192 * k) image)) in
          ext_get_or 0 (page_of k image) (page_of k file) (new ∙ sym old) (λ i l.
          let small : i < 8_192 = omega (arith, l, new) in
          let inside : 8_192 * k + i < length s.synced = omega (arith, within, small, ap (λ (f : List ℕ). length f) writing.synced) in
          get_or-take 8_192 (drop (8_192 * k) image) i 0 small ∙ get_or-drop (8_192 * k) image i 0
          ∙ is.kept (8_192 * k + i) inside (misses images s.written k i lacks writing.ranges small)
          ∙ ap (λ (f : List ℕ). get_or f (8_192 * k + i) 0) writing.synced
          ∙ sym (get_or-take 8_192 (drop (8_192 * k) file) i 0 small ∙ get_or-drop (8_192 * k) file i 0));
    }

pub others : (images : List (ℕ × List ℕ)) (file : List ℕ) (s : DiskState) (image : List ℕ) → IsWriting images file s → IsImage s image → KeepsOthers images file image
others images file s image writing is = others_remain images file s image writing is.remains

-- a range of one image more
opened : (images : List (ℕ × List ℕ)) (file : List ℕ) (at n : ℕ) (s next : DiskState) → IsRangeOf images (at, n) → OpensRange at n s next → IsWriting images file s → IsWriting images file next
opened images file at n s next of_one opens writing = record {
  synced = opens.synced ∙ writing.synced;
  ranges = subst (λ (rs : List (ℕ × ℕ)). AllByRecursion (IsRangeOf images) rs) (sym opens.written) (of_one, writing.ranges);
}

unsynced : (images : List (ℕ × List ℕ)) (file : List ℕ) (s next : DiskState) → Unsynced s next → IsWriting images file s → IsWriting images file next
unsynced images file s next same writing = record {
  synced = same.synced ∙ writing.synced;
  ranges = subst (λ (rs : List (ℕ × ℕ)). AllByRecursion (IsRangeOf images) rs) (sym same.written) writing.ranges;
}

pub length-put_at : (at : ℕ) (bytes file : List ℕ) → at ≤ length file → length (put_at at bytes file) ≡ max (length file) (at + length bytes)
length-put_at at bytes file le = omega (arith, le, length-append (take at file ++ bytes) (drop (at + length bytes) file), length-append (take at file) bytes, length-take at file, length-drop (at + length bytes) file)

-- before the first image
pub none_written : (images : List (ℕ × List ℕ)) (t : History) → t.now ≡ all_synced t.now.reads → AreImages (length t.now.reads) images → IsInstalling images images t t
none_written images t synced are = record {
  leaves = started (KeepsOthers images t.now.reads) t;
  writing = record { synced = ap (λ (s : DiskState). s.synced) synced; ranges = subst (λ (s : DiskState). AllByRecursion (IsRangeOf images) s.written) (sym synced) tt };
  images_left = are;
  all = refl;
}

module _ (images : List (ℕ × List ℕ)) (old mid new : History) (p : ℕ × List ℕ) (left : List (ℕ × List ℕ)) (so_far : IsInstalling images (p ∷ left) old mid) (of_one : IsRangeOf images (8_192 * p.0, 8_192)) where
  whole : length p.1 ≡ 8_192
  whole = so_far.images_left.0

  range : IsRangeOf images (8_192 * p.0, length p.1)
  range = subst (λ n. IsRangeOf images (8_192 * p.0, n)) (sym whole) of_one

  -- one image more
  pub one_written : TakesStep (Wrote (8_192 * p.0) p.1) mid new → IsInstalling images left old new
  one_written goes =
      let writing = opened images old.now.reads (8_192 * p.0) (length p.1) mid.now new.now range goes.by.opens so_far.writing in
      let count : length new.now.reads ≡ max (length mid.now.reads) (8_192 * p.0 + 8_192) =
      ap (λ (f : List ℕ). length f) goes.by.reads ∙ length-put_at (8_192 * p.0) p.1 mid.now.reads so_far.images_left.1 ∙ ap (λ n. max (length mid.now.reads) (8_192 * p.0 + n)) whole in
      record {
        leaves = goes_on (KeepsOthers images old.now.reads) (Wrote (8_192 * p.0) p.1) old mid new so_far.leaves goes (λ image is. others images old.now.reads new.now image writing is);
        writing = writing;
        images_left = subst (λ n. AreImages n left) (sym count) so_far.images_left.2;
        all = ap (λ (f : List ℕ). written_over left f) goes.by.reads ∙ so_far.all;
      }

  -- or its write failed
  pub one_failed : Fails (OpensRange (8_192 * p.0) (length p.1)) mid new → LeavesOthers images old new
  one_failed fails = goes_wrong (KeepsOthers images old.now.reads) (OpensRange (8_192 * p.0) (length p.1)) old mid new so_far.leaves fails
      (λ next opens image is. others images old.now.reads next image (opened images old.now.reads (8_192 * p.0) (length p.1) mid.now next range opens so_far.writing) is)

module _ (images : List (ℕ × List ℕ)) (old mid new : History) (so_far : IsInstalling images [] old mid) where
  -- all are synced
  pub all_written : TakesStep Synced mid new → new.now ≡ all_synced (written_over images old.now.reads)
  all_written goes = goes.by ∙ ap all_synced so_far.all

  pub all_leave : IsImage mid.now mid.now.reads → TakesStep Synced mid new → LeavesOthers images old new
  all_leave reads goes = goes_on (KeepsOthers images old.now.reads) Synced old mid new so_far.leaves goes
      (λ image is. subst (λ (f : List ℕ). KeepsOthers images old.now.reads f)
      (sym (image-all_synced mid.now.reads image (subst (λ (s : DiskState). IsImage s image) goes.by is)))
      (others images old.now.reads mid.now mid.now.reads so_far.writing reads))

  pub all_failed : Fails Unsynced mid new → LeavesOthers images old new
  all_failed fails = goes_wrong (KeepsOthers images old.now.reads) Unsynced old mid new so_far.leaves fails
      (λ next same image is. others images old.now.reads next image (unsynced images old.now.reads mid.now next same so_far.writing) is)

-- the range of an image that is among them
pub range_of : (images : List (ℕ × List ℕ)) (i : ℕ) (p : ℕ × List ℕ) (left : List (ℕ × List ℕ)) → drop i images ≡ p ∷ left → IsRangeOf images (8_192 * p.0, 8_192)
range_of [] zero p left is = cc
range_of [] (suc i) p left is = cc
range_of (q ∷ images) zero p left is = let same : q ≡ p = cc in inl (ap (λ (x : ℕ × List ℕ). 8_192 * x.0) (sym same), refl)
range_of (q ∷ images) (suc i) p left is = inr (range_of images i p left is)
