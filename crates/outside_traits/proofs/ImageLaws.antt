-- What may remain of a disk after a sync, a write, a failed sync; and then the same of images, which are bytes.
use Rattle.std.proofs.Common.{◌≡◌, ◌⊎◌, ⊎_elim, inl, inr, ℕ, ◌+◌, ◌≤◌, ◌<◌, max, List, length, get_or, take, drop, refl, sym, ◌∙◌, ap, subst, arith, ◌-◌, replicate, length-append, ◌++◌}
use Rattle.std.proofs.lemmas.Bool.{cases_lt}
use Rattle.std.proofs.lemmas.List.{ext_get_or, get_or-take, get_or-drop, get_or_append_left, get_or-append_right, length-take, length-take-le, length-drop, length-replicate, append-nil}
use Rattle.outside_traits.specs.Disks.{DiskState, all_synced, put_at, put_at_or_past, OpensRange, Wrote, Unsynced}
use Rattle.outside_traits.specs.Bytes.{IsBytes}
use Rattle.outside_traits.specs.CrashImages.{Remains, IsImage, IsOpen, Misses}
use Rattle.outside_traits.proofs.ByteLaws.{bytes-take, bytes-put_at_or_past}

-- what is synced is an image
pub remains-rests : (bytes : List ℕ) → Remains (all_synced bytes) bytes
remains-rests bytes = record { no_shorter = omega arith; no_longer = omega arith; kept = λ i l misses. refl }

-- and the only one
pub remains-all_synced : (bytes image : List ℕ) → Remains (all_synced bytes) image → image ≡ bytes
remains-all_synced bytes image is =
    let same_length : length image ≡ length bytes = omega (arith, is.no_shorter, is.no_longer) in
    ext_get_or 0 image bytes same_length (λ i l. is.kept i (omega (arith, same_length, l)) tt)

-- of one range written on bytes that were synced
module _ (bytes : List ℕ) (at n : ℕ) (s : DiskState) (opens : OpensRange at n (all_synced bytes) s) (image : List ℕ) (is : Remains s image) where
  no_shorter : length bytes ≤ length image
  no_shorter = subst (λ (l : List ℕ). length l ≤ length image) opens.synced is.no_shorter

  no_longer : length image ≤ max (length bytes) (at + n)
  no_longer = subst (λ (m : ℕ). length image ≤ m) opens.longest is.no_longer

  kept : (i : ℕ) → i < length bytes → ((i < at) ⊎ (at + n ≤ i)) → get_or image i 0 ≡ get_or bytes i 0
  kept i l off =
      let misses : Misses s.written i = subst (λ (r : List (ℕ × ℕ)). Misses r i) (sym opens.written) (off, tt) in
      is.kept i (subst (λ (b : List ℕ). i < length b) (sym opens.synced) l) misses ∙ ap (λ (b : List ℕ). get_or b i 0) opens.synced

  -- before the range nothing changes
  pub remains-before : at ≤ length bytes → take at image ≡ take at bytes
  remains-before le =
      let lengths : length (take at image) ≡ length (take at bytes) = omega (arith, length-take at image, length-take at bytes, no_shorter, le) in
      ext_get_or 0 (take at image) (take at bytes) lengths (λ i l.
      let below : i < at = omega (arith, l, length-take at image) in
      get_or-take at image i 0 below ∙ kept i (omega (arith, below, le)) (inl below) ∙ sym (get_or-take at bytes i 0 below))

  -- a range within the bytes is all that changes
  pub remains-after : at + n ≤ length bytes → drop (at + n) image ≡ drop (at + n) bytes
  remains-after le =
      let same_length : length image ≡ length bytes = omega (arith, no_shorter, no_longer, le) in
      let lengths : length (drop (at + n) image) ≡ length (drop (at + n) bytes) = omega (arith, length-drop (at + n) image, length-drop (at + n) bytes, same_length) in
      ext_get_or 0 (drop (at + n) image) (drop (at + n) bytes) lengths (λ i l.
      get_or-drop (at + n) image i 0
      ∙ kept (at + n + i) (omega (arith, l, length-drop (at + n) image, same_length)) (inr (omega arith))
      ∙ sym (get_or-drop (at + n) bytes i 0))

-- a failed sync opens nothing
pub remains-unsynced : (s next : DiskState) → Unsynced s next → (image : List ℕ) → Remains next image → Remains s image
remains-unsynced s next same image is = record {
  no_shorter = subst (λ (b : List ℕ). length b ≤ length image) same.synced is.no_shorter;
  no_longer = subst (λ (m : ℕ). length image ≤ m) same.longest is.no_longer;
  kept = λ i l misses.
      is.kept i (subst (λ (b : List ℕ). i < length b) (sym same.synced) l) (subst (λ (r : List (ℕ × ℕ)). Misses r i) (sym same.written) misses)
      ∙ ap (λ (b : List ℕ). get_or b i 0) same.synced;
}

-- one range more allows more
pub remains-opens : (at n : ℕ) (s next : DiskState) → OpensRange at n s next → (image : List ℕ) → Remains s image → Remains next image
remains-opens at n s next opens image is = record {
  no_shorter = subst (λ (b : List ℕ). length b ≤ length image) (sym opens.synced) is.no_shorter;
  no_longer = omega (arith, is.no_longer, opens.longest);
  kept = λ i l misses.
      is.kept i (subst (λ (b : List ℕ). i < length b) opens.synced l) (subst (λ (r : List (ℕ × ℕ)). Misses r i) opens.written misses).1
      ∙ ap (λ (b : List ℕ). get_or b i 0) (sym opens.synced);
}

-- a place is before a range or behind it, unless it lies in it
beside : (at n i : ℕ) → (at ≤ i → i < at + n → ⊥) → (i < at) ⊎ (at + n ≤ i)
beside at n i neither = ⊎_elim (λ before. inl before)
    (λ from. ⊎_elim (λ within. elim (neither from within) [ ]) (λ behind. inr behind) (cases_lt i (at + n)))
    (cases_lt i at)

-- a write inside an open range allows no other
pub remains-inside : (at n : ℕ) (s next : DiskState) → IsOpen s at n → OpensRange at n s next → (image : List ℕ) → Remains next image → Remains s image
remains-inside at n s next range opens image is = record {
  no_shorter = subst (λ (b : List ℕ). length b ≤ length image) opens.synced is.no_shorter;
  no_longer = omega (arith, is.no_longer, opens.longest, range.no_longer);
  kept = λ i l misses.
      is.kept i (subst (λ (b : List ℕ). i < length b) (sym opens.synced) l)
      (subst (λ (r : List (ℕ × ℕ)). Misses r i) (sym opens.written) (beside at n i (λ from within. range.any i from within l misses), misses))
      ∙ ap (λ (b : List ℕ). get_or b i 0) opens.synced;
}

-- a range that was written is open
pub open-written : (at n : ℕ) (s next : DiskState) → OpensRange at n s next → (from m : ℕ) → at ≤ from → from + m ≤ at + n → IsOpen next from m
open-written at n s next opens from m lower upper = record {
  no_longer = omega (arith, opens.longest, upper);
  any = λ i above below l misses.
      ⊎_elim (λ before. omega (arith, before, above, lower)) (λ behind. omega (arith, behind, below, upper))
      (subst (λ (r : List (ℕ × ℕ)). Misses r i) opens.written misses).0;
}

-- and what lies past the bytes that were synced
pub open-past : (s : DiskState) (from m : ℕ) → length s.synced ≤ from → from + m ≤ s.longest → IsOpen s from m
open-past s from m past within = record { no_longer = within; any = λ i above below l misses. omega (arith, l, past, above) }

-- bytes put at a place that the file has
module _ (at : ℕ) (bytes old : List ℕ) (le : at ≤ length old) where
  prefix : length (take at old) ≡ at
  prefix = length-take-le at old le

  pub length-put_at : length (put_at at bytes old) ≡ max (length old) (at + length bytes)
  length-put_at = omega (arith, prefix, le, length-append (take at old ++ bytes) (drop (at + length bytes) old), length-append (take at old) bytes, length-drop (at + length bytes) old)

  -- other places stay
  pub beside-put_at : (i : ℕ) → i < length old → ((i < at) ⊎ (at + length bytes ≤ i)) → get_or (put_at at bytes old) i 0 ≡ get_or old i 0
  beside-put_at i l (inl below) =
      get_or_append_left (take at old ++ bytes) (drop (at + length bytes) old) 0 i (omega (arith, below, prefix, length-append (take at old) bytes))
      ∙ get_or_append_left (take at old) bytes 0 i (omega (arith, below, prefix)) ∙ get_or-take at old i 0 below
  beside-put_at i l (inr above) =
      get_or-append_right (take at old ++ bytes) (drop (at + length bytes) old) (at + length bytes) i 0 (omega (arith, prefix, length-append (take at old) bytes)) above
      ∙ get_or-drop (at + length bytes) old (i - (at + length bytes)) 0
      ∙ ap (λ (k : ℕ). get_or old k 0) (omega (arith, above))

-- a write within the file needs no zeros
pub put_at_or_past-within : (at : ℕ) (bytes file : List ℕ) → at ≤ length file → put_at_or_past at bytes file ≡ put_at at bytes file
put_at_or_past-within at bytes file le =
    let none : at - length file ≡ 0 = omega (arith, le) in
    ap (λ (k : ℕ). put_at at bytes (file ++ replicate k 0)) none ∙ ap (λ (f : List ℕ). put_at at bytes f) (append-nil file)

module _ (at : ℕ) (bytes file : List ℕ) where
  abbrev padded : List ℕ
  padded = file ++ replicate (at - length file) 0

  long : length padded ≡ max (length file) at
  long = omega (arith, length-append file (replicate (at - length file) 0), length-replicate {A = ℕ} (at - length file) 0)

  pub length-put_at_or_past : length (put_at_or_past at bytes file) ≡ max (length file) (at + length bytes)
  length-put_at_or_past = omega (arith, long, length-put_at at bytes padded (omega (arith, long)))

  pub beside-put_at_or_past : (i : ℕ) → i < length file → ((i < at) ⊎ (at + length bytes ≤ i)) → get_or (put_at_or_past at bytes file) i 0 ≡ get_or file i 0
  beside-put_at_or_past i l off =
      beside-put_at at bytes padded (omega (arith, long)) i (omega (arith, long, l)) off
      ∙ get_or_append_left file (replicate (at - length file) 0) 0 i l

-- in an open range a crash may leave any bytes
pub remains-put_at_or_past : (at : ℕ) (bytes file : List ℕ) (s : DiskState) → IsOpen s at (length bytes) → Remains s file → Remains s (put_at_or_past at bytes file)
remains-put_at_or_past at bytes file s range is = record {
  no_shorter = omega (arith, length-put_at_or_past at bytes file, is.no_shorter);
  no_longer = omega (arith, length-put_at_or_past at bytes file, is.no_longer, range.no_longer);
  kept = λ i l misses.
      beside-put_at_or_past at bytes file i (omega (arith, l, is.no_shorter)) (beside at (length bytes) i (λ from within. range.any i from within l misses))
      ∙ is.kept i l misses;
}

-- and any of the lengths from that at the last sync on
pub remains-shorter : (n : ℕ) (file : List ℕ) (s : DiskState) → length s.synced ≤ n → Remains s file → Remains s (take n file)
remains-shorter n file s enough is = record {
  no_shorter = omega (arith, length-take n file, enough, is.no_shorter);
  no_longer = omega (arith, length-take n file, is.no_longer);
  kept = λ i l misses. get_or-take n file i 0 (omega (arith, l, enough)) ∙ is.kept i l misses;
}

-- after a write that was done, what a read gives is an image where it was one before
pub remains-wrote : (at : ℕ) (bytes : List ℕ) (s next : DiskState) → Wrote at bytes s next → at ≤ length s.reads → Remains s s.reads → Remains next next.reads
remains-wrote at bytes s next wrote le is =
    subst (λ (b : List ℕ). Remains next b) (put_at_or_past-within at bytes s.reads le ∙ sym wrote.reads)
    (remains-put_at_or_past at bytes s.reads next (open-written at (length bytes) s next wrote.opens at (length bytes) (omega arith) (omega arith))
    (remains-opens at (length bytes) s next wrote.opens s.reads is))

-- what was synced is an image, where there is one
pub remains-synced : (s : DiskState) (image : List ℕ) → Remains s image → Remains s s.synced
remains-synced s image is = record { no_shorter = omega arith; no_longer = omega (arith, is.no_shorter, is.no_longer); kept = λ i l misses. refl }

-- ---- images

pub image-of_rests : (bytes : List ℕ) → IsBytes bytes → IsImage (all_synced bytes) bytes
image-of_rests bytes are = record { remains = remains-rests bytes; bytes = are }

pub image-all_synced : (bytes image : List ℕ) → IsImage (all_synced bytes) image → image ≡ bytes
image-all_synced bytes image is = remains-all_synced bytes image is.remains

module _ (bytes : List ℕ) (at n : ℕ) (s : DiskState) (opens : OpensRange at n (all_synced bytes) s) (image : List ℕ) (is : IsImage s image) where
  pub image-before : at ≤ length bytes → take at image ≡ take at bytes
  image-before = remains-before bytes at n s opens image is.remains

  pub image-after : at + n ≤ length bytes → drop (at + n) image ≡ drop (at + n) bytes
  image-after = remains-after bytes at n s opens image is.remains

pub image-unsynced : (s next : DiskState) → Unsynced s next → (image : List ℕ) → IsImage next image → IsImage s image
image-unsynced s next same image is = record { remains = remains-unsynced s next same image is.remains; bytes = is.bytes }

pub image-opens : (at n : ℕ) (s next : DiskState) → OpensRange at n s next → (image : List ℕ) → IsImage s image → IsImage next image
image-opens at n s next opens image is = record { remains = remains-opens at n s next opens image is.remains; bytes = is.bytes }

pub image-inside : (at n : ℕ) (s next : DiskState) → IsOpen s at n → OpensRange at n s next → (image : List ℕ) → IsImage next image → IsImage s image
image-inside at n s next range opens image is = record { remains = remains-inside at n s next range opens image is.remains; bytes = is.bytes }

pub image-put_at_or_past : (at : ℕ) (bytes file : List ℕ) (s : DiskState) → IsBytes bytes → IsOpen s at (length bytes) → IsImage s file → IsImage s (put_at_or_past at bytes file)
image-put_at_or_past at bytes file s are range is = record {
  remains = remains-put_at_or_past at bytes file s range is.remains;
  bytes = bytes-put_at_or_past at bytes file are is.bytes;
}

pub image-shorter : (n : ℕ) (file : List ℕ) (s : DiskState) → length s.synced ≤ n → IsImage s file → IsImage s (take n file)
image-shorter n file s enough is = record { remains = remains-shorter n file s enough is.remains; bytes = bytes-take n file is.bytes }
