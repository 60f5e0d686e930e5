-- Bytes put at a place of a file, worked by hand.
use Rattle.std.proofs.Common.{◌≡◌, [], ◌∷◌, refl}
use Rattle.outside_traits.specs.Disks.{put_at, put_at_or_past}

pub put_within : put_at 1 (88 ∷ 89 ∷ []) (97 ∷ 98 ∷ 99 ∷ 100 ∷ []) ≡ 97 ∷ 88 ∷ 89 ∷ 100 ∷ []
put_within = refl

pub put_past_the_end : put_at 3 (90 ∷ 33 ∷ []) (97 ∷ 98 ∷ 99 ∷ 100 ∷ []) ≡ 97 ∷ 98 ∷ 99 ∷ 90 ∷ 33 ∷ []
put_past_the_end = refl

pub landed_behind_a_gap : put_at_or_past 3 (100 ∷ []) (97 ∷ 98 ∷ []) ≡ 97 ∷ 98 ∷ 0 ∷ 100 ∷ []
landed_behind_a_gap = refl
