-- Images of no page: their count alone.
use Rattle.std.proofs.Common.{◌≡◌, ℕ, List, [], ◌∷◌, Some, refl}
use Rattle.journal.specs.PageImages.{images_in, images_of}

pub no_page : images_in (0 ∷ 0 ∷ 0 ∷ 0 ∷ []) ≡ Some []
unfolding images_in images_of
no_page = refl
