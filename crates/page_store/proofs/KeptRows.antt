-- What is kept after a page was asked for, worked by hand: pages 1 and 2 are kept, the former was asked last.
use Rattle.std.proofs.Common.{◌≡◌, ℕ, List, [], ◌∷◌, refl}
use Rattle.page_store.specs.Pages.{PoolView, kept_after, with_room}

abbrev pub pool_of : ℕ → PoolView
pool_of most = record { kept = (1, 10 ∷ []) ∷ (2, 20 ∷ []) ∷ []; most = most; reads = 2 }

-- one that is kept goes first
pub kept_again : kept_after 2 [] (pool_of 2) ≡ (2, 20 ∷ []) ∷ (1, 10 ∷ []) ∷ []
kept_again = refl

pub kept_first : kept_after 1 [] (pool_of 2) ≡ (1, 10 ∷ []) ∷ (2, 20 ∷ []) ∷ []
kept_first = refl

-- one that is read comes first, and page 2 goes where two may be kept
pub read_full : kept_after 3 (30 ∷ []) (pool_of 2) ≡ (3, 30 ∷ []) ∷ (1, 10 ∷ []) ∷ []
read_full = refl

pub read_with_room : kept_after 3 (30 ∷ []) (pool_of 3) ≡ (3, 30 ∷ []) ∷ (1, 10 ∷ []) ∷ (2, 20 ∷ []) ∷ []
read_with_room = refl

-- one that couldn't be read
pub refused_full : with_room (pool_of 2) ≡ (1, 10 ∷ []) ∷ []
refused_full = refl

pub refused_with_room : with_room (pool_of 3) ≡ (1, 10 ∷ []) ∷ (2, 20 ∷ []) ∷ []
refused_with_room = refl
