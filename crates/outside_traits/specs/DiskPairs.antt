-- Two disks of which one is touched at a time, and what a crash may leave of both (docs/PROFILE.md, "Disks and crashes").
use Rattle.std.specs.Prelude.{◌≡◌, ◌⊎◌, ℕ, List, [], ◌∷◌}
use Rattle.outside_traits.specs.CrashImages.{IsImage}
use Rattle.outside_traits.specs.Moments.{History, LeavesOnly}

-- a store's two disks between two calls
pub record Pair : Type 0 where
  pub journal : History
  pub pages : History

abbrev pub pair_of : History → History → Pair
pair_of journal pages = record { journal = journal; pages = pages }

-- each two images that a crash now may leave have Q
abbrev pub PairsHave : (List ℕ → List ℕ → Type 0) → Pair → Type 0
PairsHave Q pair = (journal pages : List ℕ) → IsImage pair.journal.now journal → IsImage pair.pages.now pages → Q journal pages

-- calls of the journal's disk alone: after each of them an image of it has Q with each that the other would leave
pub record TouchesJournal (Q : List ℕ → List ℕ → Type 0) (old new : Pair) : Type 0 where
  pub leaves : LeavesOnly (λ journal. (pages : List ℕ) → IsImage old.pages.now pages → Q journal pages) old.journal new.journal
  pub still : new.pages ≡ old.pages

-- calls of the pages' disk alone
pub record TouchesPages (Q : List ℕ → List ℕ → Type 0) (old new : Pair) : Type 0 where
  pub leaves : LeavesOnly (λ pages. (journal : List ℕ) → IsImage old.journal.now journal → Q journal pages) old.pages new.pages
  pub still : new.journal ≡ old.journal

-- one phase after another, each touching one disk, by the pairs at which they end
abbrev pub Phases : (List ℕ → List ℕ → Type 0) → Pair → List Pair → Pair → Type 0
Phases Q old [] new = new ≡ old
Phases Q old (mid ∷ ends) new = (TouchesJournal Q old mid ⊎ TouchesPages Q old mid) × Phases Q mid ends new

-- after each call since old, one that failed too, a crash leaves only two images that have Q
pub record PairsLeave (Q : List ℕ → List ℕ → Type 0) (old new : Pair) : Type 0 where
  pub ends : List Pair
  pub phases : Phases Q old ends new
