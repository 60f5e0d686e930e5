-- The pages of a file, and those that are kept in memory (docs/FILE_FORMAT.md, "The page file").
use Rattle.std.specs.Prelude.{◌≡◌, ◌≤◌, ℕ, ◌+◌, ◌-◌, ◌*◌, ◌^◌, min, Bool, if◌then◌else◌, nat_eq, List, ◌∷◌, take, drop, is_some, IsTrue, Result, MatchResult, OnOk, ⊤}
use Rattle.std.specs.List.{AllByRecursion}
use Rattle.std.specs.Map.{lookup}
use Rattle.std.specs.Borrow.{Fml, MutBor, RattleType, follows_so}
use mathlib.Core.Option.{none}
use Rattle.lru.specs.LruCache.{promoted}

-- the page with this number: fewer bytes where the file ends before its end
abbrev pub page_of : ℕ → List ℕ → List ℕ
page_of n file = take 8_192 (drop (8_192 * n) file)

-- a number and a page of the file with this number
abbrev pub IsPageOf : List ℕ → ℕ × List ℕ → Type 0
IsPageOf file kept = kept.1 ≡ page_of kept.0 file

-- all pages that are kept are the file's
abbrev pub ArePagesOf : List ℕ → List (ℕ × List ℕ) → Type 0
ArePagesOf file kept = AllByRecursion (IsPageOf file) kept

-- the pages that are kept, the one that was asked last first; how many may be; how many were read
pub record PoolView : Type 0 where
  pub kept : List (ℕ × List ℕ)
  pub most : ℕ
  pub reads : ℕ

-- the page with this number is kept
abbrev pub is_kept : ℕ → PoolView → Bool
is_kept page pool = is_some (lookup (nat_eq page) pool.kept)

-- a count after one more read; it stays at the greatest number
abbrev pub one_more : ℕ → ℕ
one_more n = min (n + 1) (2 ^ 64 - 1)

-- how many were read after a page was asked for: one more where it wasn't kept
abbrev pub reads_after : ℕ → PoolView → ℕ
reads_after page pool = if is_kept page pool then pool.reads else one_more pool.reads

-- a pool after a page was asked for, whether it was answered or not: it has the same room, and at most one page was read, none where that page was kept
pub record IsAfterAsking (page : ℕ) (old new : PoolView) : Type 0 where
  pub most : new.most ≡ old.most
  pub reads : new.reads ≤ old.reads + 1
  pub unread : IsTrue (is_kept page old) → new.reads ≡ old.reads

-- the pages that stay where one is read: all that are kept, but the last where there is room for no more
abbrev pub with_room : PoolView → List (ℕ × List ℕ)
with_room pool = take (pool.most - 1) pool.kept

-- the pages that are kept once one was answered: one that was kept goes first, another comes with these bytes before those that stay
abbrev pub kept_after : ℕ → List ℕ → PoolView → List (ℕ × List ℕ)
kept_after page bytes pool = if is_kept page pool then promoted (nat_eq page) pool.kept else (page, bytes) ∷ with_room pool

-- the pages that are kept once one was asked for: where it was answered as `kept_after` says, with some bytes; else those that stay where one is read
abbrev pub KeepsPages : {T E : Type 0} → ℕ → PoolView → Result T E → PoolView → Type 0
KeepsPages page old result new = MatchResult result (λ _. (bytes : List ℕ) × (new.kept ≡ kept_after page bytes old)) (λ _. new.kept ≡ with_room old)

-- a pool that has a page, whether it was read for that or not
pub record IsFilled (page : ℕ) (old new : PoolView) : Type 0 where
  pub there : IsTrue (is_kept page new)
  pub reads : new.reads ≡ reads_after page old

-- a pool after a page was asked for, by the answer: how much was read, and which pages are kept
pub record IsAfterAnswer {T E : Type 0} (page : ℕ) (old : PoolView) (result : Result T E) (new : PoolView) : Type 0 where
  pub asked : IsAfterAsking page old new
  pub pages : KeepsPages page old result new

-- a pool after a page of a file was asked for, to be read: how much was read, and which pages are kept; that one is after Ok, and all are the file's, where it is known
abbrev pub HasLent : {T E : Type 0} → Bool → ℕ → List ℕ → PoolView → Result T E → PoolView → Type 0
HasLent is_known page file old result new =
    IsAfterAsking page old new × OnOk result (IsTrue (is_kept page new)) × (IsTrue is_known → ArePagesOf file new.kept) × KeepsPages page old result new

-- a value of which a part is lent to be read, and none to be written, ends so that this holds of it
abbrev pub EndsSo : (R : RattleType) → MutBor R.Denot → (R.Denot → Type 0) → Fml
EndsSo R lender Q = follows_so R R lender.ghost_name none (λ _ _. ⊤) Q
