-- The moments of a disk's life, and what a crash at some of them could leave (docs/PROFILE.md, "Disks and crashes").
use Rattle.std.specs.Prelude.{◌≡◌, ◌⊎◌, ℕ, List, [], ◌∷◌, ◌++◌}
use Rattle.outside_traits.specs.Disks.{DiskState, all_synced}
use Rattle.outside_traits.specs.CrashImages.{IsImage}

-- the state now, and those before it, the newest first
pub record History : Type 0 where
  pub now : DiskState
  pub past : List DiskState

-- nothing that was written isn't synced: a crash now leaves what a read gives
abbrev pub IsAllSynced : History → Type 0
IsAllSynced t = t.now ≡ all_synced t.now.reads

-- from one moment to the next by this step
pub record TakesStep (step : DiskState → DiskState → Type 0) (old new : History) : Type 0 where
  pub by : step old.now new.now
  pub past : new.past ≡ old.now ∷ old.past

-- a call that failed took this step or none
abbrev pub Fails : (DiskState → DiskState → Type 0) → History → History → Type 0
Fails step old new = (new ≡ old) ⊎ TakesStep step old new

-- new is old, or a later moment of the same disk, with these states on the way, the newest first
pub record Since (old new : History) : Type 0 where
  pub more : List DiskState
  pub states : new.now ∷ new.past ≡ more ++ (old.now ∷ old.past)

-- each image of each of these states has P
abbrev pub AllImages : (List ℕ → Type 0) → List DiskState → Type 0
AllImages P [] = Unit {0}
AllImages P (s ∷ more) = ((image : List ℕ) → IsImage s image → P image) × AllImages P more

-- after each call since old, one that failed too, a crash leaves only what has P; what a crash at old itself leaves isn't said, so that runs of calls follow one another
pub record LeavesOnly (P : List ℕ → Type 0) (old new : History) : Type 0 where
  pub more : List DiskState
  pub states : new.now ∷ new.past ≡ more ++ (old.now ∷ old.past)
  pub images : AllImages P more

-- an image of one of these states
abbrev pub IsImageOfOne : List DiskState → List ℕ → Type 0
IsImageOfOne [] image = ⊥
IsImageOfOne (s ∷ more) image = IsImage s image ⊎ IsImageOfOne more image

-- a crash at some moment since old, that moment too, could leave these bytes
pub record IsImageSince (old new : History) (image : List ℕ) : Type 0 where
  pub since : Since old new
  pub left : IsImageOfOne (since.more ++ old.now ∷ []) image

-- the same, by the moment of the crash
pub record WasImage (old new : History) (image : List ℕ) : Type 0 where
  pub crash : History
  pub since : Since old crash
  pub before : Since crash new
  pub is : IsImage crash.now image
