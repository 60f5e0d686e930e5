-- When a count of faults rises, and when it is as it was (docs/PROFILE.md, "Faults").
use Rattle.std.specs.Prelude.{◌≡◌, ◌≤◌, ◌+◌, ◌⊎◌, ℕ}
use Rattle.outside_traits.specs.Faults.{FaultCounted}

-- the counts of a store's two disks
pub record Counts : Type 0 where
  pub journal : ℕ
  pub pages : ℕ

-- what a source, a sink and a store's two disks have counted: their faults, and the bytes that the source gave
pub record Tally : Type 0 where
  pub read : ℕ
  pub given : ℕ
  pub write : ℕ
  pub disks : Counts

-- a disk counted a fault, and no count fell
pub record DiskFaultCounted (before now : Counts) : Type 0 where
  pub one : FaultCounted before.journal now.journal ⊎ FaultCounted before.pages now.pages
  pub journal : before.journal ≤ now.journal
  pub pages : before.pages ≤ now.pages

-- a fault was counted where this is so, and none where it isn't
pub record CountedWhere (this : Type 0) (before now : ℕ) : Type 0 where
  pub counted : this → FaultCounted before now
  pub exact : (this → ⊥) → now ≡ before

-- the same of the two disks
pub record DisksCountedWhere (this : Type 0) (before now : Counts) : Type 0 where
  pub counted : this → DiskFaultCounted before now
  pub exact : (this → ⊥) → now ≡ before

-- a source failed, or `most` bytes were given and no more were asked for
pub data ReadFaultCause (most faults_before faults_now given_before given_now : ℕ) : Type 0 where
  counted : FaultCounted faults_before faults_now → ReadFaultCause most faults_before faults_now given_before given_now
  used_up : given_now ≡ given_before + most → faults_now ≡ faults_before → ReadFaultCause most faults_before faults_now given_before given_now

-- such a cause is where this is so, and no fault was counted where it isn't
pub record ReadCountedWhere (this : Type 0) (most faults_before faults_now given_before given_now : ℕ) : Type 0 where
  pub cause : this → ReadFaultCause most faults_before faults_now given_before given_now
  pub exact : (this → ⊥) → faults_now ≡ faults_before
