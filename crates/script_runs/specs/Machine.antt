-- A machine that does the lines of a script over a store's two disks, for proofs.
use Rattle.std.specs.Prelude.{◌⊎◌, ℕ, List, Bool, IsTrue}
use Rattle.outside_traits.specs.DiskPairs.{Pair, PairsHave, PairsLeave}
use Rattle.script_runs.specs.Counts.{Counts}

-- A type `Self` that does lines.
-- `State`: what its answers depend on. `text`: what a line, by its number from 1, is answered in a state; `next`: the state after it.
-- `valid`: what is sure of a line that was done. `holds`: which two files stand for what is committed in a state.
-- `stands`: in which states a value is. `usable`: whether it may be asked a line; `answered`: whether it has done one, and is to rest.
-- `settled`: what it knows of its disks between two lines.
-- `fixed`: what of a value no line changes, a `Fixed`. `damages`: that it may find a file damaged that it wrote itself.
-- `is_known`: whether the histories of its disks are known; `disks`: those histories; `faults`: the disks' counts.
pub record Machine (Self : Type 0) : Type 1 where
  pub State : Type 0
  pub text : State → ℕ → List ℕ → List ℕ
  pub next : State → List ℕ → State
  pub valid : List ℕ → Type 0
  pub holds : State → List ℕ → List ℕ → Type 0
  pub stands : Self → State → Type 0
  pub usable : Self → Type 0
  pub answered : Self → Type 0
  pub settled : Self → Type 0
  pub Fixed : Type 0
  pub fixed : Self → Fixed
  pub damages : Type 0
  pub is_known : Bool
  pub disks : Self → Pair
  pub faults : Self → Counts

-- its disks are known, and what a crash leaves of them stands for what is committed in this state
pub record IsSettled {M : Type 0} (m : Machine M) (k : M) (s : m.State) : Type 0 where
  pub is_known : IsTrue m.is_known
  pub kept : m.settled k
  pub holds : PairsHave (m.holds s) (m.disks k)

-- two files stand for what is committed in the one state or in the other
abbrev pub HoldsEither : {M : Type 0} (m : Machine M) → m.State → m.State → List ℕ → List ℕ → Type 0
HoldsEither m s t journal pages = m.holds s journal pages ⊎ m.holds t journal pages

-- ---- what a line leaves

-- in whichever state it was settled, it is settled in the one after the line
abbrev pub StaysSettled : {M : Type 0} (m : Machine M) → M → M → List ℕ → Type 0
StaysSettled m old new line = (s : m.State) → m.stands old s → IsSettled m old s → IsSettled m new (m.next s line)

-- a machine that has done a line: it is to rest, stands in the state after the line, and is settled there where it was settled
pub record HasDoneLine {M : Type 0} (m : Machine M) (old new : M) (line : List ℕ) : Type 0 where
  pub ready : m.answered new
  pub state : (s : m.State) → m.stands old s → m.stands new (m.next s line)
  pub settled : StaysSettled m old new line

-- after each call since, a crash leaves what was committed before the line or what is after it
abbrev pub LeavesWithOrWithoutLine : {M : Type 0} (m : Machine M) → M → M → List ℕ → Type 0
LeavesWithOrWithoutLine m old new line = (s : m.State) → m.stands old s → IsSettled m old s → PairsLeave (HoldsEither m s (m.next s line)) (m.disks old) (m.disks new)

-- after each call since, a crash leaves what was committed before
abbrev pub LeavesCommitted : {M : Type 0} (m : Machine M) → M → M → Type 0
LeavesCommitted m old new = (s : m.State) → m.stands old s → IsSettled m old s → PairsLeave (m.holds s) (m.disks old) (m.disks new)
