-- What two files stand for (docs/FILE_FORMAT.md, "Opening").
use Rattle.std.specs.Prelude.{◌≡◌, ◌⊎◌, ℕ, List, Ok}
use Rattle.outside_traits.specs.Moments.{History, IsAllSynced}
use Rattle.tree_model.specs.Tree.{map_of}
use Rattle.store_contents.specs.Contents.{contents_of_files}
use Rattle.call_contract.specs.States.{State}

-- they stand for what is committed in this state
abbrev pub HoldState : {C : Type 0} → State C → List ℕ → List ℕ → Type 0
HoldState s journal pages = contents_of_files journal pages ≡ Ok (record { entries = map_of s.tree; number = s.number })

-- a crash leaves of the journal what a read gives, which stands beside these pages for what is committed in this state
pub record HoldsAll {C : Type 0} (s : State C) (pages : List ℕ) (journal : History) : Type 0 where
  pub synced : IsAllSynced journal
  pub holds : HoldState s journal.now.reads pages

-- beside these pages it stands for what is committed in the one state or in the other
abbrev pub HoldsEither : {C : Type 0} → State C → State C → List ℕ → List ℕ → Type 0
HoldsEither s t pages journal = HoldState s journal pages ⊎ HoldState t journal pages
