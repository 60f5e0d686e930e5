-- What the type of a core keeps.
use Rattle.std.specs.Prelude.{◌≡◌, ◌≤◌, ◌<◌, ◌+◌, ℕ, length, vec_capacity, Option, Some}
use Rattle.node_records.specs.Pending.{FollowOn}
use Rattle.tree_model.specs.Tree.{Tree}
use Rattle.tree_model.specs.Entries.{Entries}
use Rattle.node_seq.specs.Trees.{StandsFor}
use Rattle.call_contract.specs.Calls.{CallMeaning}
use Rattle.call_contract.specs.Sessions.{commits_in}
use Rattle.call_contract.specs.States.{start}
use Rattle.call_contract.specs.Books.{Book, last, IsRun, FaultsRise, last_fault, IsAtMost, HasValidCalls}
use Rattle.tx_core.specs.Drains.{Undrained}
use Rattle.tx_core.specs.declared.parts.Parts.{Parts}
use Rattle.tx_core.specs.declared.undrained.Bodies.{Bodies}
use Rattle.tx_core.specs.inside.Passed.{ArePassed}
use Rattle.tx_core.specs.inside.Sessions.{IsSeated}
use Rattle.tx_core.specs.inside.Standing.{Stands}

-- the book's counts of faults rise above the base's at the opening, and none is above the base's now
pub record CountsFaults {C B : Type 0} (count : B → ℕ) (opening : B) (p : Parts C B) : Type 0 where
  pub rise : FaultsRise (Some (count opening)) p.book.items
  pub counted : IsAtMost (last_fault (Some (count opening)) p.book.items) (count p.base)

-- the commits that weren't handed out, as contracts see them
abbrev pub undrained_of : Bodies → Undrained
undrained_of b = record { after = b.after; waiting = b.waiting.items }

-- the same commits wait, behind the same one that was handed out, and there is no less room for more
abbrev pub WaitAsBefore : Bodies → Bodies → Type 0
WaitAsBefore old new = (new.waiting.items ≡ old.waiting.items) × (new.after ≡ old.after) × (vec_capacity old.waiting ≤ vec_capacity new.waiting)

-- they are the last ones of the book, and there is room for the one that is prepared
pub record KeepsBodies {C : Type 0} (number : ℕ) (book : Book C) (prepared : Option ℕ) (b : Bodies) : Type 0 where
  pub opened : number ≤ b.after
  pub follow : FollowOn b.after b.waiting.items
  pub last : b.after + length b.waiting.items ≡ number + commits_in book
  pub room : (s : ℕ) → prepared ≡ Some s → length b.waiting.items < vec_capacity b.waiting

module _ {C B : Type 0} (is_valid : C → Type 0) (m : CallMeaning C) (told : B → Option Entries) where
  -- the book is a run from the opening's tree, and the parts stand for the state after it
  pub record IsRunFrom (t : Tree) (number limit : ℕ) (p : Parts C B) : Type 0 where
    pub run : IsRun m (start t number limit) p.book.items
    pub stands : Stands is_valid m told p (last m (start t number limit) p.book.items)

  -- the book's calls are valid, it counts faults rightly, and the sessions are as it tells;
  -- where the opening's map is known, the book is a run from its tree
  pub record IsCore (count : B → ℕ) (opening : B) (number limit : ℕ) (p : Parts C B) : Type 0 where
    pub valid : HasValidCalls is_valid p.book.items
    pub faults : CountsFaults count opening p
    pub seated : IsSeated p
    pub opened : p.opened ≡ number
    pub limited : p.limit ≡ limit
    pub run : (t : Tree) → StandsFor (told opening) t → IsRunFrom t number limit p

  -- and what transactions have passed is empty in the maps that they see, and the commits that weren't handed out are kept
  pub record IsKept (count : B → ℕ) (opening : B) (number limit : ℕ) (p : Parts C B) (b : Bodies) : Type 0 where
    pub core : IsCore count opening number limit p
    pub passed : ArePassed told p
    pub bodies : KeepsBodies number p.book.items p.prepared b
