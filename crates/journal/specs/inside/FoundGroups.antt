-- What an opening finds in a journal's file, and what it leaves of it (docs/FILE_FORMAT.md, "A fresh file"): private to its proof.
use Rattle.std.specs.Prelude.{◌≡◌, ℕ, Bool, true, false, IsTrue, is_some, Result, Ok, MatchResult}
use Rattle.std.specs.List.{AllByRecursion}
use Rattle.outside_traits.specs.Moments.{History}
use Rattle.tree_model.specs.Changes.{keys_rise}
use Rattle.node_records.specs.declared.open_error.OpenError.{OpenError}
use Rattle.journal.specs.Appends.{number_of}
use Rattle.journal.specs.Journals.{read}
use Rattle.journal.specs.Openings.{HasFreshJournal, MakesFresh}
use Rattle.journal.specs.Refusals.{RisesOnlyAtFault}
use Rattle.journal.specs.declared.decoding.Found.{Found}
use Rattle.journal.specs.inside.Settled.{IsHeld, IsKept}

-- the file stood for these groups and stands for them now, and the next one goes behind them, by a reset where images are the last of them
pub record IsFoundIn (is_known : Bool) (old new : History) (found : Found) : Type 0 where
  pub stood : IsTrue is_known → read old.now.reads ≡ Ok found.groups
  pub stands : IsTrue is_known → read new.now.reads ≡ Ok found.groups
  pub last : found.last ≡ number_of found.groups
  pub rising : AllByRecursion (λ group. IsTrue (keys_rise group.changes)) found.groups.commits
  pub kept : is_some found.groups.images ≡ false → IsKept is_known new found.gate found.last
  pub held : is_some found.groups.images ≡ true → IsHeld is_known new found.gate

-- in a fresh file a journal without groups was made, by the calls that make one and no other
pub record IsMadeIn (old new : History) : Type 0 where
  pub bytes : HasFreshJournal old new
  pub calls : MakesFresh old new

-- a disk counted no fault, or it answered one
abbrev pub CountsAnswered : {T : Type 0} → Result T OpenError → ℕ → ℕ → Type 0
CountsAnswered result before now = MatchResult result (λ _. now ≡ before) (λ fault. RisesOnlyAtFault fault before now)
