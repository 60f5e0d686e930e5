-- Commits that wait for their places in a journal (docs/FILE_FORMAT.md, "A commit's body").
use Rattle.std.specs.Prelude.{◌≡◌, ℕ, ◌+◌, ◌^◌, ◌<◌, List, [], ◌∷◌, length, Some}
use Rattle.tree_model.specs.Changes.{Rising}
use Rattle.tree_model.specs.declared.change.Change.{Change}
use Rattle.node_records.specs.Changes.{changes_of}
use Rattle.node_records.specs.declared.pending.Pending.{Pending}

-- what a journal asks of one: its body is read as changes whose keys rise, and it and its number are no more than a journal holds
pub record IsPending (p : Pending) : Type 0 where
  pub changes : List Change
  pub rise : Rising changes
  pub read : changes_of p.body ≡ Some changes
  pub short : length p.body < 2 ^ 32
  pub fits : p.number < 2 ^ 32

-- they follow on a number, one after another
abbrev pub FollowOn : ℕ → List Pending → Type 0
FollowOn after [] = Unit {0}
FollowOn after (p ∷ ps) = (p.number ≡ after + 1) × IsPending p × FollowOn (after + 1) ps
