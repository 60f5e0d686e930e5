-- The changes that may be laid over a map, whether it is known or not (docs/PROFILE.md, "Known or not").
use Rattle.std.specs.Prelude.{List, IfSome}
use Rattle.std.specs.List.{AllByRecursion}
use Rattle.tree_model.specs.declared.change.Change.{Change}
use Rattle.tree_model.specs.Changes.{Rising}
use Rattle.node_seq.specs.Reads.{IsValidEntry}

-- a record is put only where a valid tree may have it; anything may be deleted
abbrev pub PutsValidEntry : Change → Type 0
PutsValidEntry c = IfSome c.now (λ r. IsValidEntry (c.key, r))

-- changes that may be laid over a map: keys rise, and what is put is an entry that a valid tree may have
pub record IsChangeList (cs : List Change) : Type 0 where
  pub rise : Rising cs
  pub puts : AllByRecursion PutsValidEntry cs
