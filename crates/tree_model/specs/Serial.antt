-- What a run of calls one after another on a plain tree gives. It knows no sessions and no locks.
use Rattle.std.specs.Prelude.{List, ◌∷◌}
use Rattle.tree_model.specs.Tree.{Tree}

-- replies in order, and the tree that is left
pub record SerialResult (R : Type 0) : Type 0 where
  pub replies : R
  pub tree : Tree

-- a reply, and then what ran from the tree after it
abbrev pub and_then : {R : Type 0} → R → SerialResult (List R) → SerialResult (List R)
and_then reply rest = record { replies = reply ∷ rest.replies; tree = rest.tree }
