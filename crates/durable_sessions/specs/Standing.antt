-- The state that a core stands in.
use Rattle.std.specs.Prelude.{◌≡◌, Option}
use Rattle.tree_model.specs.Entries.{Entries}
use Rattle.tree_model.specs.Tree.{Tree}
use Rattle.node_seq.specs.Trees.{StandsFor}
use Rattle.call_contract.specs.Calls.{CallMeaning}
use Rattle.call_contract.specs.States.{State}
use Rattle.tx_core.specs.Cores.{CoreView, state_from}

-- the core was opened over the map of a tree, and its book led from there to this state
pub record Stands {C B : Type 0} (m : CallMeaning C) (contents : B → Option Entries) (core : CoreView C B) (s : State C) : Type 0 where
  pub tree : Tree
  pub opened : StandsFor (contents core.opening) tree
  pub state : state_from m tree core ≡ s

-- a fact of each state that the core stands in
abbrev pub FromEach : {C B : Type 0} → CallMeaning C → (B → Option Entries) → CoreView C B → (State C → Type 0) → Type 0
FromEach {C} m contents core Q = (s : State C) → Stands m contents core s → Q s
