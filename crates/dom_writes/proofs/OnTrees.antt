-- Answers on the tree that a map stands for, from answers of callees.
use Rattle.std.proofs.Common.{IfOk, Option, Result, Ok, Err}
use Rattle.tree_model.specs.Entries.{Entries}
use Rattle.tree_model.specs.Tree.{Tree}
use Rattle.node_seq.specs.Trees.{OnTree, StandsFor}

module _ {A E : Type 0} (was : Option Entries) (Q : Tree → A → Type 0) where
  -- from what holds of the answer in any case
  pub on_any : (P : A → Type 0) (result : Result A E) → ((t : Tree) (a : A) → StandsFor was t → P a → Q t a) → IfOk result P → OnTree was result Q
  on_any P (Ok a) follows h = λ t stands. follows t a stands h
  on_any P (Err e) follows h = tt

  -- from what a later read tells of the same map
  pub on_later : (now : Option Entries) (P : Tree → A → Type 0) (result : Result A E) → ((t : Tree) → StandsFor was t → StandsFor now t)
      → ((t : Tree) (a : A) → StandsFor was t → P t a → Q t a) → OnTree now result P → OnTree was result Q
  on_later now P (Ok a) later follows h = λ t stands. follows t a stands (h t (later t stands))
  on_later now P (Err e) later follows h = tt
