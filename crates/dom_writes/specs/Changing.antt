-- What a changing call asks of its caller, and what it answers.
use Rattle.std.specs.Prelude.{◌≡◌, List, [], Result, Option, false}
use Rattle.tree_model.specs.Changes.{differences}
use Rattle.tree_model.specs.DomCalls.{dom}
use Rattle.tree_model.specs.Entries.{Entries}
use Rattle.tree_model.specs.Fragments.{Fragments, IsValid}
use Rattle.tree_model.specs.Outcomes.{Outcome}
use Rattle.tree_model.specs.Tree.{Tree, map_of}
use Rattle.tree_model.specs.declared.change.Change.{Change}
use Rattle.tree_model.specs.declared.dom_call.DomCall.{DomCall}
use Rattle.tree_model.specs.declared.reply.Reply.{Reply}
use Rattle.tree_changes.specs.ValidCalls.{fragment_brought}
use Rattle.node_seq.specs.Trees.{OnTree}
use Rattle.dom_reads.specs.Reading.{is_reading}

-- a fragment may be brought: no change has been listed yet, and it is valid
pub record MayBring (listed : List Change) (f : Fragments) : Type 0 where
  pub empty : listed ≡ []
  pub fragment : IsValid f

-- a call may change the tree: no change has been listed yet, it isn't a reading one, and the fragment that it brings is valid
pub record MayChange (listed : List Change) (call : DomCall) : Type 0 where
  pub empty : listed ≡ []
  pub changing : is_reading call ≡ false
  pub fragment : IsValid (fragment_brought call)

-- the reply is the one of this call on whichever tree the known map stands for
abbrev pub RepliesAs : {E : Type 0} → Option Entries → Result Reply E → (Tree → Outcome) → Type 0
RepliesAs contents result call = OnTree contents result (λ t reply. reply ≡ (call t).0)

-- the changes that are listed lead from the map of that tree to the map of the one that this call makes of it
abbrev pub ChangesAs : {A E : Type 0} → Option Entries → Result A E → List Change → (Tree → Outcome) → Type 0
ChangesAs contents result listed call = OnTree contents result (λ t _. listed ≡ differences (map_of t) (map_of (call t).1))

-- a call's reply is the one of DOM on a tree, and its changes lead from that tree to the one that DOM makes of it
pub record AnswersAsDom {E : Type 0} (contents : Option Entries) (call : DomCall) (result : Result Reply E) (listed : List Change) : Type 0 where
  pub reply : RepliesAs contents result (dom call)
  pub changes : ChangesAs contents result listed (dom call)
