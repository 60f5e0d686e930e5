-- A commit that was prepared and isn't refused, over a core whose book is legal.
use Rattle.std.specs.Prelude.{◌≡◌, ℕ, Bool, None, Option}
use Rattle.outside_traits.specs.Moments.{History}
use Rattle.tree_model.specs.Entries.{Entries}
use Rattle.tree_model.specs.Tree.{Tree}
use Rattle.node_seq.specs.Trees.{StandsFor}
use Rattle.call_contract.specs.Books.{IsBookFrom}
use Rattle.call_contract.specs.Calls.{CallMeaning}
use Rattle.tx_core.specs.Commits.{IsPrepared, HasChangesOf}
use Rattle.tx_core.specs.Cores.{CoreView}
use Rattle.tx_core.specs.declared.commits.Prepared.{Prepared}
use Rattle.session_driver.specs.Refusals.{refusal}
use Rattle.session_driver.specs.declared.doing.Doing.TheVariants.{Commit}
use Rattle.durable_sessions.specs.Asked.{LeadsTo, OfAsked}
use Rattle.durable_sessions.specs.Standing.{FromEach}

-- the book is legal from each tree that the core was opened over
abbrev pub IsLegalCore : {C B : Type 0} → (C → Type 0) → CallMeaning C → (B → Option Entries) → CoreView C B → Type 0
IsLegalCore is_valid m contents core = (t : Tree) → StandsFor (contents core.opening) t → IsBookFrom is_valid m t core.number core.limit core.book

-- what is prepared is the commit of this session, which isn't refused
pub record IsDue {C B : Type 0} (m : CallMeaning C) (contents : B → Option Entries) (core : CoreView C B) (session : ℕ) (p : Prepared) : Type 0 where
  pub commit : IsPrepared core p
  pub allowed : FromEach m contents core (λ s. refusal m s session Commit ≡ None)
  pub changes : FromEach m contents core (λ s. HasChangesOf m s session p)

-- from each state that the core stands in, the commit of a session has led to the state after it
abbrev pub CommitLeads : {C B : Type 0} → CallMeaning C → (B → Option Entries) → Bool → ℕ → CoreView C B → CoreView C B → History → History → Type 0
CommitLeads m contents is_known session old new journal journal_now =
    OfAsked m contents old session Commit (λ s p. LeadsTo m contents is_known journal new journal_now s p.state)
