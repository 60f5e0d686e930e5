-- Small calls made of the three: one under wider requests, one that asks for more by its reply, and two in a row.
use Rattle.std.specs.Prelude.{if◌then◌else◌, List, [], ◌∷◌, ◌++◌}
use Rattle.dewey_labels.specs.Labels.{Label, IsLabel}
use Rattle.lock_modes.specs.declared.ask.Ask.{Ask}
use Rattle.lock_modes.specs.declared.ask.Ask.TheVariants as ask
use Rattle.lock_modes.specs.declared.mode.Mode.{Mode}
use Rattle.lock_modes.specs.declared.mode.Mode.TheVariants.{NR, SR}
use Rattle.lock_resources.specs.declared.resource.Resource.{Resource}
use Rattle.lock_resources.specs.declared.resource.Resource.TheVariants.{Node}
use Rattle.lock_resources.specs.declared.request.Request.{Request}
use Rattle.lock_resources.specs.Intentions.{request, with_intentions}
use Rattle.tree_model.specs.declared.reply.Reply.{Reply}
use Rattle.tree_model.specs.Outcomes.{is_refused}
use Rattle.tree_model.specs.Tree.{Tree}
use Rattle.call_contract.specs.Calls.{CallMeaning}
use Rattle.call_contract.specs.CallsOfCalls.{replaced_meaning, followed_meaning, TwoCalls, in_a_row}
use Rattle.call_rows.specs.Toys.{look, clear}

-- to read a node becomes to read all from it down; every other mode stays
abbrev pub wider : Resource → Ask → Ask
wider (Node l) (ask.Node NR) = ask.Node SR
wider r a = a

-- a request with the wider mode
abbrev pub widened : Request → List Request
widened g = request g.resource (wider g.resource g.ask) ∷ []

-- what the node with a label is, under a lock on all from it down
abbrev pub look_wide : CallMeaning Label
look_wide = replaced_meaning (λ l. widened) look

-- a mode at a node, behind its intentions
abbrev pub at_node : Label → Mode → List Request
at_node l m = with_intentions (Node l) (ask.Node m)

-- where a node is there, all from it down is asked for
abbrev pub all_below : Label → Reply → List Request
all_below l answer = if is_refused answer then [] else at_node l SR

-- what the node with a label is, and then a lock on all from it down
abbrev pub look_and_hold : CallMeaning Label
look_and_hold = followed_meaning all_below look

-- one label is asked for, and then another, on whatever tree
abbrev pub two_labels : (Label → Tree → List Request) → (Label → Tree → List Request) → TwoCalls (Label × Label) Label Label
two_labels one other = record { first = λ c. c.0; second = λ c t. c.1; requests = λ c t. one c.0 t ++ other c.1 t }

-- both are labels
abbrev pub AreLabels : Label × Label → Type 0
AreLabels c = IsLabel c.0 × IsLabel c.1

-- the text with the second label is made empty, where a node has the first
abbrev pub look_then_clear : CallMeaning (Label × Label)
look_then_clear = in_a_row (two_labels look.requests clear.requests) look clear

-- two texts are made empty, or none of them
abbrev pub clear_both : CallMeaning (Label × Label)
clear_both = in_a_row (two_labels clear.requests clear.requests) clear clear
