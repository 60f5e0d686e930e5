-- Three small calls: one that reads, one that writes, and one that is always refused.
use Rattle.std.specs.Prelude.{List, [], ◌∷◌, Option, Some, None}
use Rattle.dewey_labels.specs.Labels.{Label}
use Rattle.lock_modes.specs.declared.ask.Ask.TheVariants as ask
use Rattle.lock_modes.specs.declared.mode.Mode.TheVariants.{NR, SX}
use Rattle.lock_resources.specs.declared.resource.Resource.TheVariants.{Node}
use Rattle.lock_resources.specs.Intentions.{with_intentions}
use Rattle.tree_model.specs.declared.change.Change.{Change}
use Rattle.tree_model.specs.declared.key.Key.{Key}
use Rattle.tree_model.specs.declared.record.Record.{Record}
use Rattle.tree_model.specs.declared.record.Record.TheVariants.{Text}
use Rattle.tree_model.specs.declared.reply.Reply.{Reply}
use Rattle.tree_model.specs.declared.reply.Reply.TheVariants.{Refused, Nothing}
use Rattle.tree_model.specs.declared.refusal.Refusal.TheVariants.{Dom}
use Rattle.tree_model.specs.Navigation.{node_of}
use Rattle.tree_model.specs.Texts.{set_data}
use Rattle.tree_model.specs.Outcomes.{not_found_err, not_supported_err}
use Rattle.call_contract.specs.Calls.{CallMeaning}

-- what the node with a label is
abbrev pub look : CallMeaning Label
look = record { requests = λ l t. with_intentions (Node l) (ask.Node NR); reply = λ l t. node_of l t; after = λ l t. t }

-- the data of a text is made empty
abbrev pub clear : CallMeaning Label
clear = record { requests = λ l t. with_intentions (Node l) (ask.Node SX); reply = λ l t. (set_data l [] t).0; after = λ l t. (set_data l [] t).1 }

-- what that is answered, by what stands at the label
abbrev pub cleared_reply : Option Record → Reply
cleared_reply None = Refused (Dom not_found_err)
cleared_reply (Some (Text d)) = Nothing
cleared_reply (Some r) = Refused (Dom not_supported_err)

-- the change that makes the text at a key empty
abbrev pub emptied_at : Key → Change
emptied_at k = record { key = k; now = Some (Text []) }

-- the changes of it, by what stands at the key
abbrev pub cleared_changes : Key → Option Record → List Change
cleared_changes k (Some (Text (c ∷ d))) = emptied_at k ∷ []
cleared_changes k o = []

-- a call that no kind of node has, so it asks for nothing
abbrev pub never : CallMeaning Label
never = record { requests = λ l t. []; reply = λ l t. Refused (Dom not_supported_err); after = λ l t. t }
