-- The text that an element is to have alone: why it can't, and what changes.
use Rattle.std.specs.Prelude.{ℕ, List, [], ◌∷◌, ◌++◌, ◌&&◌, not, if◌then◌else◌, Option, Some, None}
use Rattle.std.specs.Option.{option_or}
use Rattle.dewey_labels.specs.Labels.{Label}
use Rattle.dewey_labels.specs.Lists.{is_empty}
use Rattle.dewey_labels.specs.NewLabels.{first_division}
use Rattle.tree_model.specs.Changes.{differences}
use Rattle.tree_model.specs.Entries.{Entries}
use Rattle.tree_model.specs.Graft.{all_within, graft}
use Rattle.tree_model.specs.Keys.{node_key}
use Rattle.tree_model.specs.Limits.{is_too_long}
use Rattle.tree_model.specs.Placing.{is_too_deep}
use Rattle.tree_model.specs.Texts.{text_below}
use Rattle.tree_model.specs.Tree.{Forest, none, entries_of}
use Rattle.tree_model.specs.declared.change.Change.{Change}
use Rattle.tree_model.specs.declared.record.Record.TheVariants.{Text}
use Rattle.tree_model.specs.declared.refusal.Refusal.{Refusal}
use Rattle.tree_model.specs.declared.refusal.Refusal.TheVariants.{LabelLimit, TextLimit, TooDeep}
use Rattle.tree_model.specs.declared.reply.Reply.{Reply}
use Rattle.tree_model.specs.declared.reply.Reply.TheVariants.{Nothing, Refused}
use Rattle.tree_changes.specs.KeyChanges.{change_at}

-- the one child, if the data isn't empty
abbrev pub one_text : Label → List ℕ → Forest
one_text l d = graft (l ++ (first_division ∷ [])) (text_below d) none

-- the text would lie too deep, or be too long
abbrev pub past_limits : Label → List ℕ → Option Refusal
past_limits l d = if not (is_empty d) && is_too_deep l (text_below d) then Some TooDeep else if is_too_long d then Some TextLimit else None

-- the same, or its label would pass a limit
abbrev pub text_refused : Label → List ℕ → Option Refusal
text_refused l d = option_or (past_limits l d) (if all_within (one_text l d) then None else Some LabelLimit)

-- a refusal as the reply
abbrev pub reply_of : Option Refusal → Reply
reply_of None = Nothing
reply_of (Some why) = Refused why

-- the data of a text would be too long
abbrev pub data_refused : List ℕ → Option Refusal
data_refused d = if is_too_long d then Some TextLimit else None

-- these changes, or none where the call is refused
abbrev pub unless_refused : Option Refusal → List Change → List Change
unless_refused None cs = cs
unless_refused (Some why) cs = []

-- the changes of the entries below the element
abbrev pub text_changes : Label → List ℕ → Entries → List Change
text_changes l d old = unless_refused (text_refused l d) (differences old (entries_of (one_text l d)))

-- the change of a text's data; none where they are the same
abbrev pub text_change : Label → List ℕ → List ℕ → List Change
text_change l old d = change_at (node_key l) (Some (Text old)) (Some (Text d))

-- the changes of a text whose data is set
abbrev pub data_changes : Label → List ℕ → List ℕ → List Change
data_changes l old d = unless_refused (data_refused d) (text_change l old d)
