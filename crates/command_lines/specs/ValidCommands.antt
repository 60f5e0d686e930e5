-- What is sure of a command: its fragment is valid, and its path is lawful. Its labels are labels by their type.
use Rattle.std.specs.Prelude.{IsTrue}
use Rattle.path_model.specs.Lawful.{is_lawful}
use Rattle.tree_model.specs.Fragments.{plain, plain_or_none, IsValid}
use Rattle.tree_model.specs.declared.dom_call.DomCall.{DomCall}
use Rattle.tree_model.specs.declared.dom_call.DomCall.TheVariants.{Create, Append, Insert, Replace}
use Rattle.command_lines.specs.declared.command.Command.{Command}
use Rattle.command_lines.specs.declared.command.What.{What}
use Rattle.command_lines.specs.declared.command.What.TheVariants.{Call}
use Rattle.command_lines.specs.declared.command.StoreCall.TheVariants.{Dom, Find}

-- the fragment of a call is valid, if it has one
abbrev pub IsValidCall : DomCall → Type 0
IsValidCall (Create name tree) = IsValid (plain_or_none tree)
IsValidCall (Append at tree) = IsValid (plain tree)
IsValidCall (Insert at before tree) = IsValid (plain tree)
IsValidCall (Replace at old tree) = IsValid (plain tree)
IsValidCall call = Unit {0}

abbrev pub IsValidWhat : What → Type 0
IsValidWhat (Call (Dom call)) = IsValidCall call
IsValidWhat (Call (Find at path)) = IsTrue (is_lawful path)
IsValidWhat what = Unit {0}

abbrev pub IsValidCommand : Command → Type 0
IsValidCommand c = IsValidWhat c.what
