-- The command that `clap` is given, as its builders leave it.
use Rattle.std.specs.Prelude.{List, [], ◌∷◌, ◌++◌, map, codes, true, Some}
use Rattle.clap.specs.Walk.{Rule}
use Rattle.clap.specs.Simple.{App, Shape, new_rule, new_shape}
use Rattle.clap.specs.declared.builder.action.ArgAction.TheVariants.{Set, Append}
use Rattle.command_words.specs.Arguments.{Word, plain_id}

abbrev pub new_option : Word → Rule
new_option name = record (new_rule name) { long = Some name; action = Some Set }

abbrev pub new_plain : Rule
new_plain = record (new_rule plain_id) { action = Some Append }

abbrev pub new_rules : List Word → List Rule
new_rules names = map new_option names ++ new_plain ∷ []

abbrev pub bare : Shape
bare = record (new_shape (codes "xtc")) { no_binary_name = true; disable_help_flag = true; disable_version_flag = true }

abbrev pub bare_app : App
bare_app = record { top = bare; subs = [] }

-- with these options and no positional
abbrev pub options_app : List Word → App
options_app names = record { top = record bare { rules = map new_option names }; subs = [] }

abbrev pub words_app : List Word → App
words_app names = record { top = record bare { rules = new_rules names }; subs = [] }
