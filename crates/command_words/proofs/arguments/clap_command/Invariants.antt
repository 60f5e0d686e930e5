use Rattle.std.proofs.Common.{◌≡◌, map, take}
use Rattle.clap.specs.Words.{app_of}
use Rattle.command_words.specs.inside.Apps.{options_app}
use Rattle.command_words.proofs.arguments.clap_command.Given as goal

-- the options so far
abbrev pub invariant-loop-name : goal.invariant-loop-name
invariant-loop-name l = app_of l.command ≡ options_app (map (λ o. o.now) (take l.name-index l.options))
