use Rattle.std.proofs.Common.{sym, ap, ◌∙◌}
use Rattle.workers_text.specs.Entries.{Script, commands_in}
use Rattle.workers_text.proofs.Places.{all_have_sessions, all_valid, commands_back}
use Rattle.workers_text.proofs.script.Script.commands.Goals as goal

pub returns-clause-commands : goal.returns-clause-commands
returns-clause-commands c = sym (commands_back c.self.inside.places c.self.inside.commands c.self.invariant.places) ∙ ap (λ (s : Script). commands_in s.entries) c.self.view_is

pub returns-clause-valid : goal.returns-clause-valid
returns-clause-valid c = all_valid c.self.inside.commands c.self.invariant.doable

pub returns-clause-sessions : goal.returns-clause-sessions
returns-clause-sessions c = all_have_sessions c.self.inside.commands c.self.invariant.doable
