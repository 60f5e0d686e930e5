use Rattle.std.proofs.Common.{sym, ap, ◌∙◌}
use Rattle.lock_table.specs.Tables.{held}
use Rattle.lock_table.specs.Asks.{is_barred}
use Rattle.lock_table.proofs.Shown.{shown_as}
use Rattle.lock_table.proofs.Again.{together_held}
use Rattle.lock_table.proofs.table.LockTable.held.Goals as goal

pub returns-clause-held : goal.returns-clause-held
returns-clause-held c = c.held.ensures ∙ sym (shown_as c.self.inside.rows c.args.self.now c.self.view_is c.args.owner c.args.resource.now)

pub returns-clause-together : goal.returns-clause-together
returns-clause-together c = λ o apart. ap (λ h. is_barred h (held c.args.self.now o c.args.resource.now)) (c.held.ensures ∙ sym (shown_as c.self.inside.rows c.args.self.now c.self.view_is c.args.owner c.args.resource.now))
    ∙ together_held c.self.inside.rows c.args.self.now c.self.view_is c.self.invariant.0.together c.args.owner o c.args.resource.now apart
