use Rattle.std.proofs.Common.{◌&&◌, ◌==◌, not, sym, ap, ◌∙◌}
use Rattle.lock_table.specs.Asks.{is_barred_by}
use Rattle.lock_table.proofs.Shown.{shown_as}
use Rattle.lock_table.proofs.table.LockTable.barring.Goals as goal

pub returns : goal.returns
returns c = record {
  rising = c.in_ok-holders.ensures.rising;
  each = λ o. c.in_ok-holders.ensures.each o ∙ ap (λ h. not (o == c.args.owner) && is_barred_by c.args.request.now.ask h) (sym (shown_as c.self.inside.rows c.args.self.now c.self.view_is o c.args.request.now.resource));
}
