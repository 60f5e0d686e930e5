use Rattle.std.proofs.Common.{◌==◌, cond, [], None, sym, ap, ◌∙◌}
use Rattle.lock_table.specs.inside.Rows.{held_in}
use Rattle.lock_table.proofs.Shown.{shown, shown_as}
use Rattle.lock_table.proofs.Maps.{and_false}
use Rattle.lock_table.proofs.Listing.{all_out}
use Rattle.lock_table.proofs.table.LockTable.release_all.Goals as goal

pub returns-in-Some : goal.returns-in-Some
returns-in-Some c = λ o r. shown c.take_out_all.new.rows o r ∙ all_out c.self.inside.rows c.take_out_all.new.rows c.self.inside.owned c.args.owner c.as_slice.result.now c.self.invariant.0.listed (c.as_slice.ensures ∙ c.in-Some.ensures.list) c.take_out_all.ensures.rows o r ∙ ap (cond (c.args.owner == o) None) (sym (shown_as c.self.inside.rows c.args.self.now c.self.view_is o r))

pub returns-in_default : goal.returns-in_default
returns-in_default c = λ o r. shown c.self.inside.rows o r
    ∙ all_out c.self.inside.rows c.self.inside.rows c.self.inside.owned c.args.owner [] c.self.invariant.0.listed c.in_default.ensures.list (λ p q. sym (ap (λ b. cond b None (held_in c.self.inside.rows p q)) (and_false (c.args.owner == p)))) o r
    ∙ ap (cond (c.args.owner == o) None) (sym (shown_as c.self.inside.rows c.args.self.now c.self.view_is o r))
