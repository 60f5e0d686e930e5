use Rattle.std.proofs.Common.{◌==◌, not, sym, ap, subst, ◌∙◌, refl}
use Rattle.std.specs.List.{list_any}
use Rattle.std.specs.List.Sorted.{IsStrictlySortedBy}
use Rattle.std.specs.Ordering.{nat_cmp}
use Rattle.lock_table.specs.Asks.{is_barred_by}
use Rattle.lock_table.specs.inside.GroupModes.{group_at}
use Rattle.lock_table.specs.inside.Rows.{held_in}
use Rattle.lock_table.proofs.GroupModes.{let_in_free, lets_under, lets_noted, off_right}
use Rattle.lock_table.proofs.group_modes.admitted.Goals as goal

pub returns-then-lets_in-clause-rising : goal.returns-then-lets_in-clause-rising
unfolding IsStrictlySortedBy
returns-then-lets_in-clause-rising c = subst (IsStrictlySortedBy nat_cmp) (sym c.new.ensures) tt

pub returns-then-lets_in-clause-each : goal.returns-then-lets_in-clause-each
returns-then-lets_in-clause-each c = λ o.
    ap (list_any (λ h. h == o)) c.new.ensures
    ∙ off_right (not (o == c.args.owner)) (is_barred_by c.args.request.now.ask (held_in c.args.rows.now o c.args.request.now.resource))
    (let_in_free c.args.groups.now c.args.rows.now c.args.request.now.resource c.args.request.now.ask c.requires (c.if-lets_in.ensures.0 refl) o)

pub returns-then-lets_in-clause-under : goal.returns-then-lets_in-clause-under
returns-then-lets_in-clause-under c = λ _. lets_under (group_at c.args.groups.now c.args.request.now.resource) c.args.request.now.ask (c.if-lets_in.ensures.0 refl)

pub returns-then-lets_in-clause-noted : goal.returns-then-lets_in-clause-noted
returns-then-lets_in-clause-noted c = λ _ _. lets_noted (group_at c.args.groups.now c.args.request.now.resource) c.args.request.now.ask (c.if-lets_in.ensures.0 refl)

pub returns-in_err-note_group_mode-clause-groups : goal.returns-in_err-note_group_mode-clause-groups
returns-in_err-note_group_mode-clause-groups c = c.note_group_mode.ensures.groups c.args.rows.now c.find-row.ensures c.requires

pub returns-clause-groups : goal.returns-clause-groups
returns-clause-groups c = c.note_group_mode.ensures.groups c.args.rows.now c.find-row.ensures c.requires
