use Rattle.std.proofs.Common.{cond, IsSome, Some, None, refl, sym, ap, subst, ◌∙◌}
use Rattle.std.proofs.lemmas.Result.{on_ok_weaker}
use Rattle.lock_table.specs.inside.GroupModes.{group_at, IsAbove, IsUnder}
use Rattle.lock_table.specs.inside.Buckets.{in_row}
use Rattle.lock_table.proofs.Listing.{either, same_itself}
use Rattle.lock_table.proofs.GroupModes.{groups_put, groups_same, groups_dropped}
use Rattle.lock_table.proofs.group_modes.note_group_mode.Goals as goal

pub returns-in-Some-clause-groups : goal.returns-in-Some-clause-groups
returns-in-Some-clause-groups c = λ rows there all.
    either c.put_group_mode.result
    (λ is. groups_put c.args.groups.now c.put_group_mode.new.groups rows c.args.resource.now c.in-Some.group all
    (λ o. subst (λ x. IsAbove c.in-Some.group (in_row x o)) there (c.in-Some.ensures.row o)) is)
    (λ is. groups_same c.args.groups.now c.put_group_mode.new.groups rows all is)
    c.put_group_mode.ensures.ok c.put_group_mode.ensures.err

pub returns-in-Some-clause-under : goal.returns-in-Some-clause-under
returns-in-Some-clause-under c =
    let k = c.args.resource.now in
    on_ok_weaker c.put_group_mode.result
    (λ is. subst (λ x. IsUnder x c.args.ask) (sym (is k ∙ ap (λ b. cond b (Some c.in-Some.group) (group_at c.args.groups.now k)) (same_itself k))) c.in-Some.ensures.ask)
    c.put_group_mode.ensures.ok

pub returns-in-None-clause-groups : goal.returns-in-None-clause-groups
returns-in-None-clause-groups c = λ rows _ all. groups_dropped c.args.groups.now c.drop_group_mode.new.groups rows c.args.resource.now all c.drop_group_mode.ensures

pub returns-in-None-clause-under : goal.returns-in-None-clause-under
returns-in-None-clause-under c =
    let k = c.args.resource.now in
    subst (λ x. IsUnder x c.args.ask) (sym (c.drop_group_mode.ensures k ∙ ap (λ b. cond b None (group_at c.args.groups.now k)) (same_itself k))) tt

pub returns-in-Some-clause-noted : goal.returns-in-Some-clause-noted
returns-in-Some-clause-noted c =
    let k = c.args.resource.now in
    on_ok_weaker c.put_group_mode.result
    (λ is _. subst IsSome (sym (is k ∙ ap (λ b. cond b (Some c.in-Some.group) (group_at c.args.groups.now k)) (same_itself k))) refl)
    c.put_group_mode.ensures.ok
