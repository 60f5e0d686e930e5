use Rattle.std.proofs.Common.{◌&&◌, ◌==◌}
use Rattle.lock_table.specs.Resources.{same_resource}
use Rattle.lock_table.proofs.GroupModes.{groups_of_out, groups_of_same, groups_dropped}
use Rattle.lock_table.proofs.group_modes.take_out.Goals as goal

pub returns-then-leave_at-clause-groups : goal.returns-then-leave_at-clause-groups
returns-then-leave_at-clause-groups c =
    let left = groups_of_out c.args.groups.now c.args.rows.now c.leave_at.new.rows (λ o r. (c.args.owner == o) && same_resource c.args.resource.now r) c.requires c.leave_at.ensures.rows in
    let same = groups_of_same c.args.groups.now c.leave_at.new.rows c.drop_row.new.rows left c.drop_row.ensures in
    groups_dropped c.args.groups.now c.drop_group_mode.new.groups c.drop_row.new.rows c.args.resource.now same c.drop_group_mode.ensures

pub returns-else-leave_at-clause-groups : goal.returns-else-leave_at-clause-groups
returns-else-leave_at-clause-groups c = groups_of_out c.args.groups.now c.args.rows.now c.leave_at.new.rows (λ o r. (c.args.owner == o) && same_resource c.args.resource.now r) c.requires c.leave_at.ensures.rows
