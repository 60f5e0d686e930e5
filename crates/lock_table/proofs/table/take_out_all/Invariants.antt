use Rattle.std.proofs.Common.{◌≡◌, ℕ, ◌&&◌, ◌==◌, cond, None, take}
use Rattle.lock_resources.specs.declared.resource.Resource.{Resource}
use Rattle.lock_table.specs.inside.Rows.{held_in, is_listed}
use Rattle.lock_table.specs.inside.GroupModes.{AreGroupModes}
use Rattle.lock_table.proofs.table.take_out_all.Given as goal

abbrev pub invariant-loop-resource : goal.invariant-loop-resource
invariant-loop-resource l = ((o : ℕ) (r : Resource) → held_in l.rows o r ≡ cond ((l.fn.owner == o) && is_listed r (take l.resource-index l.resources)) None (held_in l.fn.rows o r))
    × AreGroupModes l.groups l.rows
