use Rattle.std.proofs.Common.{◌==◌, cond, None, refl, sym, ap, ◌∙◌, subst, IsSome}
use Rattle.lock_table.specs.inside.Buckets.{in_row}
use Rattle.lock_table.proofs.Maps.{changed, write_none}
use Rattle.lock_table.proofs.buckets.leave_there.Goals as goal

pub returns-in-Some-clause-bucket : goal.returns-in-Some-clause-bucket
returns-in-Some-clause-bucket c =
    changed c.args.bucket.now (c.get_mut.follows.lender c.leave.new.row) c.args.resource.now c.args.owner c.leave.new.row None
    (((c.get_mut.follows.holds c.leave.new.row).3 (subst IsSome c.in-Some.ensures.value refl)).0)
    (λ p. c.leave.ensures.row p ∙ ap (λ r. cond (c.args.owner == p) None (in_row r p)) c.in-Some.ensures.value)

pub returns-in-None-clause-bucket : goal.returns-in-None-clause-bucket
returns-in-None-clause-bucket c = write_none c.args.bucket.now c.get_mut.follows.lender-at-none c.args.resource.now c.args.owner c.get_mut.follows.holds-at-none (sym c.in-None.ensures.value)
