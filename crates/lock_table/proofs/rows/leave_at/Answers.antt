use Rattle.std.proofs.Common.{None, ◌∙◌, arith}
use Rattle.lock_table.proofs.Lifted.{missing, lifted_at, held_then_at}
use Rattle.lock_table.proofs.rows.leave_at.Goals as goal

pub returns-then-number-len-clause-rows : goal.returns-then-number-len-clause-rows
returns-then-number-len-clause-rows c = missing c.args.rows.now c.args.resource.now c.bucket_number-number.result c.args.owner c.bucket_number-number.ensures (omega (arith, c.if-number-len.true, c.len.ensures))

pub returns-clause-rows : goal.returns-clause-rows
returns-clause-rows c =
    lifted_at c.args.rows.now c.args.resource.now c.bucket_number-number.result c.index_mut.result.now c.leave_there.new.bucket c.args.owner None c.bucket_number-number.ensures
    (omega (arith, c.if-number-len.false, c.len.ensures)) c.index_mut.ensures.value c.leave_there.ensures.bucket

pub returns-clause-empty : goal.returns-clause-empty
returns-clause-empty c = λ e o.
    held_then_at c.args.rows.now c.args.resource.now c.bucket_number-number.result c.leave_there.new.bucket o c.bucket_number-number.ensures (omega (arith, c.if-number-len.false, c.len.ensures))
    ∙ c.leave_there.ensures.empty e o
