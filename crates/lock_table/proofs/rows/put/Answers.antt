use Rattle.std.proofs.Common.{Some}
use Rattle.std.proofs.lemmas.Result.{on_ok_weaker, on_err_weaker}
use Rattle.std.specs.Vec.{with_item}
use Rattle.lock_table.proofs.Lifted.{lifted_at, lifted_same_at, written_after, same_after}
use Rattle.lock_table.proofs.rows.put.Goals as goal

pub returns-clause-ok : goal.returns-clause-ok
returns-clause-ok c =
    let mid = c.make_buckets.new.rows in
    let i = c.bucket_number-number.result in
    let k = c.args.resource.now in
    on_ok_weaker c.put_there.result (λ is. written_after c.args.rows.now mid (with_item mid i c.put_there.new.bucket) k c.args.owner (Some c.args.ask) c.make_buckets.ensures.same
    (lifted_at mid k i c.index_mut.result.now c.put_there.new.bucket c.args.owner (Some c.args.ask) c.bucket_number-number.ensures c.in_ok-make_buckets.ensures.there c.index_mut.ensures.value is))
    c.put_there.ensures.ok

pub returns-clause-err : goal.returns-clause-err
returns-clause-err c =
    let mid = c.make_buckets.new.rows in
    let i = c.bucket_number-number.result in
    let k = c.args.resource.now in
    on_err_weaker c.put_there.result (λ is. same_after c.args.rows.now mid (with_item mid i c.put_there.new.bucket) c.make_buckets.ensures.same
    (lifted_same_at mid k i c.index_mut.result.now c.put_there.new.bucket c.bucket_number-number.ensures c.in_ok-make_buckets.ensures.there c.index_mut.ensures.value is))
    c.put_there.ensures.err
