use Rattle.std.proofs.Common.{◌∷◌, ◌++◌, []}
use Rattle.std.proofs.lemmas.Result.{err_from_is_err_and}
use Rattle.node_records.specs.Keys.{key_bytes}
use Rattle.node_records.specs.Changes.{sized_record}
use Rattle.node_records.proofs.Prefixes.{prefix_after}
use Rattle.node_records.proofs.changes.put_change.Goals as goal

pub returns-in_err-put_sized-in-Some-clause-err : goal.returns-in_err-put_sized-in-Some-clause-err
returns-in_err-put_sized-in-Some-clause-err c =
    let p = err_from_is_err_and c.from_residual-in_err-put_sized-in-Some.result c.from_residual-in_err-put_sized-in-Some.ensures.1 in
    let key = key_bytes c.args.change.now.key in
    let sized = sized_record c.in-Some.record in
    let put = prefix_after key sized c.push.new.self c.put_key.new.out c.put_sized.new.out c.in_ok-put_key-in-Some.ensures.ok c.in_err-put_sized-in-Some.ensures.err in
    rw p.1 (rw c.in-Some.is (prefix_after (1 ∷ []) (key ++ sized) c.args.out.now c.push.new.self c.put_sized.new.out c.in_ok-push-in-Some.ensures.ok put))
