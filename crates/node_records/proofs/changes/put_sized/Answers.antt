use Rattle.std.proofs.Common.{◌∙◌, ◌++◌, length, List, ℕ, ap}
use Rattle.std.proofs.lemmas.Result.{err_from_is_err_and}
use Rattle.byteorder.specs.Endian.{big_bytes}
use Rattle.node_records.specs.Records.{record_bytes}
use Rattle.node_records.proofs.Prefixes.{prefix_after}
use Rattle.node_records.proofs.changes.put_sized.Goals as goal

pub returns-in_err-put_record-clause-err : goal.returns-in_err-put_record-clause-err
returns-in_err-put_record-clause-err c =
    let p = err_from_is_err_and c.from_residual-in_err-put_record.result c.from_residual-in_err-put_record.ensures.1 in
    let history = c.in_ok-extend_from_slice.ensures.ok ∙ ap (λ (x : List ℕ). c.args.out.now ++ x) (c.write_u32.ensures ∙ ap (big_bytes 4) (c.in-Ok.ensures.1 ∙ c.record_length.ensures)) in
    rw p.1 (prefix_after (big_bytes 4 (length (record_bytes c.args.value.now))) (record_bytes c.args.value.now) c.args.out.now c.extend_from_slice.new.self c.put_record.new.out history c.in_err-put_record.ensures.err)
