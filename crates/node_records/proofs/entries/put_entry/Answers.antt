use Rattle.std.proofs.Common.{◌∙◌, ◌++◌, List, ℕ, ap}
use Rattle.std.proofs.lemmas.Result.{err_from_is_err_and}
use Rattle.node_records.specs.Entries.{chunk_head}
use Rattle.node_records.specs.Keys.{key_bytes}
use Rattle.node_records.proofs.Prefixes.{prefix_more, prefix_all, prefix_after}
use Rattle.node_records.proofs.entries.put_entry.Goals as goal

pub returns-in_err-put_key-clause-err : goal.returns-in_err-put_key-clause-err
returns-in_err-put_key-clause-err c =
    let p = err_from_is_err_and c.from_residual.result c.from_residual.ensures.1 in
    rw p.1 (prefix_more (key_bytes c.args.entry.now.key) (chunk_head c.args.entry.now ++ c.args.entry.now.bytes) c.args.out.now c.put_key.new.out c.in_err-put_key.ensures.err)

pub returns-in_err-extend_from_slice-2-clause-err : goal.returns-in_err-extend_from_slice-2-clause-err
returns-in_err-extend_from_slice-2-clause-err c =
    let p = err_from_is_err_and c.from_residual-in_err-extend_from_slice-2.result c.from_residual-in_err-extend_from_slice-2.ensures.1 in
    let head = c.in_err-extend_from_slice-2.ensures.err ∙ c.in_ok-extend_from_slice.ensures.ok ∙ ap (λ (x : List ℕ). c.put_key.new.out ++ x) c.head.ensures.bytes in
    let put = prefix_all (chunk_head c.args.entry.now) c.args.entry.now.bytes c.put_key.new.out c.extend_from_slice-2.new.self head in
    rw p.1 (prefix_after (key_bytes c.args.entry.now.key) (chunk_head c.args.entry.now ++ c.args.entry.now.bytes) c.args.out.now c.put_key.new.out c.extend_from_slice-2.new.self c.in_ok-put_key.ensures.ok put)
