use Rattle.std.proofs.Common.{◌∙◌, ◌∷◌, ◌++◌, [], List, ℕ, ap}
use Rattle.std.proofs.lemmas.Result.{err_from_is_err_and}
use Rattle.node_records.specs.Labels.{label_bytes}
use Rattle.node_records.proofs.Prefixes.{prefix_more, prefix_all, prefix_after}
use Rattle.node_records.proofs.keys.put_key.Goals as goal

pub returns-in_err-write_label-clause-err : goal.returns-in_err-write_label-clause-err
returns-in_err-write_label-clause-err c =
    let p = err_from_is_err_and c.from_residual.result c.from_residual.ensures.1 in
    rw p.1 (prefix_more (label_bytes c.args.key.now.label) (c.args.key.now.name ++ 0 ∷ []) c.args.out.now c.write_label.new.out c.in_err-write_label.ensures.err)

pub returns-in_err-push-clause-err : goal.returns-in_err-push-clause-err
returns-in_err-push-clause-err c =
    let p = err_from_is_err_and c.from_residual-in_err-push.result c.from_residual-in_err-push.ensures.1 in
    let put = prefix_all c.args.key.now.name (0 ∷ []) c.write_label.new.out c.push.new.self (c.in_err-push.ensures.err ∙ c.in_ok-extend_from_slice.ensures.ok ∙ ap (λ (x : List ℕ). c.write_label.new.out ++ x) (c.as_bytes.ensures.value ∙ c.as_str.ensures.bytes)) in
    rw p.1 (prefix_after (label_bytes c.args.key.now.label) (c.args.key.now.name ++ 0 ∷ []) c.args.out.now c.write_label.new.out c.push.new.self c.in_ok-write_label.ensures.ok put)

pub returns-clause-utf8 : goal.returns-clause-utf8
returns-clause-utf8 c = c.as_str.ensures.utf8
