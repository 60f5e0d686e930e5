use Rattle.std.proofs.Common.{}
use Rattle.std.proofs.lemmas.Result.{err_from_is_err_and}
use Rattle.node_records.proofs.Prefixes.{prefix_of_label}
use Rattle.node_records.proofs.labels.write_label.Goals as goal

pub returns-in_err-write_division-clause-err : goal.returns-in_err-write_division-clause-err
returns-in_err-write_division-clause-err c =
    let p = err_from_is_err_and c.from_residual.result c.from_residual.ensures.1 in
    rw p.1 (prefix_of_label c.args.label.now c.divisions-division-items.result.now c.loop-division.division-index c.args.out.now c.loop-division.out c.write_division.new.out c.divisions-division-items.ensures.divisions c.loop-division.invariant c.in_err-write_division.ensures.err)
