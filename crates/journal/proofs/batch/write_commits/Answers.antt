use Rattle.std.proofs.Common.{rules, ◌<◌, ◌^◌, List, length, subst}
use Rattle.std.specs.List.{AllByRecursion}
use Rattle.std.proofs.lemmas.Result.{err_from_is_err_and}
use Rattle.node_records.specs.declared.pending.Pending.{Pending}
use Rattle.journal.proofs.BatchWrites.{pending-torn, pending-on, pending-place}
use Rattle.journal.proofs.batch.write_commits.Goals as goal

pub returns-in_err-at-clause-stops : goal.returns-in_err-at-clause-stops
returns-in_err-at-clause-stops g c =
    let p = err_from_is_err_and c.from_residual.result c.from_residual.ensures.1 in
    rw p.1 (λ is_known. pending-torn _ _ _ _ _ _ c.in-Some.ensures.cases.0 _ c.as_slice.ensures _ c.gate_before-gate.ensures _ _ _ (c.loop-commit.invariant.written is_known) (c.in_err-at.ensures.stops is_known))

pub loop-commit-preserved : goal.loop-commit-preserved
loop-commit-preserved g c =
    let first = c.in-Some.ensures.cases.0 in
    record {
      written = λ is_known. pending-on _ _ _ _ _ _ first _ c.as_slice.ensures _ c.gate_before-gate.ensures _ _ _ _ c.in_ok-at.ensures.end (c.in_ok-at.ensures.within is_known) (c.loop-commit.invariant.written is_known) (c.in_ok-at.ensures.does is_known);
      place = pending-place c.args.start c.loop-commit.at c.args.commits.now c.loop-commit.rest.now c.in-Some.after.now c.in-Some.commit.now first c.as_slice.result.now c.as_slice.ensures c.gate_before-gate.result c.gate_before-gate.ensures (g.J.Disk.history c.args.disk.now) (g.J.Disk.history c.loop-commit.disk) (g.J.Disk.history c.write_commit.new.disk) _ _ c.in_ok-at.ensures.end c.loop-commit.invariant.place;
      short = (subst (λ (l : List Pending). AllByRecursion (λ commit. length commit.body < 2 ^ 32) l) first c.loop-commit.invariant.short).1;
      later = search rules;
      exact = search rules;
    }
