use Rattle.std.proofs.Common.{◌==◌, cond, Some, refl, ap, ◌∙◌, subst, IsSome}
use Rattle.std.proofs.lemmas.Result.{on_ok_weaker, on_err_weaker}
use Rattle.lock_table.specs.inside.Buckets.{in_row}
use Rattle.lock_table.proofs.Maps.{changed, unchanged}
use Rattle.lock_table.proofs.buckets.put_there.Goals as goal

pub returns-in-Some-clause-ok : goal.returns-in-Some-clause-ok
returns-in-Some-clause-ok c =
    on_ok_weaker c.put_in.result (λ inner. changed c.args.bucket.now (c.get_mut.follows.lender c.put_in.new.row) c.args.resource.now c.args.owner c.put_in.new.row (Some c.args.ask)
    (((c.get_mut.follows.holds c.put_in.new.row).3 (subst IsSome c.in-Some.ensures.value refl)).0)
    (λ p. inner p ∙ ap (λ r. cond (c.args.owner == p) (Some c.args.ask) (in_row r p)) c.in-Some.ensures.value)) c.put_in.ensures.ok

pub returns-in-Some-clause-err : goal.returns-in-Some-clause-err
returns-in-Some-clause-err c =
    on_err_weaker c.put_in.result (λ inner. unchanged c.args.bucket.now (c.get_mut.follows.lender c.put_in.new.row) c.args.resource.now c.put_in.new.row
    (((c.get_mut.follows.holds c.put_in.new.row).3 (subst IsSome c.in-Some.ensures.value refl)).0)
    (λ p. inner p ∙ ap (λ r. in_row r p) c.in-Some.ensures.value)) c.put_in.ensures.err
