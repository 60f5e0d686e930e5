use Rattle.std.proofs.Common.{◌≡◌, ◌==◌, cond, Some, sym, ap, ◌∙◌, subst}
use Rattle.lock_resources.specs.declared.resource.Resource.{Resource}
use Rattle.lock_table.specs.Resources.{same_resource}
use Rattle.lock_table.specs.inside.Buckets.{row_there}
use Rattle.lock_table.proofs.Maps.{changed}
use Rattle.lock_table.proofs.buckets.put_new.Goals as goal

pub returns-clause-ok : goal.returns-clause-ok
returns-clause-ok c =
    changed c.args.bucket.now c.insert.new.self c.args.resource.now c.args.owner c.in_ok-row.row (Some c.args.ask)
    (subst (λ k. (q : Resource) → row_there c.insert.new.self q ≡ cond (same_resource k q) (Some c.in_ok-row.row) (row_there c.args.bucket.now q)) c.in_ok-copy.ensures c.in_ok-insert.ensures.updates.0)
    (λ p. c.in_ok-row.ensures p ∙ ap (cond (c.args.owner == p) (Some c.args.ask)) (sym (c.requires p)))
