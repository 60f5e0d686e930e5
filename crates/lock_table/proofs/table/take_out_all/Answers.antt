use Rattle.std.proofs.Common.{◌&&◌, ◌==◌, cond, [], None, sym, ap, ◌∙◌}
use Rattle.lock_table.specs.inside.Rows.{held_in, is_listed}
use Rattle.std.proofs.Common.{take, ◌∷◌, ◌++◌}
use Rattle.std.proofs.lemmas.List.{take_more}
use Rattle.lock_table.proofs.Listing.{one_more}
use Rattle.lock_table.proofs.table.take_out_all.Goals as goal

pub loop-resource-preserved : goal.loop-resource-preserved
loop-resource-preserved c =
    let n = c.loop-resource.resource-index in
    let more = one_more c.args.rows.now c.loop-resource.rows c.take_out.new.rows c.args.owner (take n c.args.resources.now) c.resource-item.result c.loop-resource.invariant.0 c.take_out.ensures.rows in
    (λ o r. more o r ∙ ap (λ rs. cond ((c.args.owner == o) && is_listed r rs) None (held_in c.args.rows.now o r)) (ap (λ x. take n c.args.resources.now ++ x ∷ []) c.resource-item.is ∙ sym (take_more c.args.resources.now n c.resource-item.result c.loop-resource-test.true)), c.take_out.ensures.groups)
