use Rattle.std.proofs.Common.{◌≡◌, [], ◌∷◌, ◌++◌, ◌∙◌, append_assoc}
use Rattle.lock_resources.specs.Intentions.{on_ancestors, on_node}
use Rattle.lock_resources.specs.inside.Gained.{GoesOn}
use Rattle.lock_resources.proofs.Ways.{goes_on_by, on_ok_then, on_err_then}
use Rattle.lock_resources.proofs.intentions.push_way.Goals as goal

pub returns-clause-ok : goal.returns-clause-ok
returns-clause-ok c =
    let l = c.args.label.now in
    let old = c.args.out.now in
    let out = c.push_ancestors.new.out in
    let new = c.push_node.new.out in
    let whole = on_ancestors c.args.above c.args.parent l in
    let own = on_node l c.args.own ∷ [] in
    on_ok_then c.push_node.result (new ≡ out ++ on_node c.in_ok-copy.field-0 c.args.own ∷ []) (new ≡ old ++ (whole ++ own))
    (λ e. e ∙ (λ i. c.in_ok-push_ancestors.ensures.ok i ++ on_node (c.in_ok-copy.ensures i) c.args.own ∷ []) ∙ append_assoc old whole own)
    c.push_node.ensures.ok

pub returns-clause-err : goal.returns-clause-err
returns-clause-err c =
    on_err_then c.push_node.result (c.push_node.new.out ≡ c.push_ancestors.new.out) (GoesOn c.args.out.now c.push_node.new.out)
    (λ e. goes_on_by _ _ _ (e ∙ c.in_ok-push_ancestors.ensures.ok))
    c.push_node.ensures.err
