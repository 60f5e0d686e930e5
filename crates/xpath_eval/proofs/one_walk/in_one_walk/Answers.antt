use Rattle.std.proofs.Common.{◌-◌, List, length, take, drop, sym, ap, ◌∙◌, arith}
use Rattle.path_model.specs.declared.path.Step.{Step}
use Rattle.path_model.specs.declared.path.XPath.{out-XPath, roll-XPath}
use Rattle.xpath_eval.proofs.WalkedPaths.{first_two, path_walked, rolled}
use Rattle.xpath_eval.proofs.one_walk.in_one_walk.Goals as goal

pub returns : goal.returns
returns c =
    let xs : List Step = c.as_slice.result.now in
    let enough = c.in-len2-up.len_at_least in
    let p = c.args.path.now in
    path_walked p (roll-XPath (record { absolute = (out-XPath p).absolute; steps = c.in_ok-with_rest.field-0 }))
    c.down-item.result c.child-item.result c.in_ok-walk.walk (take (length xs - 2) (drop 2 xs))
    (sym c.as_slice.ensures ∙ first_two xs c.down-item.result c.child-item.result (omega (arith, enough)) c.down-item.is c.child-item.is)
    (c.leads_to_all.ensures c.if-not-leads_to_all.false) (c.leads_to_children.ensures c.if-not-leads_to_children.false) c.in_ok-walk.ensures
    (ap (λ z. z.absolute) (rolled (out-XPath p).absolute c.in_ok-with_rest.field-0))
    (ap (λ z. z.steps) (rolled (out-XPath p).absolute c.in_ok-with_rest.field-0) ∙ c.in_ok-with_rest.ensures)
