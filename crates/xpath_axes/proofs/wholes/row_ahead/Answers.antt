use Rattle.std.proofs.Common.{◌≡◌, Bool, sym, ap, subst, ◌∙◌}
use Rattle.std.specs.List.{filter}
use Rattle.path_model.specs.declared.path.Axis.TheVariants.{Child}
use Rattle.path_model.specs.AxisPrograms.{children}
use Rattle.path_model.specs.Positions.{Position, a_node, passes}
use Rattle.path_model.specs.Programs.{answer}
use Rattle.xpath_axes.specs.Positions.{plain, all_plain}
use Rattle.xpath_axes.specs.Wholes.{StandsBefore}
use Rattle.xpath_axes.proofs.RowsAhead.{children_of_whole}
use Rattle.xpath_axes.proofs.TreeLooks.{if_ok}
use Rattle.xpath_axes.proofs.wholes.row_ahead.Goals as goal

pub returns-clause-children : goal.returns-clause-children
returns-clause-children g c t valid stands =
    let l = c.in-Node.label in
    let q = c.in-Node.field-1 in
    let ahead = all_plain c.args.ahead.now in
    let kept : Position → Bool = passes Child c.args.test.now in
    let is : plain c.args.node.now ≡ a_node l q = ap plain c.in-Node.is in
    if_ok _ _ c.children_ahead.result
    (λ found h. h ∙ ap (filter kept) (children_of_whole t valid l q ahead (subst (λ m. StandsBefore t m ahead) is stands)) ∙ ap (λ m. filter kept (answer t (children m))) (sym is))
    c.children_ahead.ensures
