use Rattle.std.proofs.Common.{◌++◌, List, reverse, sym, ap, ◌∙◌}
use Rattle.xpath_axes.specs.declared.position.Position.{Position}
use Rattle.xpath_axes.specs.Positions.{plain, all_plain}
use Rattle.xpath_eval.specs.inside.Orders.{thinned}
use Rattle.xpath_eval.proofs.Orders.{map_reversed}
use Rattle.xpath_eval.proofs.order.without_doubles.Goals as goal

pub returns : goal.returns
returns c =
    let inv = c.loop-position.invariant in
    ap all_plain (c.from_vec.ensures ∙ c.reverse.ensures.items ∙ ap reverse c.into_vec-kept.ensures) ∙ map_reversed plain c.loop-position.kept ∙ inv.2
    ∙ ap (λ ps. thinned (all_plain ps)) (sym (inv.1 ∙ ap (λ (ps : List Position). ps ++ inv.0) c.in_default.ensures.0))
