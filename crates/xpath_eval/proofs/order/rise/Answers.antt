use Rattle.std.proofs.Common.{◌+◌, ◌-◌, ◌∷◌, List, drop, take, length, sym, subst, ◌∙◌, arith}
use Rattle.path_model.specs.Sets.{Rises}
use Rattle.xpath_axes.specs.declared.position.Position.{Position}
use Rattle.xpath_axes.specs.Positions.{plain, all_plain}
use Rattle.xpath_axes.proofs.Running.{item_next}
use Rattle.xpath_eval.proofs.Orders.{rises_on}
use Rattle.xpath_eval.proofs.order.rise.Goals as goal

pub loop-position-preserved : goal.loop-position-preserved
loop-position-preserved c = λ h.
    let rest : List Position = take (length c.args.positions.now - 1) (drop 1 c.args.positions.now) in
    let i = c.loop-position.position-index in
    let x = c.position-item.result in
    c.loop-position.invariant (subst (λ (ps : List Position). Rises (plain c.loop-position.last.now ∷ all_plain ps)) (sym (item_next rest i x (omega arith) c.position-item.is))
    (rises_on (plain c.loop-position.last.now) (plain x) (all_plain (drop (i + 1) rest)) (sym c.by_key.ensures ∙ c.in-Less.is) h))
