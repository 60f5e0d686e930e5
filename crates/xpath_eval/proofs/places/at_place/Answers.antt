use Rattle.std.proofs.Common.{◌++◌, List, [], ◌∷◌, length, w64, FitsSigned, sym, ap, ◌∙◌, arith, rules}
use Rattle.std.proofs.lemmas.Int.{to_z-of_z}
use Rattle.xpath_axes.specs.declared.position.Position.{Position}
use Rattle.xpath_axes.specs.Positions.{all_plain}
use Rattle.xpath_eval.specs.inside.Places.{at_place, place_of}
use Rattle.xpath_eval.proofs.PlacedNodes.{last_there}
use Rattle.xpath_eval.proofs.places.at_place.Goals as goal

pub returns : goal.returns
returns c =
    let place = c.place_of-place.result in
    let fits : FitsSigned w64 c.args.number = search rules in
    let is = c.in-Some.ensures in
    let enough = c.if-len-place.false in
    let long = c.len.ensures ∙ ap length c.truncate.ensures in
    ap all_plain (c.in_ok-push.ensures.ok ∙ ap (λ (ks : List Position). ks ++ c.in-Some.node ∷ []) c.new-kept.ensures)
    ∙ last_there place c.args.nodes _ c.in-Some.node (omega (arith, enough, long)) (sym c.truncate.ensures ∙ is)
    ∙ ap (λ p. at_place p (all_plain c.args.nodes)) (c.place_of-place.ensures ∙ ap place_of (to_z-of_z w64 c.args.number fits))
