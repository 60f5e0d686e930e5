use Rattle.std.proofs.Common.{not, ◌&&◌, sym, ap, ◌∙◌}
use Rattle.dewey_labels.specs.Labels.{is_ancestor}
use Rattle.xpath_axes.proofs.LabelWays.{is_less, not_less, right_test}
use Rattle.xpath_axes.proofs.labels.lies_right.Goals as goal

pub returns-in-Less : goal.returns-in-Less
returns-in-Less c =
    let l = c.args.of.now in
    let k = c.args.at.now in
    ap not c.is_ancestor_of.ensures.prefix ∙ ap (λ o. is_less o && not (is_ancestor l k)) (sym c.in-Less.is ∙ c.cmp.ensures) ∙ right_test l k

pub returns-in_default : goal.returns-in_default
returns-in_default c =
    let l = c.args.of.now in
    let k = c.args.at.now in
    ap (λ b. b && not (is_ancestor l k)) (not_less c.cmp.result c.in_default.not-Less) ∙ ap (λ o. is_less o && not (is_ancestor l k)) c.cmp.ensures ∙ right_test l k
