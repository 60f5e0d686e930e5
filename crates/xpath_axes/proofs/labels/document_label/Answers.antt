use Rattle.std.proofs.Common.{sym, ap, ◌∙◌}
use Rattle.dewey_labels.specs.Sides.{child_toward}
use Rattle.xpath_axes.proofs.LabelWays.{or_itself, toward_document}
use Rattle.xpath_axes.proofs.labels.document_label.Goals as goal

pub returns-in-Some : goal.returns-in-Some
returns-in-Some c =
    let l = c.args.at.now in
    ap (or_itself l) (sym c.in-Some.is ∙ c.in_ok-label.ensures.toward ∙ ap (λ p. child_toward p l) c.in_ok-root.ensures) ∙ toward_document l c.divisions-divisions.ensures.label.0
