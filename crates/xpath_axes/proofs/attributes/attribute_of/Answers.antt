use Rattle.std.proofs.Common.{sym, ap, ◌∙◌}
use Rattle.xpath_axes.specs.inside.Walks.{attribute_of}
use Rattle.xpath_axes.proofs.AttributeWalks.{attribute_here, elsewhere, equal, unequal}
use Rattle.xpath_axes.proofs.attributes.attribute_of.Goals as goal

pub returns-then-ne : goal.returns-then-ne
returns-then-ne c =
    let at = c.args.at.now in
    let key = c.in_ok-key.key in
    elsewhere at (key, c.in_ok-key.record) (unequal at key.label c.ne.result c.ne.ensures c.if-ne.true) ∙ ap (attribute_of at) (sym c.in_ok-key.was)

pub returns-in-Attr : goal.returns-in-Attr
returns-in-Attr c =
    let at = c.args.at.now in
    let key = c.in_ok-key.key in
    attribute_here at key c.in_ok-key.record c.in-Attr.value (equal at key.label c.ne.result c.ne.ensures c.if-ne.false) c.in-Attr.is ∙ ap (attribute_of at) (sym c.in_ok-key.was)
