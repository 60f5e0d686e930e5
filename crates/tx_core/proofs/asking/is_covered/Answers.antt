use Rattle.std.proofs.Common.{sym, ap, ◌∙◌, length, ltb-true}
use Rattle.std.specs.Ordering.{is_eq}
use Rattle.lock_table.proofs.Maps.{exact_resources}
use Rattle.tx_core.proofs.asking.is_covered.Goals as goal

pub returns-then-is_eq : goal.returns-then-is_eq
returns-then-is_eq c covers =
    let one = c.in-Some.one.now in
    let there = c.in-Some.ensures.lookup in
    let same = exact_resources one.resource c.args.request.now.resource (ap is_eq (sym c.cmp.ensures) ∙ sym c.is_eq.ensures ∙ c.if-is_eq.true) in
    (c.args.index, one, ltb-true c.args.index (length c.args.earlier.now) (sym there.0), there.1, same, c.has.ensures.0 covers)
