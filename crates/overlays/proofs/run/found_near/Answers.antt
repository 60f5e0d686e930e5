use Rattle.std.proofs.Common.{sym, arith}
use Rattle.overlays.proofs.PlaceLaws.{stands_near, belongs_near}
use Rattle.overlays.proofs.run.found_near.Goals as goal

pub returns-in-Equal : goal.returns-in-Equal
returns-in-Equal c =
    let at = c.in_ok-get.ensures.lookup.3 in
    stands_near c.args.key.now c.args.changes.now c.args.near c.in_ok-get.field-0.now c.requires at.0 at.1 (sym c.in-Equal.ensures)

pub returns-in-Less-cmp : goal.returns-in-Less-cmp
returns-in-Less-cmp c =
    let m = c.in_ok-before-in-Greater.before in
    let at = c.in_ok-get.ensures.lookup.3 in
    let before = c.in_ok-get-in-Greater.ensures.lookup.3 in
    let one = c.in_ok-before-in-Greater.ensures in
    belongs_near c.args.key.now c.args.changes.now m c.args.near c.in_ok-get-in-Greater.field-0.now c.in_ok-get.field-0.now (omega (arith, one.0, one.1)) c.requires at.0 before.1 at.1
    (sym c.in-Less-cmp.ensures) (sym c.in-Greater.ensures)

pub returns-in-Equal-cmp : goal.returns-in-Equal-cmp
returns-in-Equal-cmp c =
    let at = c.in_ok-get-in-Greater.ensures.lookup.3 in
    stands_near c.args.key.now c.args.changes.now c.in_ok-before-in-Greater.before c.in_ok-get-in-Greater.field-0.now c.requires at.0 at.1 (sym c.in-Equal-cmp.ensures)
