use Rattle.std.proofs.Common.{◌+◌, ◌-◌, ◌≤◌, arith}
use Rattle.std.proofs.lemmas.Bool.Decides.{nat_tests}
use Rattle.xpath_parser.proofs.Digits.{grown, fits}
use Rattle.xpath_parser.proofs.literals.number_of.Goals as goal

pub overflow_mul-number : goal.overflow_mul-number
overflow_mul-number c =
    let larger = grown c.loop-c.number c.loop-c.c-index 0 c.loop-c.invariant.small (omega arith) in
    let most = fits (c.loop-c.c-index + 1) (omega arith) in
    omega (arith, larger, most)

pub overflow_add-number : goal.overflow_add-number
overflow_add-number c =
    let digit : c.c-item.result - 48 ≤ 9 = grind (arith, nat_tests) in
    let larger = grown c.loop-c.number c.loop-c.c-index (c.c-item.result - 48) c.loop-c.invariant.small digit in
    let most = fits (c.loop-c.c-index + 1) (omega arith) in
    omega (arith, larger, most)

pub returns-clause-fits : goal.returns-clause-fits
returns-clause-fits c = omega (arith, c.loop-c.invariant.small, fits c.loop-c.c-index (omega arith))
