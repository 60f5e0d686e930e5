use Rattle.std.proofs.Common.{arith}
use Rattle.call_tests.proofs.Changes.{invalid_absent}
use Rattle.call_tests.proofs.toys.record_at.Goals as goal

pub returns-then-not-is_valid-clause-value : goal.returns-then-not-is_valid-clause-value
returns-then-not-is_valid-clause-value g c = λ t stands. invalid_absent c.args.key.now t stands.valid (λ is. let true_is = c.is_valid.ensures.1 is in grind (arith, true_is, c.if-not-is_valid.ensures, c.if-not-is_valid.true))
