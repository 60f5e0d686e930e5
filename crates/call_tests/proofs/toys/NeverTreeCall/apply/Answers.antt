use Rattle.std.proofs.Common.{◌∙◌}
use Rattle.call_tests.proofs.Changes.{nothing_changed}
use Rattle.call_tests.proofs.toys.NeverTreeCall.apply.Goals as goal

pub returns-clause-changes : goal.returns-clause-changes
returns-clause-changes g c = λ t stands. c.requires ∙ nothing_changed t stands.valid
