use Rattle.std.proofs.Common.{sym}
use Rattle.call_tests.proofs.Changes.{nothing_changed}
use Rattle.call_tests.proofs.made_toys.LookAndHoldTreeCall.requests.Goals as goal

pub returns-clause-known : goal.returns-clause-known
returns-clause-known g c = λ t stands. record { reply = c.in_ok-reply.ensures.reply t stands; changes = sym (nothing_changed t stands.valid) }
