use Rattle.group_callers.proofs.Members.{called}
use Rattle.group_tests.proofs.Members.{unchanged}
use Rattle.group_tests.proofs.stores.clear.Goals as goal

pub returns : goal.returns
returns g c = called c.args.member.now c.call.new.self c.call.ensures.done.same c.call.ensures.pass

pub returns-in_default : goal.returns-in_default
returns-in_default g c = unchanged c.args.member.now
