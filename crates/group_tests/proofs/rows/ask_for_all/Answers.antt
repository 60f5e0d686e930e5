use Rattle.group_tests.proofs.Members.{asked, unchanged}
use Rattle.group_tests.proofs.rows.ask_for_all.Goals as goal

pub returns-then-asks : goal.returns-then-asks
returns-then-asks g c = asked c.args.member.now c.make_durable.new.member c.make_durable.result c.make_durable.ensures

pub returns-else-asks : goal.returns-else-asks
returns-else-asks g c = unchanged c.args.member.now
