use Rattle.group_callers.proofs.Joined.{more_of}
use Rattle.group_tests.proofs.held.clear_during_sync.Goals as goal

pub make_durable-requires : goal.make_durable-requires
make_durable-requires g c = more_of c.args.group.now c.args.member c.clear_all.new.member c.clear_all.ensures c.requires.0
