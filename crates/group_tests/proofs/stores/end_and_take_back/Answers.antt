use Rattle.group_callers.proofs.Joined.{more_of}
use Rattle.group_callers.proofs.Members.{called}
use Rattle.group_tests.proofs.stores.end_and_take_back.Goals as goal

pub take_back-requires : goal.take_back-requires
take_back-requires g c =
    let ended = called c.args.other c.abort-ended.new.self c.abort-ended.ensures.done.same c.abort-ended.ensures.pass in
    (c.requires.0, more_of c.args.group.now c.args.other c.abort-ended.new.self ended c.requires.1, c.abort-ended.ensures.ended)

pub returns : goal.returns
returns g c =
    let ended = called c.args.other c.abort-ended.new.self c.abort-ended.ensures.done.same c.abort-ended.ensures.pass in
    (c.abort-ended.new.self, ended, c.take_back.ensures)
