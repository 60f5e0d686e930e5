use Rattle.group_callers.proofs.Joined.{more_of}
use Rattle.group_callers.proofs.Members.{called, seen_on}
use Rattle.group_tests.proofs.held.clear_all.Goals as goal

pub returns-in_err-begin : goal.returns-in_err-begin
returns-in_err-begin g c = called c.args.member.now c.begin.new.self c.begin.ensures.done.same c.begin.ensures.pass

pub loop-label-init : goal.loop-label-init
loop-label-init g c = called c.args.member.now c.begin.new.self c.begin.ensures.done.same c.begin.ensures.pass

pub clear-requires : goal.clear-requires
clear-requires g c = more_of c.args.group.now c.args.member.now c.loop-label.member c.loop-label.invariant c.requires.0

pub loop-label-preserved : goal.loop-label-preserved
loop-label-preserved g c = seen_on c.args.member.now c.loop-label.member c.clear.new.member c.loop-label.invariant c.clear.ensures

pub returns-in_err-clear : goal.returns-in_err-clear
returns-in_err-clear g c = seen_on c.args.member.now c.loop-label.member c.clear.new.member c.loop-label.invariant c.clear.ensures
