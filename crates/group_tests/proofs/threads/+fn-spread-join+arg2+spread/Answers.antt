use denote.Param.Send.{sendable}
use Rattle.std.proofs.Common.{arith}
use Rattle.std.proofs.Crossing.{crosses}
use Rattle.std.proofs.alloc.Global.TheSendSync as heap
use Rattle.node_seq.proofs.sorted_seq.SortedSeq.TheSendSync as seq
use Rattle.outside_kinds.proofs.mem_disk.MemDisk.TheSendSync as disk
use Rattle.call_tests.proofs.toys.Clear.TheSendSync as clear
use Rattle.group_commit.proofs.Sent.{group_sync, member_send}
use Rattle.group_callers.proofs.Joined.{given_of, left_of, more_of}
use Rattle.group_callers.proofs.Members.{seen_on}
use Rattle.group_tests.proofs.Members.{back_of, came_back, same_numbers, unchanged}
use Rattle.group_tests.proofs.threads.+fn-spread-join+arg2+spread.Goals as goal

pub returns-then-threads-eq0 : goal.returns-then-threads-eq0
returns-then-threads-eq0 g t c = same_numbers c.args.member c.args.member (unchanged c.args.member)

pub cut-other-requires-clause-number : goal.cut-other-requires-clause-number
cut-other-requires-clause-number g t c =
    let some = c.if-threads-eq0.false in
    let under = c.requires.group.1 in
    let few = c.requires.group.2 in
    (c.requires.numbers c.args.threads (omega (arith, some)) (omega arith), λ e. omega (arith, e, under, few))

pub join-rest-requires-send-F : goal.join-rest-requires-send-F
join-rest-requires-send-F g t c κs within = search (sendable, crosses, heap.the_send, member_send, group_sync, seq.the_send, disk.the_send, clear.the_send) depth 20

pub join-rest-requires-send-A : goal.join-rest-requires-send-A
join-rest-requires-send-A g t c κs within = search (sendable, crosses, member_send, seq.the_send, disk.the_send, clear.the_send) depth 20

pub end_and_take_back-requires : goal.end_and_take_back-requires
end_and_take_back-requires g t c =
    let rest = c.join-rest.result.0.member in
    let done = c.join-rest.result.1.member in
    let left = left_of c.args.group.now c.args.member c.cut-other.new.member c.args.threads c.cut-other.result c.cut-other.ensures c.requires.group.0 in
    let given = given_of c.args.group.now c.args.member c.cut-other.new.member c.args.threads c.cut-other.result c.cut-other.ensures c.requires.group.0 in (
      back_of c.args.group.now c.cut-other.new.member rest c.join-rest.ensures.first left,
      more_of c.args.group.now c.cut-other.result done c.join-rest.ensures.second given,
    )

pub returns : goal.returns
returns g t c =
    let rest = c.join-rest.result.0.member in
    let done = c.join-rest.result.1.member in
    let taken = c.end_and_take_back.ensures in
    let few = c.requires.group.2 in
    came_back c.args.threads c.args.member c.cut-other.new.member c.cut-other.result rest taken.0 c.end_and_take_back.new.member (omega (arith, few)) c.cut-other.ensures c.join-rest.ensures.first
    (seen_on c.cut-other.result done taken.0 c.join-rest.ensures.second taken.1) taken.2
