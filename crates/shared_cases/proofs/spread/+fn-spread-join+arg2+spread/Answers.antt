use denote.Param.Send.{sendable}
use Rattle.std.proofs.Common.{ap, ◌∙◌, arith}
use Rattle.std.proofs.Crossing.{crosses}
use Rattle.std.proofs.alloc.Global.TheSendSync as heap
use Rattle.node_seq.proofs.sorted_seq.SortedSeq.TheSendSync as seq
use Rattle.shared_store.proofs.Sent.{session_send, store_sync}
use Rattle.shared_store.specs.Sessions.{SessionView}
use Rattle.turn_lock.specs.Turns.{merged}
use Rattle.shared_cases.proofs.Numbers.{come_back}
use Rattle.shared_cases.proofs.Sent.{op_send}
use Rattle.shared_cases.proofs.spread.+fn-spread-join+arg2+spread.Goals as goal

pub join-rest-requires-send-F : goal.join-rest-requires-send-F
join-rest-requires-send-F g t c κs within = search (sendable, crosses, heap.the_send, session_send, store_sync, op_send, seq.the_send) depth 20

pub join-rest-requires-send-A : goal.join-rest-requires-send-A
join-rest-requires-send-A g t c κs within = search (sendable, crosses, session_send, op_send, seq.the_send) depth 20

pub returns-clause-numbers : goal.returns-clause-numbers
returns-clause-numbers g t c = λ n there.
    let rest = c.join-rest.result.0 in
    come_back c.args.port.has c.cut-other.new.port.has rest.has c.join.new.session.has c.args.threads n (omega (arith, c.requires.port.2)) c.cut-other.ensures.kept.2
    (ap (λ (v : SessionView _ _). v.has) c.join.ensures.kept ∙ ap (merged rest.has) (ap (λ (v : SessionView _ _). v.has) c.join-rest.ensures.second.0 ∙ c.cut-other.ensures.given.2))
    c.join-rest.ensures.first.2 there
