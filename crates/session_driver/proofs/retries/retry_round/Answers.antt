use Rattle.std.proofs.Common.{Bool, [], length, get_or, take, drop, ◌-◌, refl, subst, ◌∙◌}
use Rattle.call_contract.specs.Sessions.{live_in, queue_after}
use Rattle.call_contract.specs.States.{start}
use Rattle.call_contract.proofs.SessionBooks.{queue_told}
use Rattle.tx_core.specs.Cores.{waits_in}
use Rattle.tx_core.specs.Queues.{times}
use Rattle.session_driver.specs.inside.Steps.{LeavesRetry, KeepsQueue, BeginsRound}
use Rattle.session_driver.proofs.Left.{entries_none, grown_none, grown_on, begun_none, failed_none, on_err}
use Rattle.session_driver.proofs.Rounds.{at_most_one, queued_first, in_round, round_starts, round_goes, round_ends, round_fewer, round_fails, none_left, round_over}
use Rattle.session_driver.proofs.retries.retry_round.Goals as goal

pub returns-in_default-clause-err : goal.returns-in_default-clause-err
returns-in_default-clause-err g c = λ t stands f.
    let v = c.args.core.now in
    begun_none v v c.args.out.now.items c.args.out.now.items _ (failed_none v v (entries_none v)) refl

pub returns-in_default-clause-later : goal.returns-in_default-clause-later
returns-in_default-clause-later g c =
    let v = c.args.core.now in
    grown_none v v c.args.out.now.items c.args.out.now.items (entries_none v) refl

pub loop-rest-init : goal.loop-rest-init
loop-rest-init g c =
    let v = c.args.core.now in
    let m = g.C.TreeCall.meaning in
    round_starts m g.B.NodeRead.contents g.B.NodeRead.unchanged g.B.NodeRead.count v c.args.out.now.items c.as_slice-rest.result.now
    (c.as_slice-rest.ensures.value ∙ c.in-Ok.ensures.items ∙ c.waiting.ensures)
    (λ u. at_most_one (waits_in (live_in v.book u)) (times u (queue_after [] v.book)) (c.is_legal.ensures.queue u))
    (λ t stands. queue_told m (start t v.number v.limit) v.book (c.is_legal.ensures.book t stands).legal.run)
    (g.met.B.NodeRead.unchanged_itself v.base)

pub retry_one-requires : goal.retry_one-requires
retry_one-requires g c =
    let rest = c.loop-rest.rest.now in
    let is = in_round g.C.TreeCall.meaning g.B.NodeRead.contents g.B.NodeRead.unchanged g.B.NodeRead.count c.args.core.now c.loop-rest.core c.args.out.now.items c.loop-rest.out.items rest
    c.in-len1-up.len_at_least c.loop-rest.invariant in
    record { queued = queued_first (get_or rest 0 0) (take (length rest - 1) (drop 1 rest)) c.loop-rest.core.book is.queued }

pub returns-in_err-retry_one-clause-err : goal.returns-in_err-retry_one-clause-err
returns-in_err-retry_one-clause-err g c =
    let rest = c.loop-rest.rest.now in
    let m = g.C.TreeCall.meaning in
    let is = in_round m g.B.NodeRead.contents g.B.NodeRead.unchanged g.B.NodeRead.count c.args.core.now c.loop-rest.core c.args.out.now.items c.loop-rest.out.items rest
    c.in-len1-up.len_at_least c.loop-rest.invariant in
    on_err c.from_residual.result (BeginsRound m g.B.NodeRead.contents c.args.core.now c.retry_one.new.core c.args.out.now.items c.retry_one.new.out.items)
    (round_fails m g.B.NodeRead.contents g.B.NodeRead.unchanged g.B.NodeRead.count c.args.core.now c.loop-rest.core c.retry_one.new.core c.args.out.now.items c.loop-rest.out.items
    c.retry_one.new.out.items (get_or rest 0 0) (take (length rest - 1) (drop 1 rest)) is c.in_err-retry_one.ensures.err.0 c.in_err-retry_one.ensures.err.1)

pub returns-in_err-retry_one-clause-later : goal.returns-in_err-retry_one-clause-later
returns-in_err-retry_one-clause-later g c =
    grown_on c.args.core.now c.loop-rest.core c.retry_one.new.core c.args.out.now.items c.loop-rest.out.items c.retry_one.new.out.items c.loop-rest.invariant.later c.retry_one.ensures.later

pub returns-then-branch-clause-ok : goal.returns-then-branch-clause-ok
returns-then-branch-clause-ok g c =
    let rest = c.loop-rest.rest.now in
    let s = get_or rest 0 0 in
    let m = g.C.TreeCall.meaning in
    let is = in_round m g.B.NodeRead.contents g.B.NodeRead.unchanged g.B.NodeRead.count c.args.core.now c.loop-rest.core c.args.out.now.items c.loop-rest.out.items rest
    c.in-len1-up.len_at_least c.loop-rest.invariant in
    round_ends m g.B.NodeRead.contents g.B.NodeRead.unchanged g.B.NodeRead.count c.args.core.now c.loop-rest.core c.retry_one.new.core c.args.out.now.items c.loop-rest.out.items
    c.retry_one.new.out.items s (take (length rest - 1) (drop 1 rest)) is
    (subst (λ (b : Bool). LeavesRetry m g.B.NodeRead.contents c.loop-rest.core s b c.retry_one.new.core c.loop-rest.out.items c.retry_one.new.out.items) c.if-branch.true c.in_ok-retry_one.ensures.ok)

pub returns-then-branch-clause-fewer : goal.returns-then-branch-clause-fewer
returns-then-branch-clause-fewer g c = λ on.
    let rest = c.loop-rest.rest.now in
    let s = get_or rest 0 0 in
    let m = g.C.TreeCall.meaning in
    let is = in_round m g.B.NodeRead.contents g.B.NodeRead.unchanged g.B.NodeRead.count c.args.core.now c.loop-rest.core c.args.out.now.items c.loop-rest.out.items rest
    c.in-len1-up.len_at_least c.loop-rest.invariant in
    round_fewer m g.B.NodeRead.contents g.B.NodeRead.unchanged g.B.NodeRead.count c.args.core.now c.loop-rest.core c.retry_one.new.core c.args.out.now.items c.loop-rest.out.items
    c.retry_one.new.out.items s (take (length rest - 1) (drop 1 rest)) is
    (subst (λ (b : Bool). KeepsQueue c.loop-rest.core.book s b c.retry_one.new.core.book) c.if-branch.true c.in_ok-retry_one.ensures.queue)

pub returns-then-branch-clause-later : goal.returns-then-branch-clause-later
returns-then-branch-clause-later g c =
    grown_on c.args.core.now c.loop-rest.core c.retry_one.new.core c.args.out.now.items c.loop-rest.out.items c.retry_one.new.out.items c.loop-rest.invariant.later c.retry_one.ensures.later

pub loop-rest-preserved : goal.loop-rest-preserved
loop-rest-preserved g c =
    let rest = c.loop-rest.rest.now in
    let s = get_or rest 0 0 in
    let m = g.C.TreeCall.meaning in
    let is = in_round m g.B.NodeRead.contents g.B.NodeRead.unchanged g.B.NodeRead.count c.args.core.now c.loop-rest.core c.args.out.now.items c.loop-rest.out.items rest
    c.in-len1-up.len_at_least c.loop-rest.invariant in
    round_goes m g.B.NodeRead.contents g.B.NodeRead.unchanged g.B.NodeRead.count c.args.core.now c.loop-rest.core c.retry_one.new.core c.args.out.now.items c.loop-rest.out.items
    c.retry_one.new.out.items s (take (length rest - 1) (drop 1 rest)) is
    (subst (λ (b : Bool). LeavesRetry m g.B.NodeRead.contents c.loop-rest.core s b c.retry_one.new.core c.loop-rest.out.items c.retry_one.new.out.items) c.if-branch.false c.in_ok-retry_one.ensures.ok)
    (subst (λ (b : Bool). KeepsQueue c.loop-rest.core.book s b c.retry_one.new.core.book) c.if-branch.false c.in_ok-retry_one.ensures.queue)
    c.retry_one.ensures.later
    (g.met.B.NodeRead.unchanged_onward c.args.core.now.base c.loop-rest.core.base c.retry_one.new.core.base is.reads c.retry_one.ensures.unchanged)
    (c.in_ok-retry_one.ensures.cause.exact ∙ is.faults)

pub returns-clause-ok : goal.returns-clause-ok
returns-clause-ok g c =
    let m = g.C.TreeCall.meaning in
    round_over m g.B.NodeRead.contents g.B.NodeRead.unchanged g.B.NodeRead.count c.args.core.now c.loop-rest.core c.args.out.now.items c.loop-rest.out.items
    (none_left m g.B.NodeRead.contents g.B.NodeRead.unchanged g.B.NodeRead.count c.args.core.now c.loop-rest.core c.args.out.now.items c.loop-rest.out.items c.loop-rest.rest.now c.in_default-rest.len_below c.loop-rest.invariant)
