use Rattle.std.proofs.Common.{Bool, true, IsTrue, rules, sym, subst, ◌∙◌}
use Rattle.tree_model.specs.Tree.{Tree}
use Rattle.node_seq.specs.Trees.{StandsFor}
use Rattle.call_contract.specs.States.{start}
use Rattle.call_contract.proofs.SessionBooks.{queue_told}
use Rattle.tx_core.specs.Cores.{state_from}
use Rattle.session_driver.specs.Driving.{HasBegun}
use Rattle.session_driver.specs.Retries.{retries}
use Rattle.session_driver.specs.inside.Steps.{LeavesRound}
use Rattle.session_driver.proofs.Left.{grown_on, on_err}
use Rattle.session_driver.proofs.Rounds.{rounds_start, rounds_go, rounds_done, rounds_begun}
use Rattle.session_driver.proofs.retries.retry_all.Goals as goal

is_true : IsTrue true
is_true = search rules

pub loop-init : goal.loop-init
loop-init g c =
    let v = c.args.core.now in
    let m = g.C.TreeCall.meaning in
    rounds_start m g.B.NodeRead.contents g.B.NodeRead.unchanged g.B.NodeRead.count v c.args.out.now.items
    (λ t stands. queue_told m (start t v.number v.limit) v.book (c.is_legal.ensures.book t stands).legal.run)
    (g.met.B.NodeRead.unchanged_itself v.base)

pub returns-in_err-retry_round-clause-err : goal.returns-in_err-retry_round-clause-err
returns-in_err-retry_round-clause-err g c =
    let m = g.C.TreeCall.meaning in
    let old = c.args.core.now in
    on_err c.from_residual.result
    ((t : Tree) → StandsFor (g.B.NodeRead.contents old.opening) t → HasBegun old c.retry_round.new.core c.args.out.now.items c.retry_round.new.out.items (retries m (state_from m t old)))
    (rounds_begun m g.B.NodeRead.contents g.B.NodeRead.unchanged g.B.NodeRead.count old c.loop.core c.retry_round.new.core c.args.out.now.items c.loop.out.items c.retry_round.new.out.items c.loop.invariant
    c.in_err-retry_round.ensures.err)

pub returns-in_err-retry_round-clause-later : goal.returns-in_err-retry_round-clause-later
returns-in_err-retry_round-clause-later g c =
    grown_on c.args.core.now c.loop.core c.retry_round.new.core c.args.out.now.items c.loop.out.items c.retry_round.new.out.items c.loop.invariant.later c.retry_round.ensures.later

pub loop-smaller : goal.loop-smaller
loop-smaller g c = c.in_ok-retry_round.ensures.fewer (subst IsTrue (sym c.if-branch.true) is_true)

pub loop-preserved : goal.loop-preserved
loop-preserved g c =
    let m = g.C.TreeCall.meaning in
    let old = c.args.core.now in
    rounds_go m g.B.NodeRead.contents g.B.NodeRead.unchanged g.B.NodeRead.count old c.loop.core c.retry_round.new.core c.args.out.now.items c.loop.out.items c.retry_round.new.out.items c.loop.invariant
    (subst (λ (b : Bool). LeavesRound m g.B.NodeRead.contents c.loop.core b c.retry_round.new.core c.loop.out.items c.retry_round.new.out.items) c.if-branch.true c.in_ok-retry_round.ensures.ok)
    (c.in_ok-retry_round.ensures.fewer (subst IsTrue (sym c.if-branch.true) is_true))
    c.retry_round.ensures.later
    (g.met.B.NodeRead.unchanged_onward old.base c.loop.core.base c.retry_round.new.core.base c.loop.invariant.reads c.retry_round.ensures.unchanged)
    (c.in_ok-retry_round.ensures.cause.exact ∙ c.loop.invariant.faults)

pub returns-clause-ok : goal.returns-clause-ok
returns-clause-ok g c =
    let m = g.C.TreeCall.meaning in
    let old = c.args.core.now in
    rounds_done m g.B.NodeRead.contents g.B.NodeRead.unchanged g.B.NodeRead.count old c.loop.core c.retry_round.new.core c.args.out.now.items c.loop.out.items c.retry_round.new.out.items c.loop.invariant
    (subst (λ (b : Bool). LeavesRound m g.B.NodeRead.contents c.loop.core b c.retry_round.new.core c.loop.out.items c.retry_round.new.out.items) c.if-branch.false c.in_ok-retry_round.ensures.ok)

pub returns-clause-later : goal.returns-clause-later
returns-clause-later g c =
    grown_on c.args.core.now c.loop.core c.retry_round.new.core c.args.out.now.items c.loop.out.items c.retry_round.new.out.items c.loop.invariant.later c.retry_round.ensures.later
