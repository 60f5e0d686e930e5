use Rattle.std.proofs.Common.{◌≡◌, Some, sym, ap, subst, ◌∙◌}
use Rattle.tree_model.specs.Tree.{Tree, map_of}
use Rattle.node_seq.specs.Trees.{StandsFor}
use Rattle.call_contract.specs.Books.{FaultsRise, IsAtMost, last_fault}
use Rattle.tx_core.specs.Cores.{CoreView, state_from, IsUndrained}
use Rattle.tx_core.specs.Truths.{LiveStand}
use Rattle.tx_core.specs.Queues.{HasQueue, times}
use Rattle.tx_core.specs.inside.Kept.{undrained_of}
use Rattle.tx_core.proofs.Kept.{core_legal}
use Rattle.tx_core.proofs.Truths.{core_live}
use Rattle.tx_core.proofs.engine.Core.is_legal.Goals as goal

pub returns-clause-book : goal.returns-clause-book
returns-clause-book g c =
    let h = c.self.inside in
    core_legal g.C.TreeCall.is_valid g.C.TreeCall.meaning g.B.NodeRead.contents g.B.NodeRead.count h.opening.value h.number h.limit (undrained_of h.bodies) h.parts c.args.self.now (sym c.self.view_is) c.self.invariant.core

pub returns-clause-queue : goal.returns-clause-queue
returns-clause-queue g c =
    subst (λ (v : CoreView _ _). HasQueue v.book) c.self.view_is (λ s. ap (times s) (sym c.self.invariant.core.seated.queue) ∙ c.self.invariant.core.seated.waits s)

pub returns-clause-faults : goal.returns-clause-faults
returns-clause-faults g c = subst (λ (v : CoreView _ _). FaultsRise (Some (g.B.NodeRead.count v.opening)) v.book) c.self.view_is c.self.invariant.core.faults.rise

pub returns-clause-counted : goal.returns-clause-counted
returns-clause-counted g c = subst (λ (v : CoreView _ _). IsAtMost (last_fault (Some (g.B.NodeRead.count v.opening)) v.book) (g.B.NodeRead.count v.base)) c.self.view_is c.self.invariant.core.faults.counted

pub returns-clause-live : goal.returns-clause-live
returns-clause-live g c =
    let h = c.self.inside in
    subst (λ (v : CoreView _ _). (t : Tree) → StandsFor (g.B.NodeRead.contents v.opening) t → LiveStand g.C.TreeCall.meaning (state_from g.C.TreeCall.meaning t v)) c.self.view_is
    (core_live g.C.TreeCall.is_valid g.C.TreeCall.meaning g.B.NodeRead.contents g.met.C.TreeCall.laws g.B.NodeRead.count h.opening.value h.number h.limit h.parts c.self.invariant.core)

pub returns-clause-committed : goal.returns-clause-committed
returns-clause-committed g c =
    subst (λ (v : CoreView _ _). (t : Tree) → StandsFor (g.B.NodeRead.contents v.opening) t → v.committed ≡ Some (map_of (state_from g.C.TreeCall.meaning t v).tree)) c.self.view_is
    (λ t opens. (c.self.invariant.core.run t opens).stands.committed)

pub returns-clause-undrained : goal.returns-clause-undrained
returns-clause-undrained g c =
    let kept = c.self.invariant.bodies in
    subst (λ (v : CoreView _ _). IsUndrained v) c.self.view_is (record { opened = kept.opened; follow = kept.follow; last = kept.last })
