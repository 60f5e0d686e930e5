use Rattle.std.proofs.Common.{◌≡◌, ap, subst}
use Rattle.std.proofs.lemmas.Result.{IfOk-weaker}
use Rattle.overlays.specs.Layered.{Layered}
use Rattle.tree_model.specs.Tree.{Tree, map_of}
use Rattle.node_seq.specs.Trees.{StandsFor}
use Rattle.tx_core.specs.Cores.{CoreView, state_from}
use Rattle.tx_core.specs.declared.parts.Parts.{Parts}
use Rattle.tx_core.specs.inside.Kept.{undrained_of}
use Rattle.tx_core.proofs.Drained.{bodies_kept}
use Rattle.tx_core.proofs.Kept.{same_committed, shown_merged}
use Rattle.tx_core.proofs.Merged.{core_merged}
use Rattle.tx_core.proofs.PassedOn.{kept_passed}
use Rattle.tx_core.proofs.engine.Core.copy_committed.Goals as goal

pub invariant_of-self : goal.invariant_of-self
invariant_of-self g c =
    let told = g.B.NodeRead.contents in
    let h = c.self.inside in
    let p = h.parts in
    let q = c.copy_committed.new.parts in
    let same = c.copy_committed.ensures.same in
    let committed = same_committed g.C.TreeCall.is_valid g.C.TreeCall.meaning told p q c.copy_committed.ensures.layers (g.met.B.NodeRead.unchanged_contents _ _ c.copy_committed.ensures.unchanged) in
    record {
      core =
          core_merged g.C.TreeCall.is_valid g.C.TreeCall.meaning told g.B.NodeRead.count h.opening.value h.number h.limit p q same
          (ap (λ (l : Layered). l.spare) c.copy_committed.ensures.layers) committed c.copy_committed.ensures.cause.later c.self.invariant.core;
      passed = kept_passed told p q (ap (λ (x : Parts _ _). x.places.entries) same) (ap (λ (x : Parts _ _). x.passed) same) committed c.self.invariant.passed;
      bodies = bodies_kept h.number p.book.items q.book.items p.prepared q.prepared h.bodies (ap (λ (x : Parts _ _). x.book.items) same) (ap (λ (x : Parts _ _). x.prepared) same) c.self.invariant.bodies;
    }

pub returns-clause-map : goal.returns-clause-map
returns-clause-map g c =
    IfOk-weaker c.copy_committed.result _ _
    (λ copy h. subst (λ (v : CoreView _ _). (t : Tree) → StandsFor (g.B.NodeRead.contents v.opening) t → copy ≡ map_of (state_from g.C.TreeCall.meaning t v).tree) c.self.view_is
    (λ t opens.
    let at = (c.self.invariant.core.run t opens).stands in
    h _ (record { valid = at.valid; map = at.committed }))) c.copy_committed.ensures.tree

pub returns-clause-same : goal.returns-clause-same
returns-clause-same g c =
    let told = g.B.NodeRead.contents in
    let h = c.self.inside in
    let p = h.parts in
    let q = c.copy_committed.new.parts in
    shown_merged g.C.TreeCall.is_valid g.C.TreeCall.meaning told h.opening.value h.number h.limit (undrained_of h.bodies) p q _ c.self.view_is c.copy_committed.ensures.same
    (same_committed g.C.TreeCall.is_valid g.C.TreeCall.meaning told p q c.copy_committed.ensures.layers (g.met.B.NodeRead.unchanged_contents _ _ c.copy_committed.ensures.unchanged))
