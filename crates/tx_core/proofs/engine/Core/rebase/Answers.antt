use Rattle.std.proofs.Common.{◌≡◌, ◌≤◌, Some, ap, sym, subst, arith}
use Rattle.tree_model.specs.Tree.{Tree, map_of}
use Rattle.node_seq.specs.Trees.{StandsFor}
use Rattle.overlays.specs.Layered.{Layered}
use Rattle.tx_core.specs.Cores.{CoreView, state_from}
use Rattle.tx_core.specs.declared.parts.Parts.{Parts}
use Rattle.tx_core.specs.inside.Kept.{undrained_of}
use Rattle.tx_core.proofs.Drained.{bodies_kept}
use Rattle.tx_core.proofs.Kept.{shown_rebased}
use Rattle.tx_core.proofs.CommitsKept.{core_rebased}
use Rattle.tx_core.proofs.Told.{rebased_seated}
use Rattle.tx_core.proofs.engine.Core.rebase.Goals as goal

pub invariant_of-self : goal.invariant_of-self
invariant_of-self g c =
    record {
      core =
          let m = g.C.TreeCall.meaning in
          let told = g.B.NodeRead.contents in
          let p = c.self.inside.parts in
          let q = c.rebase.new.parts in
          let spare : 1 ≤ q.layers.spare = omega (arith, ap (λ (l : Layered). l.spare) c.rebase.ensures.layers) in
          let later : g.B.NodeRead.count p.base ≤ g.B.NodeRead.count q.base =
          omega (arith, ap (λ (v : CoreView _ _). g.B.NodeRead.count v.base) c.self.view_is, ap (λ (x : Parts _ _). g.B.NodeRead.count x.base) c.rebase.ensures.same, c.requires.later) in
          core_rebased g.C.TreeCall.is_valid m told g.B.NodeRead.count c.self.inside.opening.value c.self.inside.number c.self.inside.limit p q c.args.base c.rebase.ensures.same c.rebase.ensures.state
          (subst (λ (v : CoreView _ _). (t : Tree) → StandsFor (told v.opening) t → told c.args.base ≡ Some (map_of (state_from m t v).tree)) (sym c.self.view_is) c.requires.committed)
          (rebased_seated p q c.args.base c.self.invariant.core.seated c.rebase.ensures.same spare) later c.self.invariant.core;
      passed = c.rebase.ensures.passed;
      bodies = bodies_kept c.self.inside.number c.self.inside.parts.book.items c.rebase.new.parts.book.items c.self.inside.parts.prepared c.rebase.new.parts.prepared c.self.inside.bodies (ap (λ (x : Parts _ _). x.book.items) c.rebase.ensures.same) (ap (λ (x : Parts _ _). x.prepared) c.rebase.ensures.same) c.self.invariant.bodies;
    }

pub returns-clause-same : goal.returns-clause-same
returns-clause-same g c =
    let h = c.self.inside in
    shown_rebased g.C.TreeCall.is_valid g.C.TreeCall.meaning g.B.NodeRead.contents h.opening.value h.number h.limit (undrained_of h.bodies) h.parts c.rebase.new.parts c.args.base _ c.self.view_is c.rebase.ensures.same
