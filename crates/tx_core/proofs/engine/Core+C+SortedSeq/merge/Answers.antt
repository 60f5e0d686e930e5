use Rattle.std.proofs.Common.{Some, ap, arith}
use Rattle.tx_core.proofs.Kept.{shown_merged}
use Rattle.tx_core.specs.declared.parts.Parts.{Parts}
use Rattle.tx_core.specs.inside.Kept.{undrained_of}
use Rattle.tx_core.proofs.Drained.{bodies_kept}
use Rattle.tx_core.specs.Cores.{CoreView}
use Rattle.tx_core.proofs.Merged.{core_merged, few_more, stays_on_err}
use Rattle.tx_core.proofs.PassedOn.{kept_passed}
use Rattle.tx_core.proofs.engine.Core+C+SortedSeq.merge.Goals as goal

pub invariant_of-self : goal.invariant_of-self
invariant_of-self g c =
    record {
      core =
          core_merged g.C.TreeCall.is_valid g.C.TreeCall.meaning Some (λ _. 0) c.self.inside.opening.value c.self.inside.number c.self.inside.limit
          c.self.inside.parts c.merge.new.parts c.merge.ensures.same c.merge.ensures.spare (ap Some c.merge.ensures.contents) (omega (arith)) c.self.invariant.core;
      bodies = bodies_kept c.self.inside.number c.self.inside.parts.book.items c.merge.new.parts.book.items c.self.inside.parts.prepared c.merge.new.parts.prepared c.self.inside.bodies (ap (λ (x : Parts _ _). x.book.items) c.merge.ensures.same) (ap (λ (x : Parts _ _). x.prepared) c.merge.ensures.same) c.self.invariant.bodies;
      passed = kept_passed Some c.self.inside.parts c.merge.new.parts (ap (λ (x : Parts _ _). x.places.entries) c.merge.ensures.same) (ap (λ (x : Parts _ _). x.passed) c.merge.ensures.same) (ap Some c.merge.ensures.contents) c.self.invariant.passed;
    }

pub returns-clause-same : goal.returns-clause-same
returns-clause-same g c =
    let h = c.self.inside in
    shown_merged g.C.TreeCall.is_valid g.C.TreeCall.meaning Some h.opening.value h.number h.limit (undrained_of h.bodies) h.parts c.merge.new.parts _ c.self.view_is c.merge.ensures.same (ap Some c.merge.ensures.contents)

pub returns-clause-merged : goal.returns-clause-merged
returns-clause-merged g c = few_more c.merge.result c.merge.new.parts.layers.changes c.merge.new.parts.base c.merge.new.parts.layers.deletions c.merge.ensures.merged c.merge.ensures.all_counted

pub returns-clause-err : goal.returns-clause-err
returns-clause-err g c =
    stays_on_err c.merge.result c.args.self.now _ c.self.inside.parts.base (returns-clause-same g c) (ap (λ (x : CoreView _ _). x.base) c.self.view_is) c.merge.ensures.err
