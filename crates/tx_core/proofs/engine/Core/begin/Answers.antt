use Rattle.std.proofs.Common.{refl, ap}
use Rattle.tx_core.specs.inside.Kept.{undrained_of}
use Rattle.tx_core.proofs.Counted.{same_count}
use Rattle.tx_core.proofs.Drained.{bodies_entry, bodies_kept}
use Rattle.tx_core.proofs.Kept.{core_goes, core_stays, of_both}
use Rattle.std.proofs.lemmas.Result.{on_err_weaker, IfOk-weaker}
use Rattle.tx_core.proofs.Kept.{shown_entry, shown_kept, same_committed}
use Rattle.tx_core.proofs.engine.Core.begin.Goals as goal

pub invariant_of-self : goal.invariant_of-self
invariant_of-self g c =
    record {
      core =
          let v = g.C.TreeCall.is_valid in
          let m = g.C.TreeCall.meaning in
          let told = g.B.NodeRead.contents in
          let h = c.self.inside in
          of_both c.begin.result c.begin.ensures.ok c.begin.ensures.err
          (λ x is. core_goes v m told g.B.NodeRead.count h.opening.value h.number h.limit h.parts _ c.begin.new.parts c.self.invariant.core is c.begin.ensures.seated (same_count g.B.NodeRead.count h.opening.value h.parts c.begin.new.parts c.begin.ensures.base))
          (λ is. core_stays v m told g.B.NodeRead.count h.opening.value h.number h.limit h.parts c.begin.new.parts c.self.invariant.core is c.begin.ensures.seated (same_count g.B.NodeRead.count h.opening.value h.parts c.begin.new.parts c.begin.ensures.base));
      passed = c.begin.ensures.passed c.self.invariant.passed;
      bodies =
          let h = c.self.inside in
          of_both c.begin.result c.begin.ensures.ok c.begin.ensures.err
          (λ x is. bodies_entry h.number h.parts.book.items c.begin.new.parts.book.items h.parts.prepared c.begin.new.parts.prepared h.bodies _ is.book is.prepared refl c.self.invariant.bodies)
          (λ is. bodies_kept h.number h.parts.book.items c.begin.new.parts.book.items h.parts.prepared c.begin.new.parts.prepared h.bodies is.book is.prepared c.self.invariant.bodies);
    }

pub returns-clause-ok : goal.returns-clause-ok
returns-clause-ok g c =
    let h = c.self.inside in
    IfOk-weaker c.begin.result _ _
    (λ x is. shown_entry g.C.TreeCall.is_valid g.C.TreeCall.meaning g.B.NodeRead.contents h.opening.value h.number h.limit (undrained_of h.bodies) h.parts c.begin.new.parts _ _ c.self.view_is is.book is.prepared c.begin.ensures.seated.layers c.begin.ensures.base) c.begin.ensures.ok

pub returns-clause-err : goal.returns-clause-err
returns-clause-err g c =
    let h = c.self.inside in
    let p = h.parts in
    let q = c.begin.new.parts in
    on_err_weaker c.begin.result
    (λ is. shown_kept g.C.TreeCall.is_valid g.C.TreeCall.meaning g.B.NodeRead.contents h.opening.value h.number h.limit (undrained_of h.bodies) p q _ c.self.view_is is.book is.prepared
    (same_committed g.C.TreeCall.is_valid g.C.TreeCall.meaning g.B.NodeRead.contents p q c.begin.ensures.seated.layers (ap g.B.NodeRead.contents c.begin.ensures.base)) c.begin.ensures.base) c.begin.ensures.err
