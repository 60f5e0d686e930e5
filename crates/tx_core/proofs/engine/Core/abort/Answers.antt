use Rattle.std.proofs.Common.{refl, sym, ap, subst}
use Rattle.tx_core.specs.declared.parts.Parts.{Parts}
use Rattle.tx_core.specs.inside.Kept.{IsCore, undrained_of}
use Rattle.tx_core.proofs.Drained.{bodies_entry, bodies_kept}
use Rattle.tx_core.proofs.Counted.{same_count}
use Rattle.tx_core.proofs.Kept.{core_goes, of_both}
use Rattle.std.proofs.lemmas.Result.{IfOk-weaker}
use Rattle.call_contract.specs.Ends.{LeavesAllElse}
use Rattle.tree_model.specs.Tree.{Tree}
use Rattle.node_seq.specs.Trees.{StandsFor}
use Rattle.tx_core.specs.Cores.{CoreView, state_from}
use Rattle.tx_core.proofs.Kept.{shown_entry}
use Rattle.call_contract.specs.Books.{last}
use Rattle.call_contract.specs.States.{start}
use Rattle.tx_core.proofs.Truths.{core_aborts}
use Rattle.tx_core.proofs.engine.Core.abort.Goals as goal

pub invariant_of-self : goal.invariant_of-self
invariant_of-self g c =
    let v = g.C.TreeCall.is_valid in
    let m = g.C.TreeCall.meaning in
    let told = g.B.NodeRead.contents in
    let h = c.self.inside in
    let core = of_both c.abort.result c.abort.ensures.ok c.abort.ensures.err
    (λ x is. core_goes v m told g.B.NodeRead.count h.opening.value h.number h.limit h.parts _ c.abort.new.parts c.self.invariant.core is c.abort.ensures.seated (same_count g.B.NodeRead.count h.opening.value h.parts c.abort.new.parts c.abort.ensures.base))
    (λ is. subst (λ x. IsCore v m told g.B.NodeRead.count h.opening.value h.number h.limit x) (sym is) c.self.invariant.core) in
    let bodies = of_both c.abort.result c.abort.ensures.ok c.abort.ensures.err
    (λ x is. bodies_entry h.number h.parts.book.items c.abort.new.parts.book.items h.parts.prepared c.abort.new.parts.prepared h.bodies _ is.book is.prepared refl c.self.invariant.bodies)
    (λ is. bodies_kept h.number h.parts.book.items c.abort.new.parts.book.items h.parts.prepared c.abort.new.parts.prepared h.bodies (ap (λ (x : Parts _ _). x.book.items) is) (ap (λ (x : Parts _ _). x.prepared) is) c.self.invariant.bodies) in
    record { core = core; passed = c.abort.ensures.passed c.self.invariant.passed; bodies = bodies }

pub returns-clause-ok : goal.returns-clause-ok
returns-clause-ok g c =
    let h = c.self.inside in
    IfOk-weaker c.abort.result _ _
    (λ x is. shown_entry g.C.TreeCall.is_valid g.C.TreeCall.meaning g.B.NodeRead.contents h.opening.value h.number h.limit (undrained_of h.bodies) h.parts c.abort.new.parts _ _ c.self.view_is is.book is.prepared c.abort.ensures.seated.layers c.abort.ensures.base) c.abort.ensures.ok

pub returns-clause-others : goal.returns-clause-others
returns-clause-others g c =
    let h = c.self.inside in
    let m = g.C.TreeCall.meaning in
    let told = g.B.NodeRead.contents in
    IfOk-weaker c.abort.result _ _
    (λ x is. subst (λ (v : CoreView _ _). (t : Tree) → StandsFor (told v.opening) t → LeavesAllElse (state_from m t v) (last m (start t h.number h.limit) c.abort.new.parts.book.items) c.args.session) c.self.view_is
    (core_aborts g.C.TreeCall.is_valid m told g.B.NodeRead.count h.opening.value h.number h.limit h.parts c.args.session c.abort.new.parts c.self.invariant.core is)) c.abort.ensures.ok
