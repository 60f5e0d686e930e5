use Rattle.std.proofs.Common.{Err}
use Rattle.std.proofs.Common.{refl, sym, ap, ◌∙◌}
use Rattle.std.proofs.lemmas.Result.{IfErr-weaker}
use Rattle.tx_core.specs.inside.Goes.{call_entry}
use Rattle.tx_core.specs.inside.Kept.{undrained_of}
use Rattle.tx_core.proofs.Drained.{bodies_entry, bodies_unanswered}
use Rattle.tx_core.proofs.Kept.{core_goes, core_unanswered, left_by, of_each}
use Rattle.std.proofs.Common.{subst}
use Rattle.std.proofs.lemmas.Result.{IfOk-weaker}
use Rattle.call_contract.specs.declared.events.Event.TheVariants as event
use Rattle.tree_model.specs.Tree.{Tree}
use Rattle.node_seq.specs.Trees.{StandsFor}
use Rattle.tx_core.specs.Cores.{CoreView, state_from}
use Rattle.tx_core.specs.Truths.{ShowsCycle}
use Rattle.tx_core.proofs.Kept.{shown_over, same_committed}
use Rattle.call_contract.specs.Books.{last}
use Rattle.call_contract.specs.States.{start}
use Rattle.tx_core.proofs.Truths.{core_closes}
use Rattle.tx_core.proofs.engine.Core.attempt.Goals as goal

pub invariant_of-self : goal.invariant_of-self
invariant_of-self g c =
    record {
      core =
          let v = g.C.TreeCall.is_valid in
          let m = g.C.TreeCall.meaning in
          let told = g.B.NodeRead.contents in
          let count = g.B.NodeRead.count in
          let h = c.self.inside in
          let q = c.attempt.new.parts in
          let cause = c.attempt.ensures.cause in
          of_each c.attempt.result c.attempt.ensures.ok c.attempt.ensures.err
          (λ a is. core_goes v m told count h.opening.value h.number h.limit h.parts (call_entry c.args.session c.args.call a) q c.self.invariant.core is c.attempt.ensures.seated cause.later)
          (λ e at is. core_unanswered v m told count h.opening.value h.number h.limit h.parts c.args.session c.args.call e q c.self.invariant.core is c.attempt.ensures.seated cause.later (λ fault. cause.failed (at ∙ ap Err fault)));
      passed = c.attempt.ensures.passed;
      bodies =
          let h = c.self.inside in
          let q = c.attempt.new.parts in
          of_each c.attempt.result c.attempt.ensures.ok c.attempt.ensures.err
          (λ a is. bodies_entry h.number h.parts.book.items q.book.items h.parts.prepared q.prepared h.bodies _ is.book is.prepared refl c.self.invariant.bodies)
          (λ e at is. bodies_unanswered g.C.TreeCall.is_valid g.C.TreeCall.meaning g.B.NodeRead.contents g.B.NodeRead.count h.number h.parts q h.bodies c.args.session c.args.call e is c.self.invariant.bodies);
    }

pub returns-clause-err : goal.returns-clause-err
returns-clause-err g c =
    let h = c.self.inside in
    IfErr-weaker c.attempt.result _ _
    (λ e is. left_by g.C.TreeCall.is_valid g.C.TreeCall.meaning g.B.NodeRead.contents g.B.NodeRead.count h.opening.value h.number h.limit (undrained_of h.bodies) h.parts c.args.session c.args.call e c.attempt.new.parts _ _ (sym c.self.view_is) refl
    (same_committed g.C.TreeCall.is_valid g.C.TreeCall.meaning g.B.NodeRead.contents h.parts c.attempt.new.parts c.attempt.ensures.seated.layers (g.met.B.NodeRead.unchanged_contents _ _ c.attempt.ensures.unchanged)) is)
    c.attempt.ensures.err

pub returns-clause-ok : goal.returns-clause-ok
returns-clause-ok g c =
    let h = c.self.inside in
    IfOk-weaker c.attempt.result _ _
    (λ a is. shown_over g.C.TreeCall.is_valid g.C.TreeCall.meaning g.B.NodeRead.contents h.opening.value h.number h.limit (undrained_of h.bodies) h.parts c.attempt.new.parts (call_entry c.args.session c.args.call a) _ c.self.view_is is.book is.prepared c.attempt.ensures.seated.layers
    (g.met.B.NodeRead.unchanged_contents _ _ c.attempt.ensures.unchanged)) c.attempt.ensures.ok

pub returns-clause-deadlock : goal.returns-clause-deadlock
returns-clause-deadlock g c =
    let h = c.self.inside in
    let m = g.C.TreeCall.meaning in
    let told = g.B.NodeRead.contents in
    subst (λ (v : CoreView _ _). (t : Tree) → StandsFor (told v.opening) t → ShowsCycle m (state_from m t v) (last m (start t h.number h.limit) c.attempt.new.parts.book.items) c.args.session (event.Call c.args.call) c.attempt.result) c.self.view_is
    (core_closes g.C.TreeCall.is_valid m told g.B.NodeRead.count h.opening.value h.number h.limit h.parts c.args.session c.args.call c.attempt.new.parts c.attempt.result c.self.invariant.core c.attempt.ensures.ok)
