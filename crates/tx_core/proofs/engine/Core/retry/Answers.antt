use Rattle.std.proofs.Common.{Err}
use Rattle.std.proofs.Common.{◌≡◌, Option, IsSome, OnOk, refl, sym, ap, ◌∙◌, subst}
use Rattle.std.proofs.lemmas.Result.{IfErr-weaker, IfOk-weaker}
use Rattle.call_contract.specs.Sessions.{live_in}
use Rattle.tx_core.specs.Cores.{CoreView, waits_in, count_told}
use Rattle.tx_core.specs.inside.Kept.{undrained_of}
use Rattle.tx_core.specs.inside.Retrying.{failed_retry}
use Rattle.tx_core.proofs.Drained.{bodies_again, bodies_entry}
use Rattle.tx_core.proofs.Kept.{of_each}
use Rattle.tx_core.proofs.KeptAgain.{core_retries, core_retry_fails, core_waits, has_failed, has_retried}
use Rattle.call_contract.specs.declared.events.Event.TheVariants as event
use Rattle.tree_model.specs.Tree.{Tree}
use Rattle.node_seq.specs.Trees.{StandsFor}
use Rattle.tx_core.specs.Cores.{state_from}
use Rattle.tx_core.specs.Truths.{ShowsCycle}
use Rattle.tx_core.proofs.Kept.{same_committed, shown}
use Rattle.tx_core.proofs.StillBarred.{barred_still, on_ok}
use Rattle.tx_core.specs.Retries.{IsStillBarred}
use Rattle.tx_core.specs.declared.parts.Parts.{Parts}
use Rattle.call_contract.specs.Books.{last}
use Rattle.call_contract.specs.States.{start}
use Rattle.tx_core.proofs.Truths.{core_closes_again}
use Rattle.tx_core.proofs.engine.Core.retry.Goals as goal

pub retry-requires-clause-seated : goal.retry-requires-clause-seated
retry-requires-clause-seated g c = c.self.invariant.core.seated

pub retry-requires-clause-passed : goal.retry-requires-clause-passed
retry-requires-clause-passed g c = c.self.invariant.passed

pub retry-requires-clause-waits : goal.retry-requires-clause-waits
retry-requires-clause-waits g c =
    let h = c.self.inside in
    let at = core_waits g.C.TreeCall.is_valid g.C.TreeCall.meaning g.B.NodeRead.contents g.B.NodeRead.count h.opening.value h.number h.limit h.parts c.args.session c.self.invariant.core (ap (λ (x : CoreView _ _). waits_in (live_in x.book c.args.session)) c.self.view_is ∙ c.requires) in
    subst (λ (o : Option _). IsSome o) (sym at.1) refl

pub invariant_of-self : goal.invariant_of-self
invariant_of-self g c =
    record {
      core =
          let h = c.self.inside in
          let at = core_waits g.C.TreeCall.is_valid g.C.TreeCall.meaning g.B.NodeRead.contents g.B.NodeRead.count h.opening.value h.number h.limit h.parts c.args.session c.self.invariant.core (ap (λ (x : CoreView _ _). waits_in (live_in x.book c.args.session)) c.self.view_is ∙ c.requires) in
          let cause = c.retry.ensures.cause in
          of_each c.retry.result c.retry.ensures.ok c.retry.ensures.err
          (λ a is. core_retries g.C.TreeCall.is_valid g.C.TreeCall.meaning g.B.NodeRead.contents g.B.NodeRead.count h.opening.value h.number h.limit h.parts c.args.session at.0 a c.retry.new.parts c.self.invariant.core at.2 (is at.0 at.1) c.retry.ensures.seated cause.later)
          (λ e met is. core_retry_fails g.C.TreeCall.is_valid g.C.TreeCall.meaning g.B.NodeRead.contents g.B.NodeRead.count h.opening.value h.number h.limit h.parts c.args.session at.0 (is at.0 at.1).0 e c.retry.new.parts c.self.invariant.core at.2 (is at.0 at.1).1 c.retry.ensures.seated cause.later (λ fault. cause.failed (met ∙ ap Err fault)));
      passed = c.retry.ensures.passed;
      bodies =
          let h = c.self.inside in
          let at = core_waits g.C.TreeCall.is_valid g.C.TreeCall.meaning g.B.NodeRead.contents g.B.NodeRead.count h.opening.value h.number h.limit h.parts c.args.session c.self.invariant.core (ap (λ (x : CoreView _ _). waits_in (live_in x.book c.args.session)) c.self.view_is ∙ c.requires) in
          let q = c.retry.new.parts in
          of_each c.retry.result c.retry.ensures.ok c.retry.ensures.err
          (λ a is. let again = is at.0 at.1 in bodies_again g.C.TreeCall.is_valid g.C.TreeCall.meaning g.B.NodeRead.contents g.B.NodeRead.count h.number h.parts q h.bodies c.args.session at.0 a again.noted again.moved c.self.invariant.bodies)
          (λ e met is. let failed = (is at.0 at.1).1 in bodies_entry h.number h.parts.book.items q.book.items h.parts.prepared q.prepared h.bodies _ failed.book failed.prepared refl c.self.invariant.bodies);
    }

pub returns-clause-ok : goal.returns-clause-ok
returns-clause-ok g c =
    let h = c.self.inside in
    let at = core_waits g.C.TreeCall.is_valid g.C.TreeCall.meaning g.B.NodeRead.contents g.B.NodeRead.count h.opening.value h.number h.limit h.parts c.args.session c.self.invariant.core (ap (λ (x : CoreView _ _). waits_in (live_in x.book c.args.session)) c.self.view_is ∙ c.requires) in
    IfOk-weaker c.retry.result _ _
    (λ a is. has_retried g.C.TreeCall.is_valid g.C.TreeCall.meaning g.B.NodeRead.contents g.B.NodeRead.count h.opening.value h.number h.limit (undrained_of h.bodies) h.parts c.args.session at.0 a c.retry.new.parts _ _ (sym c.self.view_is) refl
    (same_committed g.C.TreeCall.is_valid g.C.TreeCall.meaning g.B.NodeRead.contents h.parts c.retry.new.parts c.retry.ensures.seated.layers (g.met.B.NodeRead.unchanged_contents _ _ c.retry.ensures.unchanged)) c.self.invariant.core at.2 (is at.0 at.1)) c.retry.ensures.ok

pub returns-clause-err : goal.returns-clause-err
returns-clause-err g c =
    let h = c.self.inside in
    let q = c.retry.new.parts in
    let at = core_waits g.C.TreeCall.is_valid g.C.TreeCall.meaning g.B.NodeRead.contents g.B.NodeRead.count h.opening.value h.number h.limit h.parts c.args.session c.self.invariant.core (ap (λ (x : CoreView _ _). waits_in (live_in x.book c.args.session)) c.self.view_is ∙ c.requires) in
    IfErr-weaker c.retry.result _ _
    (λ e is.
    let failed = is at.0 at.1 in (
      failed.0,
      has_failed g.C.TreeCall.is_valid g.C.TreeCall.meaning g.B.NodeRead.contents h.opening.value h.number h.limit (undrained_of h.bodies) h.parts c.args.session at.0 (failed_retry c.args.session failed.0 (count_told e (g.B.NodeRead.count q.base))) q _ _ (sym c.self.view_is) refl
          (same_committed g.C.TreeCall.is_valid g.C.TreeCall.meaning g.B.NodeRead.contents h.parts c.retry.new.parts c.retry.ensures.seated.layers (g.met.B.NodeRead.unchanged_contents _ _ c.retry.ensures.unchanged)) failed.1,
    ))
    c.retry.ensures.err

pub returns-clause-deadlock : goal.returns-clause-deadlock
returns-clause-deadlock g c =
    let h = c.self.inside in
    let m = g.C.TreeCall.meaning in
    let told = g.B.NodeRead.contents in
    let at = core_waits g.C.TreeCall.is_valid g.C.TreeCall.meaning g.B.NodeRead.contents g.B.NodeRead.count h.opening.value h.number h.limit h.parts c.args.session c.self.invariant.core (ap (λ (x : CoreView _ _). waits_in (live_in x.book c.args.session)) c.self.view_is ∙ c.requires) in
    subst (λ (v : CoreView _ _). (t : Tree) → StandsFor (told v.opening) t → ShowsCycle m (state_from m t v) (last m (start t h.number h.limit) c.retry.new.parts.book.items) c.args.session event.Retry c.retry.result) c.self.view_is
    (core_closes_again g.C.TreeCall.is_valid m told g.B.NodeRead.count h.opening.value h.number h.limit h.parts c.args.session at.0 c.retry.new.parts c.retry.result c.self.invariant.core at.2
    (IfOk-weaker c.retry.result _ _ (λ a is. is at.0 at.1) c.retry.ensures.ok))

pub returns-clause-barred : goal.returns-clause-barred
returns-clause-barred g c =
    let h = c.self.inside in
    let m = g.C.TreeCall.meaning in
    let told = g.B.NodeRead.contents in
    let view : Parts g.row.C.Denot g.row.B.Denot → CoreView g.row.C.Denot g.row.B.Denot = shown told h.opening.value h.number h.limit (undrained_of h.bodies) in
    subst (λ (v : CoreView g.row.C.Denot g.row.B.Denot). (t : Tree) → StandsFor (told v.opening) t → IsStillBarred (state_from m t v) c.args.session → OnOk c.retry.result (view c.retry.new.parts ≡ v)) c.self.view_is
    (λ t opens is. on_ok c.retry.result (λ same. ap view same)
    (c.retry.ensures.barred (barred_still g.C.TreeCall.is_valid m told h.parts (last m (start t h.number h.limit) h.parts.book.items) c.args.session (c.self.invariant.core.run t opens).stands is)))
