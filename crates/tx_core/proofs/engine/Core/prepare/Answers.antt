use Rattle.std.proofs.Common.{ap, ◌∙◌}
use Rattle.call_contract.specs.Sessions.{live_in}
use Rattle.tx_core.specs.Cores.{CoreView}
use Rattle.tx_core.specs.Refusals.{refused_call}
use Rattle.tx_core.specs.declared.parts.Parts.{Parts}
use Rattle.tx_core.specs.Drains.{Undrained}
use Rattle.tx_core.specs.inside.Kept.{undrained_of}
use Rattle.tx_core.proofs.Counted.{same_count}
use Rattle.tx_core.proofs.Drained.{bodies_roomy, prepared_room, same_undrained}
use Rattle.tx_core.proofs.Kept.{core_still}
use Rattle.tx_core.proofs.CommitsKept.{prepared_kept, prepared_seated}
use Rattle.tx_core.proofs.PassedOn.{kept_passed}
use Rattle.tx_core.proofs.Told.{number_fits, seat_refused}
use Rattle.std.proofs.Common.{Some, ap₂}
use Rattle.std.proofs.lemmas.Result.{on_err_weaker}
use Rattle.overlays.specs.Views.{contents_after}
use Rattle.tx_core.proofs.Kept.{as_ok, shown, shown_kept, shown_prepared}
use Rattle.tx_core.proofs.engine.Core.prepare.Goals as goal

pub prepare-requires : goal.prepare-requires
prepare-requires g c = λ ready. number_fits c.self.inside.parts c.args.session c.self.invariant.core.seated ready

pub invariant_of-self : goal.invariant_of-self
invariant_of-self g c =
    record {
      core =
          let p = c.self.inside.parts in
          let q = c.prepare.new.parts in
          let same = c.prepare.ensures.same in
          core_still g.C.TreeCall.is_valid g.C.TreeCall.meaning g.B.NodeRead.contents g.B.NodeRead.count c.self.inside.opening.value c.self.inside.number c.self.inside.limit p q c.self.invariant.core
          (ap (λ (x : Parts _ _). x.book.items) same) (same_count g.B.NodeRead.count c.self.inside.opening.value p q (ap (λ (x : Parts _ _). x.base) same)) c.prepare.ensures.state
          (prepared_seated p q same c.prepare.ensures.places c.self.invariant.core.seated
          (prepared_kept p q c.args.session c.prepare.result c.self.invariant.core.seated.prepared c.prepare.ensures.places c.prepare.ensures.prepared c.prepare.ensures.ready c.prepare.ensures.spare c.prepare.ensures.err));
      passed = kept_passed g.B.NodeRead.contents c.self.inside.parts c.prepare.new.parts c.prepare.ensures.places (ap (λ (x : Parts _ _). x.passed) c.prepare.ensures.same) (ap₂ contents_after c.prepare.ensures.layers (ap g.B.NodeRead.contents (ap (λ (x : Parts _ _). x.base) c.prepare.ensures.same))) c.self.invariant.passed;
      bodies =
          let h = c.self.inside in
          let q = c.prepare.new.parts in
          let d = c.prepare.new.bodies in
          let kept = c.prepare.ensures.kept in
          bodies_roomy h.number h.parts.book.items q.book.items h.parts.prepared q.prepared h.bodies d (ap (λ (x : Parts _ _). x.book.items) c.prepare.ensures.same) kept.0 kept.1
          (prepared_room _ h.bodies d h.parts.prepared q.prepared c.prepare.result kept.0 kept.2 c.prepare.ensures.bodies c.prepare.ensures.err c.self.invariant.bodies.room)
          c.self.invariant.bodies;
    }

pub returns-clause-refused : goal.returns-clause-refused
returns-clause-refused g c =
    c.prepare.ensures.refused ∙ seat_refused c.self.inside.parts c.args.session c.self.invariant.core.seated ∙ ap (λ (v : CoreView _ _). refused_call (live_in v.book c.args.session)) c.self.view_is

pub returns-clause-ok : goal.returns-clause-ok
returns-clause-ok g c =
    let h = c.self.inside in
    let p = h.parts in
    let q = c.prepare.new.parts in
    let same = c.prepare.ensures.same in
    let base = ap (λ (x : Parts _ _). x.base) same in
    as_ok c.prepare.result
    (λ is _. ap (λ (u : Undrained). shown g.B.NodeRead.contents h.opening.value h.number h.limit u q) (same_undrained h.bodies c.prepare.new.bodies c.prepare.ensures.kept.0 c.prepare.ensures.kept.1)
    ∙ shown_prepared g.C.TreeCall.is_valid g.C.TreeCall.meaning g.B.NodeRead.contents h.opening.value h.number h.limit (undrained_of h.bodies) p q (Some c.args.session) _ c.self.view_is (ap (λ (x : Parts _ _). x.book.items) same) is
    (ap₂ contents_after c.prepare.ensures.layers (ap g.B.NodeRead.contents base)) base) c.prepare.ensures.prepared

pub returns-clause-err : goal.returns-clause-err
returns-clause-err g c =
    let h = c.self.inside in
    let p = h.parts in
    let q = c.prepare.new.parts in
    let same = c.prepare.ensures.same in
    let base = ap (λ (x : Parts _ _). x.base) same in
    on_err_weaker c.prepare.result
    (λ is. ap (λ (u : Undrained). shown g.B.NodeRead.contents h.opening.value h.number h.limit u q) (same_undrained h.bodies c.prepare.new.bodies c.prepare.ensures.kept.0 c.prepare.ensures.kept.1)
    ∙ shown_kept g.C.TreeCall.is_valid g.C.TreeCall.meaning g.B.NodeRead.contents h.opening.value h.number h.limit (undrained_of h.bodies) p q _ c.self.view_is (ap (λ (x : Parts _ _). x.book.items) same) is.0
    (ap₂ contents_after c.prepare.ensures.layers (ap g.B.NodeRead.contents base)) base) c.prepare.ensures.err
