use Rattle.std.proofs.Common.{◌≡◌, ℕ, ◌+◌, List, None, length, refl, sym, ap, subst, ◌∙◌, le_refl}
use Rattle.node_records.specs.Pending.{FollowOn}
use Rattle.node_records.specs.declared.pending.Pending.{Pending}
use Rattle.call_contract.specs.Sessions.{commits_in}
use Rattle.tx_core.specs.Cores.{CoreView, drained}
use Rattle.tx_core.specs.Drains.{Undrained}
use Rattle.tx_core.proofs.Drained.{bodies_out}
use Rattle.tx_core.proofs.Kept.{core_still, shown}
use Rattle.tx_core.proofs.Reached.{stands_same}
use Rattle.tx_core.proofs.Told.{layered_seated, none_prepared}
use Rattle.tx_core.proofs.engine.Core.drain.Goals as goal

pub invariant_of-self : goal.invariant_of-self
invariant_of-self g c =
    let h = c.self.inside in
    let p = h.parts in
    let q = record p { prepared = None } in
    let core = c.self.invariant.core in
    let last : p.number ≡ h.number + commits_in p.book.items = core.seated.number ∙ ap (λ (k : ℕ). k + commits_in p.book.items) core.opened in
    record {
      core =
          core_still g.C.TreeCall.is_valid g.C.TreeCall.meaning g.B.NodeRead.contents g.B.NodeRead.count h.opening.value h.number h.limit p q core refl (le_refl _)
          (stands_same g.C.TreeCall.is_valid g.C.TreeCall.meaning g.B.NodeRead.contents p q (record { base = refl; layers = refl; opened = refl; limit = refl; number = refl }) refl refl (λ grants is. is) (λ o. refl) refl)
          (layered_seated p q p.base p.layers None core.seated refl (none_prepared q refl));
      passed = c.self.invariant.passed;
      bodies = bodies_out h.number p.number p.book.items None c.hand_out.new.self last refl c.hand_out.ensures.none_waits.0 c.hand_out.ensures.none_waits.1;
    }

pub returns-clause-waiting : goal.returns-clause-waiting
returns-clause-waiting g c = c.hand_out.ensures.all ∙ ap (λ (v : CoreView _ _). v.undrained.waiting) c.self.view_is

pub returns-clause-follow : goal.returns-clause-follow
returns-clause-follow g c =
    subst (λ (v : CoreView _ _). FollowOn v.undrained.after c.hand_out.result) c.self.view_is (subst (FollowOn c.self.inside.bodies.after) (sym c.hand_out.ensures.all) c.self.invariant.bodies.follow)

pub returns-clause-last : goal.returns-clause-last
returns-clause-last g c =
    subst (λ (v : CoreView _ _). v.undrained.after + length c.hand_out.result ≡ v.number + commits_in v.book) c.self.view_is
    (ap (λ (ps : List Pending). c.self.inside.bodies.after + length ps) c.hand_out.ensures.all ∙ c.self.invariant.bodies.last)

pub returns-clause-none_waits : goal.returns-clause-none_waits
returns-clause-none_waits g c =
    let h = c.self.inside in
    let core = c.self.invariant.core in
    let last : h.parts.number ≡ h.number + commits_in h.parts.book.items = core.seated.number ∙ ap (λ (k : ℕ). k + commits_in h.parts.book.items) core.opened in
    ap (λ (u : Undrained). shown g.B.NodeRead.contents h.opening.value h.number h.limit u (record h.parts { prepared = None })) (λ i. record { after = (c.hand_out.ensures.none_waits.1 ∙ last) i; waiting = c.hand_out.ensures.none_waits.0 i })
    ∙ ap (λ (v : CoreView _ _). drained v) c.self.view_is
