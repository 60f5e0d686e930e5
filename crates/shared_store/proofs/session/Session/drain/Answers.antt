use Rattle.std.proofs.Common.{◌≡◌, ℕ, refl, sym, ap, subst, ◌∙◌}
use Rattle.turn_lock.specs.Turns.{has_number, PassView}
use Rattle.shared_store.specs.Bodies.{HaveLastBodies}
use Rattle.shared_store.specs.Calls.{HasDrained}
use Rattle.shared_store.specs.Lists.{book_of, OpensFrom}
use Rattle.shared_store.specs.Sessions.{SessionView}
use Rattle.shared_store.proofs.Done.{done, grew_at, session_stays}
use Rattle.shared_store.proofs.session.Session.drain.Goals as goal

pub give-requires-clause-grew : goal.give-requires-clause-grew
give-requires-clause-grew g c = grew_at c.self.inside.pass c.take-turn.new.pass 0 _ _ c.take-turn.ensures.pass (ap (λ (p : SessionView _ _). has_number p.has 0) c.self.view_is ∙ c.requires.number) c.drain-result.ensures.under

pub invariant_of-self : goal.invariant_of-self
invariant_of-self g c = session_stays c.self.inside.pass c.take-turn.new.pass c.give.new.pass c.self.inside.number _ _ c.self.invariant c.take-turn.ensures.pass c.give.ensures.pass refl c.is_legal.ensures

pub returns-clause-done : goal.returns-clause-done
returns-clause-done g c =
    done (λ (s : ℕ). λ before after. HasDrained before c.drain-result.result after) c.args.self.now c.self.inside.pass c.take-turn.new.pass c.give.new.pass c.self.inside.number _ _ c.self.view_is c.take-turn.ensures.pass c.take-turn.ensures.goes_on c.give.ensures.pass
    c.drain-result.ensures.told

pub returns-clause-bodies : goal.returns-clause-bodies
returns-clause-bodies g c t opens =
    let seen : c.give.new.pass.seen ≡ _ = ap (λ (p : PassView _). p.seen) c.give.ensures.pass in
    subst (λ es. HaveLastBodies g.C.TreeCall.meaning t (book_of es) c.drain-result.result) (sym seen) (c.drain-result.ensures.bodies t (subst (λ es. OpensFrom g.B.NodeRead.contents es t) seen opens))
