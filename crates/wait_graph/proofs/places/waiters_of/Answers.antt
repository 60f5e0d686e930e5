use Rattle.std.proofs.Common.{◌≡◌, [], ◌∷◌, ◌++◌, sym, subst, ap, ◌∙◌}
use Rattle.std.specs.Map.Iter.{deref_pair}
use Rattle.std.proofs.lemmas.Map.Iter.{rest_all}
use Rattle.wait_graph.specs.Graphs.{waits, waits_for}
use Rattle.wait_graph.specs.inside.Waiters.{IsWaiter}
use Rattle.wait_graph.specs.inside.Search.{owners_of, AreOf}
use Rattle.wait_graph.specs.inside.Waiters.{kept}
use Rattle.wait_graph.proofs.Gathered.{of_more, kept_one, gathered}
use Rattle.wait_graph.proofs.places.waiters_of.Goals as goal

pub returns-clause-owners : goal.returns-clause-owners
returns-clause-owners c =
    let none : c.loop-owner.owner-iterator ≡ [] = rest_all deref_pair _ c.next.new.self c.next.result c.in-None.is c.next.ensures.steps in
    gathered c.args.places.now.entries c.args.end c.loop-owner.waiters c.loop-owner.owner-iterator none c.loop-owner.invariant.1 c.iter-owner-items.ensures.ordered

pub loop-owner-preserved-in-Continue-branch-3 : goal.loop-owner-preserved-in-Continue-branch-3
loop-owner-preserved-in-Continue-branch-3 c =
    let g = c.args.places.now.entries in
    let w = subst (IsWaiter g c.args.table.now c.args.end c.in-Some.owner.now) c.in-Some-2.is c.in_ok-waiter.ensures in
    let R = waits_for (waits g) c.args.table.now in
    let step : c.loop-owner.owner-iterator ≡ (c.in-Some.owner.now, c.in-Some.field-0-1.now) ∷ c.next.new.self = c.in-Some.ensures.steps in (
      subst (AreOf R) (sym c.in_ok-push.ensures.ok) (of_more R c.loop-owner.waiters c.in-Some-2.waiter c.loop-owner.invariant.0 (λ v. w.2 v ∙ ap (λ u. R u v) (sym w.1))),
      ap (λ ys. owners_of ys ++ kept g c.args.end c.next.new.self) c.in_ok-push.ensures.ok
          ∙ kept_one g c.args.end c.loop-owner.waiters c.in-Some-2.waiter (c.in-Some.owner.now, c.in-Some.field-0-1.now) c.next.new.self (kept g c.args.end g)
          (ap (λ ps. owners_of c.loop-owner.waiters ++ kept g c.args.end ps) (sym step) ∙ c.loop-owner.invariant.1) w.0 w.1,
    )
