use Rattle.std.proofs.Common.{◌≡◌, ◌≤◌, ◌-◌, suc, [], ◌∷◌, ◌++◌, Some, sym, ap, subst, ◌∙◌, arith, append-nil}
use Rattle.dewey_labels.specs.Labels.{cut}
use Rattle.dewey_labels.specs.Sides.{child_toward}
use Rattle.dewey_labels.specs.Ancestors.{cuts}
use Rattle.lock_resources.specs.inside.Gained.{GainedAllBut, GoesOn}
use Rattle.lock_resources.specs.Intentions.{on_each, on_ancestors, on_node}
use Rattle.dewey_labels.proofs.Ancestors.{cut_all, next_is, arrived}
use Rattle.lock_resources.proofs.Ways.{one_more, last_one, nothing_added, goes_on, goes_on_by, on_err, on_ok_then, on_err_then}
use Rattle.lock_resources.proofs.intentions.push_ancestors.Goals as goal

pub loop-levels-init : goal.loop-levels-init
loop-levels-init c =
    let l = c.args.label.now in
    let all = c.level-levels.ensures in
    let out = c.args.out.now in
    let whole = on_ancestors c.args.above c.args.parent l in
    record {
      some = omega (arith, c.if-levels-eq0.false);
      within = omega arith;
      here = c.in_ok-at.ensures ∙ sym (cut_all l c.divisions-divisions.ensures.label.0) ∙ ap (λ n. cut n l) (sym all);
      added = subst (λ n. GainedAllBut out out whole (on_each c.args.above c.args.parent (cuts n l))) (sym all) (nothing_added out whole);
    }

-- above the parent there is a next label
pub unreachable-requires : goal.unreachable-requires
unreachable-requires c =
    let l = c.args.label.now in
    let at = c.loop-levels.invariant in
    let none = arrived c.loop-levels.levels l c.divisions-divisions.ensures.label.0 at.within (ap (λ v. child_toward v l) (sym at.here) ∙ sym c.in_ok-next.ensures.toward ∙ c.in_default.is) in
    omega (arith, none, at.some)

pub loop-levels-preserved : goal.loop-levels-preserved
loop-levels-preserved c =
    let l = c.args.label.now in
    let n = c.loop-levels.levels in
    let at = c.loop-levels.invariant in
    let old = c.args.out.now in
    let out = c.loop-levels.out in
    let whole = on_ancestors c.args.above c.args.parent l in
    let some : 1 ≤ n - 1 = omega (arith, c.loop-levels-test.true) in
    let up : n ≡ suc (n - 1) = omega (arith, at.some) in
    let next : child_toward (cut n l) l ≡ Some c.in-Some.next = ap (λ v. child_toward v l) (sym at.here) ∙ sym c.in_ok-next.ensures.toward ∙ c.in-Some.is in
    let added : GainedAllBut old out whole (on_each c.args.above c.args.parent (cuts (suc (n - 1)) l)) =
    subst (λ k. GainedAllBut old out whole (on_each c.args.above c.args.parent (cuts k l))) up at.added in
    let new : c.push_node.new.out ≡ out ++ on_node (cut (suc (n - 1)) l) c.args.above ∷ [] =
    c.in_ok-push_node.ensures.ok ∙ ap (λ v. out ++ on_node v c.args.above ∷ []) (at.here ∙ ap (λ k. cut k l) up) in
    record {
      some = some;
      within = omega (arith, at.within);
      here = next_is n l c.in-Some.next c.divisions-divisions.ensures.label.0 at.within next;
      added = one_more c.args.above c.args.parent (n - 1) l old out c.push_node.new.out whole some added new;
    }

-- the root has no ancestors
pub returns-then-levels-eq0-clause-ok : goal.returns-then-levels-eq0-clause-ok
returns-then-levels-eq0-clause-ok c =
    let l = c.args.label.now in
    sym (append-nil c.args.out.now) ∙ ap (λ n. c.args.out.now ++ on_each c.args.above c.args.parent (cuts n l)) (sym c.if-levels-eq0.true ∙ c.level-levels.ensures)

-- at the end the parent's is added
pub returns-clause-ok : goal.returns-clause-ok
returns-clause-ok c =
    let l = c.args.label.now in
    let at = c.loop-levels.invariant in
    let old = c.args.out.now in
    let out = c.loop-levels.out in
    let new = c.push_node-2.new.out in
    let whole = on_ancestors c.args.above c.args.parent l in
    let one : c.loop-levels.levels ≡ 1 = omega (arith, at.some, c.loop-levels-test.false) in
    let added : GainedAllBut old out whole (on_each c.args.above c.args.parent (cuts 1 l)) =
    subst (λ k. GainedAllBut old out whole (on_each c.args.above c.args.parent (cuts k l))) one at.added in
    on_ok_then c.push_node-2.result (new ≡ out ++ on_node c.loop-levels.at c.args.parent ∷ []) (new ≡ old ++ whole)
    (λ e. last_one c.args.above c.args.parent l old out new whole added (e ∙ ap (λ v. out ++ on_node v c.args.parent ∷ []) (at.here ∙ ap (λ k. cut k l) one)))
    c.push_node-2.ensures.ok

pub returns-in_err-at-clause-err : goal.returns-in_err-at-clause-err
returns-in_err-at-clause-err c = on_err _ _ (goes_on _ _ _ _ (nothing_added c.args.out.now []))

pub returns-in_err-next-clause-err : goal.returns-in_err-next-clause-err
returns-in_err-next-clause-err c = on_err _ _ (goes_on _ _ _ _ c.loop-levels.invariant.added)

pub returns-in_err-push_node-clause-err : goal.returns-in_err-push_node-clause-err
returns-in_err-push_node-clause-err c =
    on_err _ _ (subst (GoesOn c.args.out.now) (sym c.in_err-push_node.ensures.err) (goes_on _ _ _ _ c.loop-levels.invariant.added))

pub returns-clause-err : goal.returns-clause-err
returns-clause-err c =
    let at = c.loop-levels.invariant in
    on_err_then c.push_node-2.result (c.push_node-2.new.out ≡ c.loop-levels.out) (GoesOn c.args.out.now c.push_node-2.new.out)
    (λ e. goes_on_by _ _ _ (e ∙ at.added.gained))
    c.push_node-2.ensures.err
