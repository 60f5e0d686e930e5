use Rattle.std.proofs.Common.{◌++◌, append_assoc, sym, ap, subst, ◌∙◌}
use Rattle.std.specs.List.{AllByRecursion}
use Rattle.lock_resources.specs.Intentions.{with_intentions}
use Rattle.lock_resources.specs.Resources.{Fits}
use Rattle.path_model.proofs.Members.{all_joined}
use Rattle.xpath_plans.specs.LookRequests.{mode_of, requests_of, resource_of}
use Rattle.xpath_plans.specs.inside.NotedLooks.{look_of, looks_of}
use Rattle.xpath_plans.proofs.NotedLooks.{requests_more}
use Rattle.xpath_plans.proofs.look_plan.ask_all.Goals as goal

pub loop-look-preserved : goal.loop-look-preserved
loop-look-preserved c =
    let inv = c.loop-look.invariant in
    let asked = c.in_ok-with_intentions.ensures in
    let k = c.in-Some.look in
    let so_far = requests_of (looks_of c.loop-look.yielded) in
    let own = with_intentions (resource_of (look_of k)) (mode_of (look_of k)) in
    record {
      put = asked.ok ∙ (λ i. inv.put i ++ with_intentions (c.resource.ensures i) (c.ask-ask.ensures i))
          ∙ append_assoc c.args.out.now so_far own ∙ ap (λ gs. c.args.out.now ++ gs) (sym (requests_more c.loop-look.yielded k));
      fit = λ fits. subst (AllByRecursion Fits) (sym asked.ok) (all_joined Fits c.loop-look.out _ (inv.fit fits) asked.fits);
    }
