use Rattle.std.proofs.Common.{◌≡◌, ◌++◌}
use Rattle.std.specs.List.{AllByRecursion}
use Rattle.lock_resources.specs.Resources.{Fits}
use Rattle.xpath_plans.specs.LookRequests.{requests_of}
use Rattle.xpath_plans.specs.inside.NotedLooks.{looks_of}
use Rattle.xpath_plans.proofs.look_plan.ask_all.Given as goal

abbrev pub invariant-loop-look : goal.invariant-loop-look
invariant-loop-look l = record {
  put : l.out ≡ l.initial.out ++ requests_of (looks_of l.yielded);
  fit : AllByRecursion Fits l.initial.out → AllByRecursion Fits l.out;
}
