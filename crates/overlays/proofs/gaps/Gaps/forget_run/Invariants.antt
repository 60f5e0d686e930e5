use Rattle.std.proofs.Common.{take}
use Rattle.std.specs.List.{AllByRecursion}
use Rattle.overlays.specs.Stretches.{AreWithin, IsOut}
use Rattle.overlays.proofs.gaps.Gaps.forget_run.Given as goal

abbrev pub invariant-loop-change : goal.invariant-loop-change
invariant-loop-change l = record {
  within : AreWithin l.self l.fn.self;
  out : AllByRecursion (IsOut l.self) (take l.change-index l.change-items);
}
