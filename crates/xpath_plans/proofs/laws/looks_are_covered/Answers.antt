use Rattle.std.proofs.Common.{[]}
use Rattle.path_model.specs.Finds.{find}
use Rattle.path_model.specs.Programs.{looked}
use Rattle.xpath_plans.specs.OnceNoted.{once}
use Rattle.xpath_plans.proofs.Covered.{looks_covered}
use Rattle.xpath_plans.proofs.OnceNoted.{once_looks}
use Rattle.xpath_plans.proofs.laws.looks_are_covered.Goals as goal

pub returns-clause-of_finds : goal.returns-clause-of_finds
returns-clause-of_finds c = λ l p t x e. looks_covered (once [] (looked t (find l p))) x (once_looks (looked t (find l p)) x e)
