use Rattle.std.proofs.Common.{[]}
use Rattle.path_model.specs.Finds.{find}
use Rattle.path_model.specs.Programs.{looked}
use Rattle.xpath_plans.specs.OnceNoted.{once}
use Rattle.xpath_plans.proofs.ReadsAlone.{looks_write_nothing}
use Rattle.xpath_plans.proofs.FindLaws.{find_rows, find_reply, find_next}
use Rattle.xpath_plans.proofs.laws.paths_keep_the_laws.Goals as goal

pub returns-clause-rows : goal.returns-clause-rows
returns-clause-rows c = λ l p t i w. find_rows l p t i w

pub returns-clause-same_reply : goal.returns-clause-same_reply
returns-clause-same_reply c = λ l p t u i w v agree. find_reply l p t u i w v agree

pub returns-clause-same_next : goal.returns-clause-same_next
returns-clause-same_next c = λ l p t u k i w v agree. find_next l p t u k i w v agree

pub returns-clause-writes_nothing : goal.returns-clause-writes_nothing
returns-clause-writes_nothing c = λ l p t x. looks_write_nothing (once [] (looked t (find l p))) x
