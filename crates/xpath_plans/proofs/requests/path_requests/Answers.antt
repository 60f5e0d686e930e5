use Rattle.std.proofs.Common.{Some, ap, ◌∙◌}
use Rattle.path_model.specs.PlainPaths.{plain_path}
use Rattle.path_model.proofs.PathLaws.{find_answers}
use Rattle.xpath_plans.proofs.requests.path_requests.Goals as goal

pub returns-clause-reply : goal.returns-clause-reply
returns-clause-reply g c = λ t stands. ap Some (c.in_ok-found.ensures.reply t stands ∙ find_answers t c.args.at.now (plain_path c.args.path.now) stands.valid)
