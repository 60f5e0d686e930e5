use Rattle.std.proofs.Common.{ap, ◌∙◌, arith}
use Rattle.tree_model.specs.Outcomes.{is_refused}
use Rattle.path_model.specs.PlainPaths.{plain_path}
use Rattle.xpath_eval.proofs.find.evaluate.Goals as goal

pub returns-clause-reply : goal.returns-clause-reply
returns-clause-reply g c = λ t stands.
    c.in_ok-found.ensures.reply t stands ∙ c.in_ok-walk.ensures.same t c.args.at.now stands.valid
    ∙ c.find_answers_a_set_or_not_found.ensures.answers t c.args.at.now (plain_path c.args.path.now) stands.valid

pub returns-clause-refused : goal.returns-clause-refused
returns-clause-refused g c = λ t stands.
    ap is_refused (c.in_ok-found.ensures.reply t stands ∙ c.in_ok-walk.ensures.same t c.args.at.now stands.valid)
    ∙ c.find_answers_a_set_or_not_found.ensures.refused_exactly t c.args.at.now (plain_path c.args.path.now)

pub returns-clause-reads : goal.returns-clause-reads
returns-clause-reads g c = λ t stands.
    let some = c.in_ok-found.ensures.reads t stands in
    let fewer = c.in_ok-walk.ensures.fewer t c.args.at.now stands.valid in
    omega (arith, some, fewer)
