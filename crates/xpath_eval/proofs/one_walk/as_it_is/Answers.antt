use Rattle.std.proofs.Common.{sym, subst}
use Rattle.path_model.specs.PlainPaths.{plain_path}
use Rattle.xpath_eval.specs.inside.Walks.{FindsTheSame}
use Rattle.xpath_eval.proofs.WalkedPaths.{finds_itself}
use Rattle.xpath_eval.proofs.one_walk.as_it_is.Goals as goal

pub returns : goal.returns
returns c = subst (λ z. FindsTheSame (plain_path c.args.path.now) (plain_path z)) (sym c.in_ok-copy.ensures) (finds_itself (plain_path c.args.path.now))
