use Rattle.xtc.proofs.OnTreeLaws.{query_on_tree}
use Rattle.xtc.proofs.laws.query_is_find.Goals as goal

pub returns : goal.returns
returns c = λ t n limit name path. query_on_tree t n limit name path
