use Rattle.xtc.proofs.OnTreeLaws.{get_on_tree}
use Rattle.xtc.proofs.laws.get_is_dump.Goals as goal

pub returns : goal.returns
returns c = λ t n limit name. get_on_tree t n limit name
