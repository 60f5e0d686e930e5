use Rattle.xtc.proofs.OnTreeLaws.{put_on_tree}
use Rattle.xtc.proofs.laws.put_is_create.Goals as goal

pub returns : goal.returns
returns c = λ t n limit name element. put_on_tree t n limit name element
