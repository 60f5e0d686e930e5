use Rattle.std.proofs.Common.{◌++◌, subst}
use Rattle.tree_model.proofs.Lists.{all_append}
use Rattle.node_seq.specs.ChangeLists.{IsChangeList}
use Rattle.overlays.specs.Layered.{Layered}
use Rattle.overlays.proofs.Laying.{list_joint}
use Rattle.overlays.proofs.layers.Layers.is_list.Goals as goal

pub returns : goal.returns
returns c =
    let older = c.self.inside.older.items in
    let pushed = c.self.inside.pushed.items in
    record { list = subst (λ (l : Layered). IsChangeList l.changes) c.self.view_is (list_joint (older ++ pushed) (all_append IsChangeList older pushed c.self.invariant.0 c.self.invariant.1)) }
