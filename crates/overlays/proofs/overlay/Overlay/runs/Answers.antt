use Rattle.std.proofs.Common.{List, length, sym, subst, ap, ◌∙◌}
use Rattle.tree_model.specs.declared.change.Change.{Change}
use Rattle.node_seq.specs.ChangeLists.{IsChangeList}
use Rattle.overlays.specs.Layered.{IsFewFor}
use Rattle.overlays.specs.inside.Runs.{joint}
use Rattle.overlays.proofs.FewLaws.{few_runs}
use Rattle.overlays.proofs.Laying.{list_joint}
use Rattle.overlays.proofs.overlay.Overlay.runs.Goals as goal

pub returns-clause-changes : goal.returns-clause-changes
returns-clause-changes c = ap joint c.deref.ensures.value ∙ c.self.view_is

pub returns-clause-list : goal.returns-clause-list
returns-clause-list c = subst IsChangeList c.self.view_is (list_joint c.self.inside.runs.items c.self.invariant.0)

pub returns-clause-few : goal.returns-clause-few
returns-clause-few c =
    let items = c.self.inside.runs.items in
    subst (IsFewFor (length c.deref.result.now)) c.self.view_is
    (subst (λ (rs : List (List Change)). IsFewFor (length rs) (joint items)) (sym c.deref.ensures.value) (few_runs items c.self.invariant.1 c.self.invariant.0))
