use Rattle.std.proofs.Common.{refl, rules, subst, ap, ◌∙◌}
use Rattle.node_seq.specs.ChangeLists.{IsChangeList}
use Rattle.overlays.specs.inside.Runs.{joint}
use Rattle.overlays.proofs.Laying.{list_joint}
use Rattle.overlays.proofs.overlay.Overlay.changes.Goals as goal

pub returns-in_err-settle : goal.returns-in_err-settle
returns-in_err-settle c = (
  (refl, λ _. tt, c.settle.ensures.changes ∙ c.self.view_is),
  record {
    same = tt;
    changes = search rules;
    list = subst IsChangeList c.self.view_is (list_joint c.self.inside.runs.items c.self.invariant.0);
  },
)

pub returns : goal.returns
returns c = (
  (refl, λ _. tt, c.settle.ensures.changes ∙ c.self.view_is),
  record {
    same = tt;
    changes = c.changes_of_only.ensures ∙ ap joint c.deref.ensures.value ∙ c.settle.ensures.changes ∙ c.self.view_is;
    list = subst IsChangeList c.self.view_is (list_joint c.self.inside.runs.items c.self.invariant.0);
  },
)
