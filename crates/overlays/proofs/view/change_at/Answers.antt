use Rattle.std.proofs.Common.{sym, ◌∙◌}
use Rattle.std.specs.Option.{option_or}
use Rattle.tree_model.specs.Changes.{now_at}
use Rattle.tree_model.proofs.ChangeLists.{at_laid}
use Rattle.overlays.proofs.view.change_at.Goals as goal

pub returns-in-Some-clause-value : goal.returns-in-Some-clause-value
returns-in-Some-clause-value c =
    let k = c.args.key.now in
    let low = c.args.layers.now.changes in
    (λ i. option_or (c.in-Some.ensures.value i) (now_at k low)) ∙ sym (at_laid k c.args.own.now low c.at.ensures.list.rise)

pub returns-in-None-clause-value : goal.returns-in-None-clause-value
returns-in-None-clause-value c =
    let k = c.args.key.now in
    c.at-in-None.ensures.value ∙ (λ i. option_or (c.in-None.ensures.value i) (now_at k c.args.layers.now.changes)) ∙ sym (at_laid k c.args.own.now c.args.layers.now.changes c.at.ensures.list.rise)
