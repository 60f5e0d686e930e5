use Rattle.std.proofs.Common.{◌≡◌, List, ap, sym, subst, ◌∙◌}
use Rattle.tree_model.specs.declared.change.Change.{Change}
use Rattle.tree_model.specs.Changes.{Rising, laid}
use Rattle.tree_model.specs.Entries.{changed}
use Rattle.tree_model.proofs.ChangeLists.{changed_laid, rising_laid}
use Rattle.recovery.proofs.runs.Run.over.Goals as goal

pub new-requires : goal.new-requires
new-requires c =
    let is : c.lay.result.items ≡ laid c.args.self c.args.lower = c.lay.ensures ∙ (λ i. laid (c.into_changes.ensures.changes i) (c.into_changes-in-Ok.ensures.changes i)) in
    record { rising = subst Rising (sym is) (rising_laid c.args.self c.args.lower c.into_changes-in-Ok.ensures.rising) }

pub returns-in-Ok : goal.returns-in-Ok
returns-in-Ok c = λ es s.
    let is : c.lay.result.items ≡ laid c.args.self c.args.lower = c.lay.ensures ∙ (λ i. laid (c.into_changes.ensures.changes i) (c.into_changes-in-Ok.ensures.changes i)) in
    ap (λ (cs : List Change). changed cs es) (c.new.ensures ∙ is) ∙ changed_laid c.args.self c.args.lower es c.into_changes.ensures.rising c.into_changes-in-Ok.ensures.rising s
