use Rattle.std.proofs.Common.{List, ap, ◌∙◌}
use Rattle.tree_model.specs.declared.change.Change.{Change}
use Rattle.tree_model.specs.Entries.{changed}
use Rattle.tree_model.proofs.Entries.{changed_append}
use Rattle.recovery.specs.inside.Nets.{after_runs}
use Rattle.recovery.proofs.runs.go_on.Goals as goal

pub returns-then-is_before : goal.returns-then-is_before
returns-then-is_before c = λ es s.
    let before = after_runs c.args.older.now.items es in
    ap (λ (cs : List Change). changed cs before) c.in_ok-grown.ensures ∙ changed_append c.args.newest c.args.next before
