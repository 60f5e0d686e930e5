use Rattle.std.proofs.Common.{Option, ◌++◌, ◌∷◌, [], List, ap, sym, ◌∙◌}
use Rattle.tree_model.specs.declared.change.Change.{Change}
use Rattle.tree_model.specs.declared.key.Key.{Key}
use Rattle.tree_model.specs.declared.record.Record.{Record}
use Rattle.recovery.proofs.NetLaws.{changes_more}
use Rattle.recovery.proofs.netting.changes_of.Goals as goal

pub loop-key-preserved : goal.loop-key-preserved
loop-key-preserved c =
    let e : Key × Option Record = (c.in-Some.key, c.in-Some.now) in
    c.in_ok-push.ensures.ok ∙ ap (λ (cs : List Change). cs ++ record { key = e.0; now = e.1 } ∷ []) c.loop-key.invariant ∙ sym (changes_more c.loop-key.yielded e)
