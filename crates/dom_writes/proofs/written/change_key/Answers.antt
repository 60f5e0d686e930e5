use Rattle.std.proofs.Common.{◌++◌, sym, ap, subst, ◌∙◌}
use Rattle.tree_changes.specs.KeyChanges.{change_at}
use Rattle.node_seq.specs.ChangeLists.{IsChangeList}
use Rattle.dom_writes.proofs.WrittenLaws.{one_change}
use Rattle.dom_writes.proofs.written.change_key.Goals as goal

pub returns-clause-changed : goal.returns-clause-changed
returns-clause-changed g c = λ es is.
    c.in_ok-add_change.ensures.ok
    ∙ (λ i. c.requires.empty i ++ change_at c.args.key (c.in_ok-before.ensures.value es is i) c.args.now)

pub returns-clause-rise : goal.returns-clause-rise
returns-clause-rise g c =
    let k = c.args.key in
    let before = c.in_ok-before.before in
    let now = c.args.now in
    subst IsChangeList (sym (c.in_ok-add_change.ensures.ok ∙ ap (λ cs. cs ++ change_at k before now) c.requires.empty)) (one_change k before now c.requires.entry)
