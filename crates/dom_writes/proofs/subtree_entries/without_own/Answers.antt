use Rattle.std.proofs.Common.{◌++◌, [], ◌∷◌, not, sym, ap, ◌∙◌, append-nil}
use Rattle.tree_model.specs.declared.key.Key.{Key}
use Rattle.tree_model.specs.declared.record.Record.{Record}
use Rattle.dom_reads.proofs.AttributeWalks.{equal, unequal}
use Rattle.dom_writes.specs.inside.EntriesBelow.{is_other, without_own}
use Rattle.dom_writes.proofs.EntriesBelow.{one_more}
use Rattle.dom_writes.proofs.subtree_entries.without_own.Goals as goal

pub loop-key-preserved-in-Continue-1 : goal.loop-key-preserved-in-Continue-1
loop-key-preserved-in-Continue-1 c =
    let at = c.args.at.now in
    let e : Key × Record = (c.in-Some.key, c.in-Some.record) in
    c.in_ok-push.ensures.ok ∙ ap (λ es. es ++ (e ∷ [])) c.loop-key.invariant
    ∙ sym (one_more (is_other at) c.loop-key.yielded e _ (ap not (unequal c.in-Some.key.label at c.ne.result c.ne.ensures c.if-ne.true)))

pub loop-key-preserved : goal.loop-key-preserved
loop-key-preserved c =
    let at = c.args.at.now in
    let e : Key × Record = (c.in-Some.key, c.in-Some.record) in
    c.loop-key.invariant ∙ sym (append-nil (without_own at c.loop-key.yielded))
    ∙ sym (one_more (is_other at) c.loop-key.yielded e _ (ap not (equal c.in-Some.key.label at c.ne.result c.ne.ensures c.if-ne.false)))
