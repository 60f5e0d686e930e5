use Rattle.std.proofs.Common.{◌≡◌, Option, Some, None, sym, subst, ◌∙◌}
use Rattle.tree_model.specs.declared.key.Key.{Key}
use Rattle.tree_model.specs.declared.record.Record.{Record}
use Rattle.tree_model.specs.Entries.{Entries}
use Rattle.node_seq.specs.Reads.{IsEntryOfTrees}
use Rattle.node_seq.specs.WalkSteps.{HasStepped}
use Rattle.node_seq.proofs.Walks.{stepped_on}
use Rattle.node_seq.proofs.walk.Walk.step.Goals as goal

-- a step by what it is told of the entries
retold : (contents : Option Entries) (old old' new new' found found' : Option (Key × Record)) → old ≡ old' → new ≡ new' → found ≡ found' → HasStepped contents old' new' found' → HasStepped contents old new found
retold contents old old' new new' found found' a b c h =
    subst (λ (o : Option (Key × Record)). HasStepped contents o new found) (sym a)
    (subst (λ (o : Option (Key × Record)). HasStepped contents old' o found) (sym b)
    (subst (λ (o : Option (Key × Record)). HasStepped contents old' new' o) (sym c) h))

pub returns-clause-stepped : goal.returns-clause-stepped
returns-clause-stepped g c =
    let contents : Option Entries = g.S.NodeRead.contents c.args.seq.now in
    let e : Key × Record = (c.in-Some.at, c.in-Some.field-0-1) in
    let was : c.args.self.now ≡ Some e = sym c.self.view_is ∙ c.in-Some.is in
    let next = c.in_ok-next.next in
    let read = c.in_ok-next.ensures in
    let valid : contents ≡ None → IsEntryOfTrees (Some e) = subst (λ (o : Option (Key × Record)). contents ≡ None → IsEntryOfTrees o) was c.requires.valid in
    retold contents _ _ _ _ _ _ was c.replace.ensures.after (c.replace.ensures.value ∙ c.in-Some.is)
    (stepped_on contents e next c.faults-faults.ensures.in_order valid read.value read.above read.valid)
