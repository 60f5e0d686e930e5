use Rattle.std.proofs.Common.{◌≡◌, ◌≤◌, ◌+◌, ℕ, length, arith, true, IfSome, IsTrue, Option, Some, None, sym, ap, subst, ◌∙◌}
use Rattle.dewey_labels.specs.Labels.{Label}
use Rattle.tree_model.specs.declared.key.Key.{Key}
use Rattle.tree_model.specs.declared.record.Record.{Record}
use Rattle.tree_model.specs.Entries.{Entries}
use Rattle.node_seq.specs.Reads.{IsEntryOfTrees}
use Rattle.dom_reads.specs.SubtreeWalks.{Stand, HasStepped, lies_in, still_to_come}
use Rattle.dom_reads.proofs.SubtreeEntries.{stepped_in}
use Rattle.dom_reads.proofs.WalkReads.{one_to_come}
use Rattle.dom_reads.proofs.subtree_walk.SubtreeWalk.step.Goals as goal

-- a step by what it is told of the walk
retold : (contents : Option Entries) (old old' new new' : Stand) (found found' : Option (Key × Record)) → old ≡ old' → new ≡ new' → found ≡ found'
    → HasStepped contents old' new' found' → HasStepped contents old new found
retold contents old old' new new' found found' a b c h =
    subst (λ (w : Stand). HasStepped contents w new found) (sym a)
    (subst (λ (w : Stand). HasStepped contents old' w found) (sym b)
    (subst (λ (o : Option (Key × Record)). HasStepped contents old' new' o) (sym c) h))

pub returns-clause-stepped : goal.returns-clause-stepped
returns-clause-stepped g c =
    let contents : Option Entries = g.S.NodeRead.contents c.args.seq.now in
    let l : Label = c.self.inside.at in
    let e : Key × Record = (c.in-Some.key, c.in-Some.field-0-1) in
    let standing : Option (Key × Record) → Stand = λ o. record { at = l; next = o } in
    let was : c.args.self.now ≡ standing (Some e) = sym c.self.view_is ∙ ap standing c.in-Some.is in
    let read = c.in_ok-found.ensures in
    let valid : contents ≡ None → IsEntryOfTrees (Some e) = subst (λ (w : Stand). contents ≡ None → IsEntryOfTrees w.next) was c.requires.valid in
    let here : lies_in l e ≡ true = subst (λ (o : Option (Key × Record)). IfSome o (λ f. IsTrue (lies_in l f))) c.in-Some.is c.self.invariant in
    retold contents _ _ _ _ _ _ was (ap standing (c.replace.ensures.after ∙ c.in_subtree-next.ensures)) (c.replace.ensures.value ∙ c.in-Some.is)
    (stepped_in contents l e c.in_ok-found.found c.faults-faults.ensures.in_order valid here read.value read.above read.valid)

-- what stands before an entry doesn't stand at the end
not_at_end : (w : Stand) (o : Option (Key × Record)) (e : Key × Record) → w.next ≡ o → o ≡ Some e → w.next ≡ None → ⊥
not_at_end w o e a b h = cc

-- a read is one of those that are to come
read_of_rest : (l : Label) (o : Option (Key × Record)) (e : Key × Record) (w : Stand) (es : Entries) (before after : ℕ) → record { at = l; next = o } ≡ w → o ≡ Some e
    → IfSome o (λ f. IsTrue (lies_in l f)) → after ≤ before + 1 → after ≤ before + length (still_to_come w es)
read_of_rest l o e w es before after a b h read =
    let standing : Option (Key × Record) → Stand = λ p. record { at = l; next = p } in
    let one = one_to_come l e es (subst (λ (p : Option (Key × Record)). IfSome p (λ f. IsTrue (lies_in l f))) b h) in
    subst (λ (v : Stand). after ≤ before + length (still_to_come v es)) (ap standing (sym b) ∙ a) (omega (arith, read, one))

pub returns-in_err-found-clause-at_end : goal.returns-in_err-found-clause-at_end
returns-in_err-found-clause-at_end g c h = absurd (not_at_end c.args.self.now c.self.inside.next (c.in-Some.key, c.in-Some.field-0-1) (ap (λ (w : Stand). w.next) (sym c.self.view_is)) c.in-Some.is h)

pub returns-clause-at_end : goal.returns-clause-at_end
returns-clause-at_end g c h = absurd (not_at_end c.args.self.now c.self.inside.next (c.in-Some.key, c.in-Some.field-0-1) (ap (λ (w : Stand). w.next) (sym c.self.view_is)) c.in-Some.is h)

pub returns-in_err-found-clause-within : goal.returns-in_err-found-clause-within
returns-in_err-found-clause-within g c es t = read_of_rest c.self.inside.at c.self.inside.next _ _ es _ _ c.self.view_is c.in-Some.is c.self.invariant c.in_err-found.ensures.reads

pub returns-clause-within : goal.returns-clause-within
returns-clause-within g c es t = read_of_rest c.self.inside.at c.self.inside.next _ _ es _ _ c.self.view_is c.in-Some.is c.self.invariant c.in_ok-found.ensures.reads
