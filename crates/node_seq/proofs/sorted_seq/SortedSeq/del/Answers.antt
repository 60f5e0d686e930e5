use Rattle.std.proofs.Common.{◌≡◌, Some, get_or, remove, sym, ap, subst, ◌∙◌}
use Rattle.tree_model.specs.declared.key.Key.{Key}
use Rattle.tree_model.specs.declared.record.Record.{Record}
use Rattle.tree_model.specs.Entries.{Sorted}
use Rattle.tree_model.proofs.Entries.{sorted_del}
use Rattle.node_seq.specs.inside.Seqs.{StandsAt, BelongsAt}
use Rattle.node_seq.proofs.Cuts.{get_stands, get_belongs, del_stands, del_belongs}
use Rattle.node_seq.proofs.sorted_seq.SortedSeq.del.Goals as goal

pub returns-in-Ok-clause-map : goal.returns-in-Ok-clause-map
returns-in-Ok-clause-map c =
    let z : StandsAt c.args.self.now c.args.key.now c.in-Ok.place = subst (λ v. StandsAt v c.args.key.now c.in-Ok.place) (c.deref.ensures.value ∙ c.self.view_is) c.in-Ok.ensures in
    c.remove.ensures.items ∙ ap (λ v. remove v c.in-Ok.place) c.self.view_is ∙ sym (del_stands c.args.key.now c.args.self.now c.in-Ok.place z)

pub invariant_of-self : goal.invariant_of-self
invariant_of-self c = subst Sorted (sym (returns-in-Ok-clause-map c)) (sorted_del c.args.key.now c.args.self.now (subst Sorted c.self.view_is c.self.invariant))

pub returns-in-Ok-clause-old : goal.returns-in-Ok-clause-old
returns-in-Ok-clause-old c =
    let z : StandsAt c.args.self.now c.args.key.now c.in-Ok.place = subst (λ v. StandsAt v c.args.key.now c.in-Ok.place) (c.deref.ensures.value ∙ c.self.view_is) c.in-Ok.ensures in
    let here : c.remove.result ≡ (c.args.key.now, z.value) = c.remove.ensures.value ∙ ap (λ v. get_or v c.in-Ok.place c.remove.result) c.self.view_is ∙ z.here c.remove.result in
    ap (λ (e : Key × Record). Some e.1) here ∙ sym (get_stands c.args.key.now c.args.self.now c.in-Ok.place z)

pub returns-in-Err-clause-map : goal.returns-in-Err-clause-map
returns-in-Err-clause-map c =
    let z : BelongsAt c.args.self.now c.args.key.now c.in-Err.field-0 = subst (λ v. BelongsAt v c.args.key.now c.in-Err.field-0) (c.deref.ensures.value ∙ c.self.view_is) c.in-Err.ensures in
    sym (del_belongs c.args.key.now c.args.self.now c.in-Err.field-0 z)

pub returns-in-Err-clause-old : goal.returns-in-Err-clause-old
returns-in-Err-clause-old c =
    let z : BelongsAt c.args.self.now c.args.key.now c.in-Err.field-0 = subst (λ v. BelongsAt v c.args.key.now c.in-Err.field-0) (c.deref.ensures.value ∙ c.self.view_is) c.in-Err.ensures in
    sym (get_belongs c.args.key.now c.args.self.now c.in-Err.field-0 z)
