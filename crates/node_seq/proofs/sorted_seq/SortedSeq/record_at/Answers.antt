use Rattle.std.proofs.Common.{◌≡◌, Some, get_or, sym, ap, subst, ◌∙◌}
use Rattle.tree_model.specs.declared.key.Key.{Key}
use Rattle.tree_model.specs.declared.record.Record.{Record}
use Rattle.node_seq.specs.inside.Seqs.{StandsAt, BelongsAt}
use Rattle.node_seq.proofs.Cuts.{get_stands, get_belongs}
use Rattle.node_seq.proofs.sorted_seq.SortedSeq.record_at.Goals as goal

pub returns-in-Ok-clause-value : goal.returns-in-Ok-clause-value
returns-in-Ok-clause-value c =
    let z : StandsAt c.args.self.now c.args.key.now c.in-Ok.place = subst (λ v. StandsAt v c.args.key.now c.in-Ok.place) (c.deref.ensures.value ∙ c.self.view_is) c.in-Ok.ensures in
    let here : c.index.result.now ≡ (c.args.key.now, z.value) = c.index.ensures ∙ ap (λ v. get_or v c.in-Ok.place c.index.result.now) c.self.view_is ∙ z.here c.index.result.now in
    ap (λ (e : Key × Record). Some e.1) here ∙ sym (get_stands c.args.key.now c.args.self.now c.in-Ok.place z)

pub returns-in-Err-clause-value : goal.returns-in-Err-clause-value
returns-in-Err-clause-value c =
    let z : BelongsAt c.args.self.now c.args.key.now c.in-Err.field-0 = subst (λ v. BelongsAt v c.args.key.now c.in-Err.field-0) (c.deref.ensures.value ∙ c.self.view_is) c.in-Err.ensures in
    sym (get_belongs c.args.key.now c.args.self.now c.in-Err.field-0 z)
