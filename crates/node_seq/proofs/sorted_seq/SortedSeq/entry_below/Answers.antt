use Rattle.std.proofs.Common.{option_copied, sym, ap, subst, ◌∙◌}
use Rattle.node_seq.specs.inside.Seqs.{StandsAt, BelongsAt, before}
use Rattle.node_seq.proofs.Cuts.{last_below_stands, last_below_belongs, found_below}
use Rattle.node_seq.proofs.sorted_seq.SortedSeq.entry_below.Goals as goal

pub returns-in-Ok-clause-value : goal.returns-in-Ok-clause-value
returns-in-Ok-clause-value c =
    let z : StandsAt c.args.self.now c.args.key.now c.in-Ok.place = subst (λ v. StandsAt v c.args.key.now c.in-Ok.place) (c.deref.ensures.value ∙ c.self.view_is) c.in-Ok.ensures in
    c.entry_before.ensures ∙ ap (λ v. before v c.in-Ok.place) (c.deref-in-Ok.ensures.value ∙ c.self.view_is) ∙ sym (last_below_stands c.args.key.now c.args.self.now c.in-Ok.place z)

pub returns-in-Ok-clause-below : goal.returns-in-Ok-clause-below
returns-in-Ok-clause-below c =
    found_below c.args.key.now c.args.self.now (option_copied c.entry_before.result) (returns-in-Ok-clause-value c)

pub returns-in-Err-clause-value : goal.returns-in-Err-clause-value
returns-in-Err-clause-value c =
    let z : BelongsAt c.args.self.now c.args.key.now c.in-Err.place = subst (λ v. BelongsAt v c.args.key.now c.in-Err.place) (c.deref.ensures.value ∙ c.self.view_is) c.in-Err.ensures in
    c.entry_before-in-Err.ensures ∙ ap (λ v. before v c.in-Err.place) (c.deref-in-Err.ensures.value ∙ c.self.view_is) ∙ sym (last_below_belongs c.args.key.now c.args.self.now c.in-Err.place z)

pub returns-in-Err-clause-below : goal.returns-in-Err-clause-below
returns-in-Err-clause-below c =
    found_below c.args.key.now c.args.self.now (option_copied c.entry_before-in-Err.result) (returns-in-Err-clause-value c)
