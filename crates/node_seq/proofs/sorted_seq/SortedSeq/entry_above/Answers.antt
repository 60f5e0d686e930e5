use Rattle.std.proofs.Common.{◌≡◌, ◌+◌, slice_get, option_copied, sym, ap, subst, ◌∙◌}
use Rattle.node_seq.specs.inside.Seqs.{StandsAt, BelongsAt}
use Rattle.node_seq.proofs.Cuts.{first_above_stands, first_above_belongs, found_above, looked_up}
use Rattle.node_seq.proofs.sorted_seq.SortedSeq.entry_above.Goals as goal

pub returns-in-Ok-clause-value : goal.returns-in-Ok-clause-value
returns-in-Ok-clause-value c =
    let z : StandsAt c.args.self.now c.args.key.now c.in-Ok.place = subst (λ v. StandsAt v c.args.key.now c.in-Ok.place) (c.deref.ensures.value ∙ c.self.view_is) c.in-Ok.ensures in
    let found : option_copied c.get.result ≡ slice_get c.deref-in-Ok.result.now (c.in-Ok.place + 1) = looked_up c.deref-in-Ok.result.now (c.in-Ok.place + 1) c.get.result c.get.ensures.lookup in
    found ∙ ap (λ v. slice_get v (c.in-Ok.place + 1)) (c.deref-in-Ok.ensures.value ∙ c.self.view_is) ∙ sym (first_above_stands c.args.key.now c.args.self.now c.in-Ok.place z)

pub returns-in-Ok-clause-above : goal.returns-in-Ok-clause-above
returns-in-Ok-clause-above c =
    found_above c.args.key.now c.args.self.now (option_copied c.get.result) (returns-in-Ok-clause-value c)

pub returns-in-Err-clause-value : goal.returns-in-Err-clause-value
returns-in-Err-clause-value c =
    let z : BelongsAt c.args.self.now c.args.key.now c.in-Err.place = subst (λ v. BelongsAt v c.args.key.now c.in-Err.place) (c.deref.ensures.value ∙ c.self.view_is) c.in-Err.ensures in
    let found : option_copied c.get-in-Err.result ≡ slice_get c.deref-in-Err.result.now c.in-Err.place = looked_up c.deref-in-Err.result.now c.in-Err.place c.get-in-Err.result c.get-in-Err.ensures.lookup in
    found ∙ ap (λ v. slice_get v c.in-Err.place) (c.deref-in-Err.ensures.value ∙ c.self.view_is) ∙ sym (first_above_belongs c.args.key.now c.args.self.now c.in-Err.place z)

pub returns-in-Err-clause-above : goal.returns-in-Err-clause-above
returns-in-Err-clause-above c =
    found_above c.args.key.now c.args.self.now (option_copied c.get-in-Err.result) (returns-in-Err-clause-value c)
