use Rattle.std.proofs.Common.{◌≡◌, Some, slice_set, get_or, insert, sym, ap, subst, ◌∙◌}
use Rattle.tree_model.specs.declared.key.Key.{Key}
use Rattle.tree_model.specs.declared.record.Record.{Record}
use Rattle.tree_model.specs.Entries.{Sorted}
use Rattle.tree_model.proofs.Entries.{sorted_put}
use Rattle.node_seq.specs.inside.Seqs.{StandsAt, BelongsAt}
use Rattle.node_seq.proofs.Cuts.{get_stands, get_belongs, put_stands, put_belongs}
use Rattle.node_seq.proofs.sorted_seq.SortedSeq.put.Goals as goal

pub returns-in-Ok-clause-map : goal.returns-in-Ok-clause-map
returns-in-Ok-clause-map c =
    let z : StandsAt c.args.self.now c.args.key c.in-Ok.place = subst (λ v. StandsAt v c.args.key c.in-Ok.place) (c.deref.ensures.value ∙ c.self.view_is) c.in-Ok.ensures in
    let here : c.index_mut-entry.result.now ≡ (c.args.key, z.value) = c.index_mut-entry.ensures.value ∙ ap (λ v. get_or v c.in-Ok.place c.index_mut-entry.result.now) c.self.view_is ∙ z.here c.index_mut-entry.result.now in
    let entry : (c.index_mut-entry.result.now.0, c.replace.new.dest) ≡ (c.args.key, c.args.value) = λ j. ((here j).0, c.replace.ensures.after j) in
    ap (λ v. slice_set v c.in-Ok.place (c.index_mut-entry.result.now.0, c.replace.new.dest)) c.self.view_is
    ∙ ap (slice_set c.args.self.now c.in-Ok.place) entry
    ∙ sym (put_stands c.args.key c.args.self.now c.in-Ok.place z c.args.value)

pub invariant_of-self : goal.invariant_of-self
invariant_of-self c = subst Sorted (sym (returns-in-Ok-clause-map c)) (sorted_put (c.args.key, c.args.value) c.args.self.now (subst Sorted c.self.view_is c.self.invariant))

pub returns-in-Ok-clause-old : goal.returns-in-Ok-clause-old
returns-in-Ok-clause-old c =
    let z : StandsAt c.args.self.now c.args.key c.in-Ok.place = subst (λ v. StandsAt v c.args.key c.in-Ok.place) (c.deref.ensures.value ∙ c.self.view_is) c.in-Ok.ensures in
    let here : c.index_mut-entry.result.now ≡ (c.args.key, z.value) = c.index_mut-entry.ensures.value ∙ ap (λ v. get_or v c.in-Ok.place c.index_mut-entry.result.now) c.self.view_is ∙ z.here c.index_mut-entry.result.now in
    ap Some (c.replace.ensures.value ∙ ap (λ (e : Key × Record). e.1) here) ∙ sym (get_stands c.args.key c.args.self.now c.in-Ok.place z)

pub returns-in_ok-insert-in-Err-clause-map : goal.returns-in_ok-insert-in-Err-clause-map
returns-in_ok-insert-in-Err-clause-map c =
    let z : BelongsAt c.args.self.now c.args.key c.in-Err.place = subst (λ v. BelongsAt v c.args.key c.in-Err.place) (c.deref.ensures.value ∙ c.self.view_is) c.in-Err.ensures in
    c.in_ok-insert-in-Err.ensures.items ∙ ap (λ v. insert v c.in-Err.place (c.args.key, c.args.value)) c.self.view_is ∙ sym (put_belongs c.args.key c.args.self.now c.in-Err.place z c.args.value)

pub invariant_of-self-in-Err : goal.invariant_of-self-in-Err
invariant_of-self-in-Err c = subst Sorted (sym (returns-in_ok-insert-in-Err-clause-map c)) (sorted_put (c.args.key, c.args.value) c.args.self.now (subst Sorted c.self.view_is c.self.invariant))

pub returns-in_ok-insert-in-Err-clause-old : goal.returns-in_ok-insert-in-Err-clause-old
returns-in_ok-insert-in-Err-clause-old c =
    let z : BelongsAt c.args.self.now c.args.key c.in-Err.place = subst (λ v. BelongsAt v c.args.key c.in-Err.place) (c.deref.ensures.value ∙ c.self.view_is) c.in-Err.ensures in
    sym (get_belongs c.args.key c.args.self.now c.in-Err.place z)
