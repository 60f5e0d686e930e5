use Rattle.std.proofs.Common.{ℕ, ◌∙◌, Option, unwrap_or, inl, inr, refl, sym, ap, subst, le_refl}
use Rattle.node_records.specs.declared.open_error.Place.{Place}
use Rattle.store_contents.specs.Contents.{base_of}
use Rattle.recovery.specs.inside.Over.{IsRefusedAt, answer_before}
use Rattle.recovery.proofs.AnswerLaws.{unless_then}
use Rattle.recovery.proofs.OverLaws.{refused_before, refused_fresh}
use Rattle.recovery.proofs.PagedSteps.{reason_leads}
use Rattle.recovery.proofs.over.refuse_damaged.Goals as goal

pub returns-then-fresh-clause-reason : goal.returns-then-fresh-clause-reason
returns-then-fresh-clause-reason g c tj tp =
    let j = (g.J.Disk.history c.args.journal).now.reads in
    let p = (g.P.Disk.history c.args.pages).now.reads in
    let breaks = c.requires.breaks in
    subst (IsRefusedAt j p) (sym breaks.1) (refused_fresh p j breaks.0 (breaks.2 tp) (sym (c.requires.fresh tj) ∙ c.if-fresh.true))

pub returns-then-fresh-clause-counts : goal.returns-then-fresh-clause-counts
returns-then-fresh-clause-counts g c = record { uncounted = (refl, refl); later = (le_refl _, le_refl _) }

pub look_at_journal-fault-requires-clause-made : goal.look_at_journal-fault-requires-clause-made
look_at_journal-fault-requires-clause-made g c tj = sym (c.requires.fresh tj) ∙ c.if-fresh.false

pub returns-in-Ok-clause-reason : goal.returns-in-Ok-clause-reason
returns-in-Ok-clause-reason g c =
    let j = (g.J.Disk.history c.args.journal).now.reads in
    let p = (g.P.Disk.history c.args.pages).now.reads in
    let breaks = c.requires.breaks in
    reason_leads _ _ _ _ c.look_at_journal-fault.result.fault
    (λ place is tj tp. subst (IsRefusedAt j p)
    (sym (is tj ∙ ap (λ (b : Option ℕ). unwrap_or (answer_before b j) c.args.broken) (c.in-Ok.ensures.base tp) ∙ ap (λ (q : Place). unwrap_or (answer_before (base_of p) j) q) breaks.1))
    (refused_before p j breaks.0 (breaks.2 tp)))
    (λ rose. inl rose) c.look_at_journal-fault.ensures.reason

pub returns-in-Ok-clause-counts : goal.returns-in-Ok-clause-counts
returns-in-Ok-clause-counts g c = record {
  uncounted = unless_then _ _ c.look_at_journal-fault.result.fault (λ same. (same, c.in-Ok.ensures.exact)) c.look_at_journal-fault.ensures.uncounted;
  later = (c.look_at_journal-fault.ensures.later, c.base_in.ensures.later);
}

pub returns-in-Err-clause-reason : goal.returns-in-Err-clause-reason
returns-in-Err-clause-reason g c = reason_leads _ _ _ _ c.in-Err.fault (λ place never. absurd never) (λ rose. inr rose) c.in-Err.ensures.reason

pub returns-in-Err-clause-counts : goal.returns-in-Err-clause-counts
returns-in-Err-clause-counts g c = record {
  uncounted = unless_then _ _ c.in-Err.fault (λ same. (refl, same)) c.in-Err.ensures.uncounted;
  later = (le_refl _, c.base_in.ensures.later);
}
