use Rattle.std.proofs.Common.{◌∙◌, inl, inr, sym, ap, subst}
use Rattle.std.proofs.lemmas.Bool.{false≢true}
use Rattle.outside_traits.specs.Moments.{History}
use Rattle.journal.specs.Openings.{LeavesSameGroups, Opens}
use Rattle.recovery.proofs.AnswerLaws.{made_or_same, unless_of, unless_then}
use Rattle.recovery.proofs.OverLaws.{fresh_none, none_at_all, takes_first}
use Rattle.recovery.proofs.PagedSteps.{fresh_reason, reason_at}
use Rattle.recovery.proofs.behind.make.Goals as goal

pub returns-then-has_none-clause-opens : goal.returns-then-has_none-clause-opens
returns-then-has_none-clause-opens g c known =
    subst (Opens (g.J.Disk.history c.args.journal) c.in-Ok.journal.history) (none_at_all c.in-Ok.groups (sym c.has_none.ensures ∙ c.if-has_none.true)) (c.in-Ok.ensures.opens known)

pub returns-then-has_none-clause-next : goal.returns-then-has_none-clause-next
returns-then-has_none-clause-next g c number =
    takes_first _ c.in-Ok.groups c.in-Ok.journal number c.in-Ok.ensures.ready (none_at_all c.in-Ok.groups (sym c.has_none.ensures ∙ c.if-has_none.true))

pub returns-in-Ok-clause-moments_refused : goal.returns-in-Ok-clause-moments_refused
returns-in-Ok-clause-moments_refused g c known =
    subst (LeavesSameGroups (g.J.Disk.history c.args.journal)) (sym c.into_disk.ensures.history) (c.in-Ok.ensures.any_moment known)

pub returns-in-Ok-clause-reason : goal.returns-in-Ok-clause-reason
returns-in-Ok-clause-reason g c = reason_at _ _ c.at.result _ c.at.ensures (λ known.
    false≢true (sym c.if-has_none.false ∙ c.has_none.ensures ∙ fresh_none (g.J.Disk.history c.args.journal).now.reads c.in-Ok.groups (c.requires.fresh known) (c.in-Ok.ensures.opens known).stood))

pub returns-in-Ok-clause-kept : goal.returns-in-Ok-clause-kept
returns-in-Ok-clause-kept g c =
    unless_of _ c.at.result (λ known. inr (ap (λ (t : History). t.now.reads) c.into_disk.ensures.history
    ∙ made_or_same (g.J.Disk.history c.args.journal) c.in-Ok.journal.history (c.in-Ok.ensures.opens known).fresh (c.in-Ok.ensures.opens known).same))

pub returns-in-Ok-clause-uncounted : goal.returns-in-Ok-clause-uncounted
returns-in-Ok-clause-uncounted g c = unless_of _ c.at.result (c.into_disk.ensures.faults ∙ c.in-Ok.ensures.ready.faults)

pub returns-clause-reason : goal.returns-clause-reason
returns-clause-reason g c =
    fresh_reason g.J.Disk.is_known (g.J.Disk.history c.args.journal) (λ _. ⊥) _ c.in-Err.field-0.fault c.requires.fresh c.in-Err.ensures.reason

pub returns-clause-kept : goal.returns-clause-kept
returns-clause-kept g c =
    unless_then _ _ c.in-Err.field-0.fault (λ same known. inl (ap (λ (t : History). t.now.reads) (same known))) c.in-Err.ensures.untouched
