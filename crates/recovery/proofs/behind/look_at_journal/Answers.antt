use Rattle.std.proofs.Common.{◌≡◌, ◌∙◌, Option, unwrap_or, IsTrue, sym, ap}
use Rattle.node_records.specs.declared.open_error.Place.{Place}
use Rattle.recovery.specs.inside.Over.{answer_before}
use Rattle.recovery.proofs.AnswerLaws.{first_reason, unless_both, unless_first}
use Rattle.recovery.proofs.OverLaws.{before_by_damage, before_by_groups}
use Rattle.recovery.proofs.behind.look_at_journal.Goals as goal

pub returns-in-Ok-clause-reason : goal.returns-in-Ok-clause-reason
returns-in-Ok-clause-reason g c known =
    c.place_before-place.ensures
    ∙ sym (ap (λ (o : Option Place). unwrap_or o c.args.broken) (before_by_groups c.args.base (g.J.Disk.history c.args.journal).now.reads c.in-Ok.groups (c.in-Ok.ensures.opens known).stood))

pub returns-in-Ok-clause-same : goal.returns-in-Ok-clause-same
returns-in-Ok-clause-same g c known = c.into_disk-disk.ensures.history ∙ (c.in-Ok.ensures.opens known).same (c.requires.made known)

pub returns-in-Err-clause-reason : goal.returns-in-Err-clause-reason
returns-in-Err-clause-reason g c =
    let t = g.J.Disk.history c.args.journal in
    first_reason g.J.Disk.is_known c.args.base t (g.J.Disk.history c.in-Err.refused.disk)
    (g.J.Disk.faults c.args.journal) (g.J.Disk.faults c.in-Err.refused.disk) (g.J.Disk.faults c.first_fault-fault.new.journal)
    c.in-Err.refused.fault c.first_fault-fault.result (λ place. place ≡ unwrap_or (answer_before c.args.base t.now.reads) c.args.broken)
    (λ at known broken. sym (ap (λ (o : Option Place). unwrap_or o c.args.broken) (before_by_damage c.args.base t.now.reads at broken)))
    c.first_fault-fault.ensures.first c.in-Err.ensures.reason c.in-Err.ensures.untouched c.in-Err.ensures.counts.later c.first_fault-fault.ensures.later

pub returns-in-Err-clause-same : goal.returns-in-Err-clause-same
returns-in-Err-clause-same g c known = c.first_fault-fault.ensures.same known ∙ c.in-Err.ensures.made_before known (c.requires.made known)

pub returns-in-Err-clause-uncounted : goal.returns-in-Err-clause-uncounted
returns-in-Err-clause-uncounted g c =
    let before = unless_first (g.J.Disk.faults c.in-Err.refused.disk ≡ g.J.Disk.faults c.args.journal) (IsTrue g.J.Disk.is_known) c.args.base (g.J.Disk.history c.in-Err.refused.disk).now.reads _ c.in-Err.refused.fault c.first_fault-fault.result c.first_fault-fault.ensures.first c.in-Err.ensures.counts.uncounted in
    unless_both _ _ _ c.first_fault-fault.result (λ last first. last ∙ first) c.first_fault-fault.ensures.uncounted before
