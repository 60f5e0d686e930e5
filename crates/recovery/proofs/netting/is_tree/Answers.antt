use Rattle.std.proofs.Common.{◌∙◌, Err, ap, sym, refl}
use Rattle.node_seq.specs.declared.node_read.SeqError.{SeqError}
use Rattle.node_records.specs.declared.open_error.File.TheVariants.{Tree}
use Rattle.store_contents.specs.Contents.{place_in}
use Rattle.recovery.proofs.AnswerLaws.{unless_of}
use Rattle.recovery.proofs.PagedSteps.{reason_at, reason_leads, told_reason, told_uncounted}
use Rattle.recovery.proofs.netting.is_tree.Goals as goal

pub returns-in-None-clause-tree : goal.returns-in-None-clause-tree
returns-in-None-clause-tree g c = let tested = c.in-Ok.ensures.tested in record { records = tested.records; are = tested.are; tree = tested.tree c.in-None.is }

pub returns-in-Some-clause-reason : goal.returns-in-Some-clause-reason
returns-in-Some-clause-reason g c =
    let tested = c.in-Ok.ensures.tested in
    reason_at _ _ c.at.result (place_in Tree c.in-Some.at) c.at.ensures
    (record { records = tested.records; are = tested.are; misfit = (c.in-Some.at, sym tested.place ∙ c.in-Some.is, refl) })

pub returns-in-Some-clause-uncounted : goal.returns-in-Some-clause-uncounted
returns-in-Some-clause-uncounted g c = unless_of _ c.at.result c.in-Ok.ensures.cause.exact

pub returns-in-Err-clause-reason : goal.returns-in-Err-clause-reason
returns-in-Err-clause-reason g c =
    told_reason _ _ _ _ _ _ _ c.faults-before.ensures.count c.faults.ensures.count c.told.ensures
    (reason_leads _ _ _ _ c.fault_of.result (λ place never. absurd never) (λ is. c.in-Err.ensures.cause.failed (ap (λ (e : SeqError). Err e) is)) c.fault_of.ensures)

pub returns-in-Err-clause-uncounted : goal.returns-in-Err-clause-uncounted
returns-in-Err-clause-uncounted g c = told_uncounted _ _ _ _ _ _ c.faults-before.ensures.count c.faults.ensures.count c.told.ensures
