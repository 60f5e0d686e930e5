use Rattle.outside_traits.specs.Faults.{FaultCounted}
use Rattle.paged_seq.specs.PagedFiles.{BreaksPages}
use Rattle.recovery.proofs.PagedSteps.{reason_of_pages, told_reason, told_uncounted}
use Rattle.recovery.proofs.holding.hold.Goals as goal

pub returns-in-Err-clause-reason : goal.returns-in-Err-clause-reason
returns-in-Err-clause-reason g c = told_reason _ _ _ _ _ _ _ c.faults-before.ensures.count c.faults.ensures.count c.told-fault.ensures (reason_of_pages (BreaksPages g.P.Disk.is_known (g.P.Disk.history c.args.pages).now.reads) (FaultCounted (g.P.Disk.faults c.args.pages) (g.P.Disk.faults c.in-Err.refused.disk)) c.in-Err.refused.fault c.in-Err.ensures.reason)

pub returns-in-Err-clause-uncounted : goal.returns-in-Err-clause-uncounted
returns-in-Err-clause-uncounted g c = told_uncounted _ _ _ _ _ _ c.faults-before.ensures.count c.faults.ensures.count c.told-fault.ensures
