use Rattle.std.proofs.Common.{inl, inr, refl, le_refl, subst}
use Rattle.journal.specs.Refusals.{HasReason}
use Rattle.paged_seq.specs.PagedFiles.{BreaksPages}
use Rattle.recovery.proofs.PagedSteps.{reason_leads}
use Rattle.recovery.proofs.over.refuse.Goals as goal

pub refuse_damaged-requires-clause-breaks : goal.refuse_damaged-requires-clause-breaks
refuse_damaged-requires-clause-breaks g c = subst (HasReason (BreaksPages g.P.Disk.is_known (g.P.Disk.history c.args.pages).now.reads) (Unit {0})) c.in-Damaged.is c.requires.breaks

pub returns-in-Damaged-clause-reason : goal.returns-in-Damaged-clause-reason
returns-in-Damaged-clause-reason g c = reason_leads _ _ _ _ c.refuse_damaged.result.fault (λ place at. at) (λ rose. inr rose) c.refuse_damaged.ensures.reason

pub returns-in-DiskFault-clause-reason : goal.returns-in-DiskFault-clause-reason
returns-in-DiskFault-clause-reason g c = inl c.in-DiskFault.is

pub returns-in-DiskFault-clause-counts : goal.returns-in-DiskFault-clause-counts
returns-in-DiskFault-clause-counts g c = record { uncounted = tt; later = (le_refl _, le_refl _) }

pub returns-in-NoMemory-clause-counts : goal.returns-in-NoMemory-clause-counts
returns-in-NoMemory-clause-counts g c = record { uncounted = (refl, refl); later = (le_refl _, le_refl _) }
