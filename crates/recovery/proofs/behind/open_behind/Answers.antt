use Rattle.std.proofs.Common.{inl, ap}
use Rattle.outside_traits.specs.Moments.{History}
use Rattle.recovery.proofs.AnswerLaws.{unless_of}
use Rattle.recovery.proofs.PagedSteps.{damage_is, err_then, ok_then, same_moments}
use Rattle.recovery.proofs.behind.open_behind.Goals as goal

pub returns-else-fresh-clause-moments : goal.returns-else-fresh-clause-moments
returns-else-fresh-clause-moments g c =
    ok_then c.open_made.result _ _ (λ f same known pages. same_moments pages (g.J.Disk.history c.args.journal) f.journal.history (same known)) c.open_made.ensures.same

pub returns-else-fresh-clause-moments_refused : goal.returns-else-fresh-clause-moments_refused
returns-else-fresh-clause-moments_refused g c =
    err_then c.open_made.result _ _ (λ refused same known pages. same_moments pages (g.J.Disk.history c.args.journal) (g.J.Disk.history refused.disk) (same known)) c.open_made.ensures.same_refused

pub returns-else-fresh-clause-untouched : goal.returns-else-fresh-clause-untouched
returns-else-fresh-clause-untouched g c = err_then c.open_made.result _ _ (λ refused same. damage_is _ refused.fault same) c.open_made.ensures.same_refused

pub returns-else-fresh-clause-kept : goal.returns-else-fresh-clause-kept
returns-else-fresh-clause-kept g c = err_then c.open_made.result _ _ (λ refused same. unless_of _ refused.fault (λ known. inl (ap (λ (t : History). t.now.reads) (same known)))) c.open_made.ensures.same_refused
