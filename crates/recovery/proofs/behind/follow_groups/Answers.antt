use Rattle.std.proofs.Common.{◌∙◌, Some, ap, refl, sym}
use Rattle.paged_seq.specs.PagedMaps.{file_entries}
use Rattle.store_contents.specs.Contents.{goes_on_from}
use Rattle.recovery.proofs.AnswerLaws.{unless_of}
use Rattle.recovery.proofs.OverLaws.{commits_alone, groups_apart, groups_misfit, groups_with_images}
use Rattle.recovery.proofs.PagedSteps.{err_then, ok_then, reason_at, reason_leads}
use Rattle.recovery.proofs.WalkLaws.{file_sorted}
use Rattle.recovery.proofs.behind.follow_groups.Goals as goal

pub follow-requires : goal.follow-requires
follow-requires g c =
    let file = (g.P.Disk.history c.args.seq.now.disk).now.reads in
    record { sorted = λ known. file_sorted file (file_entries file) c.args.base (c.requires.held known) }

pub returns-then-is_some-clause-reason : goal.returns-then-is_some-clause-reason
returns-then-is_some-clause-reason g c = reason_at _ _ c.at.result _ c.at.ensures
    (λ known. groups_with_images (file_entries (g.P.Disk.history c.args.seq.now.disk).now.reads, c.args.base) c.args.groups (sym c.is_some.ensures ∙ c.if-is_some.true))

pub returns-then-is_some-clause-uncounted : goal.returns-then-is_some-clause-uncounted
returns-then-is_some-clause-uncounted g c = unless_of _ c.at.result refl

pub returns-then-not-goes_on_from-clause-reason : goal.returns-then-not-goes_on_from-clause-reason
returns-then-not-goes_on_from-clause-reason g c = reason_at _ _ c.at-then-not-goes_on_from.result _ c.at-then-not-goes_on_from.ensures (λ known.
    groups_apart (file_entries (g.P.Disk.history c.args.seq.now.disk).now.reads, c.args.base) c.args.groups (sym c.is_some.ensures ∙ c.if-is_some.false) (ap (goes_on_from (Some c.args.base)) (sym c.as_slice.ensures) ∙ sym c.goes_on_from.ensures ∙ c.if-not-goes_on_from.true))

pub returns-then-not-goes_on_from-clause-uncounted : goal.returns-then-not-goes_on_from-clause-uncounted
returns-then-not-goes_on_from-clause-uncounted g c = unless_of _ c.at-then-not-goes_on_from.result refl

pub returns-clause-commits : goal.returns-clause-commits
returns-clause-commits g c = ok_then c.follow.result _ _ (λ net _. commits_alone c.args.groups (sym c.is_some.ensures ∙ c.if-is_some.false)) c.follow.ensures.net

pub returns-clause-goes_on : goal.returns-clause-goes_on
returns-clause-goes_on g c = ok_then c.follow.result _ _ (λ net _. ap (goes_on_from (Some c.args.base)) (sym c.as_slice.ensures) ∙ sym c.goes_on_from.ensures ∙ c.if-not-goes_on_from.false) c.follow.ensures.net

pub returns-clause-reason : goal.returns-clause-reason
returns-clause-reason g c = err_then c.follow.result _ _ (λ fault. reason_leads _ _ _ _ fault
    (λ place misfit known. groups_misfit (file_entries (g.P.Disk.history c.args.seq.now.disk).now.reads) c.args.base c.args.groups place (sym c.is_some.ensures ∙ c.if-is_some.false) (ap (goes_on_from (Some c.args.base)) (sym c.as_slice.ensures) ∙ sym c.goes_on_from.ensures ∙ c.if-not-goes_on_from.false) (misfit known)) (λ rose. rose)) c.follow.ensures.reason
