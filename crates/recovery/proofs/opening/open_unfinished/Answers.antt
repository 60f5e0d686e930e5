use Rattle.std.proofs.Common.{ℕ, ◌∙◌, ap, subst, sym}
use Rattle.outside_traits.specs.DiskPairs.{pair_of}
use Rattle.outside_traits.specs.Disks.{DiskState, all_synced}
use Rattle.recovery.specs.Causes.{OneRose, RiseOnlyAtFault}
use Rattle.recovery.proofs.AgainLaws.{had_images, never_refused, opens_finished, untouched_keeps, untouched_refuses}
use Rattle.recovery.proofs.AnswerLaws.{unless_of}
use Rattle.recovery.proofs.FinishLaws.{stood_on}
use Rattle.recovery.proofs.PagedSteps.{err_then, match_then, ok_both, pages_unopened, reason_leads}
use Rattle.recovery.proofs.opening.open_unfinished.Goals as goal

-- ---- the checkpoint was finished

pub returns-in-Ok-clause-map : goal.returns-in-Ok-clause-map
returns-in-Ok-clause-map g c =
    let old = pair_of (g.J.Disk.history c.args.journal) (g.P.Disk.history c.args.pages) in
    let f = pair_of (g.J.Disk.history c.in-Ok.done.0) (g.P.Disk.history c.in-Ok.done.1) in
    ok_both c.open_once.result _ _ _ (λ store opens tree. record {
      opens = λ tj tp es told. opens_finished old f (pair_of store.journal.history (g.P.Disk.history store.base.disk)) (c.in-Ok.ensures.finished tj tp) es store.number (opens tj tp es told);
      tree = tree;
    }) c.open_once.ensures.opens c.open_once.ensures.tree

pub returns-in-Ok-clause-ready : goal.returns-in-Ok-clause-ready
returns-in-Ok-clause-ready g c =
    let old = pair_of (g.J.Disk.history c.args.journal) (g.P.Disk.history c.args.pages) in
    let f = pair_of (g.J.Disk.history c.in-Ok.done.0) (g.P.Disk.history c.in-Ok.done.1) in
    ok_both c.open_once.result _ _ _ (λ store opened next. record {
      synced = record {
        journal = λ tj. (opened.journal tj).synced;
        pages = λ tp. opened.pages tp ∙ sym (ap (λ (s : DiskState). all_synced s.reads) (opened.pages tp));
        same = λ tj tp none. absurd (had_images old f _ (c.in-Ok.ensures.finished tj tp) (c.requires.refused tj tp) none);
      };
      next = next;
    }) c.open_once.ensures.synced c.open_once.ensures.next

pub returns-in-Ok-clause-any_moment : goal.returns-in-Ok-clause-any_moment
returns-in-Ok-clause-any_moment g c tj tp =
    let old = pair_of (g.J.Disk.history c.args.journal) (g.P.Disk.history c.args.pages) in
    let f = pair_of (g.J.Disk.history c.in-Ok.done.0) (g.P.Disk.history c.in-Ok.done.1) in
    match_then c.open_once.result _ _ _ _
    (λ store run. stood_on old f (pair_of store.journal.history (g.P.Disk.history store.base.disk)) (c.in-Ok.ensures.any_moment tj tp) run)
    (λ refused left. pages_unopened old (pair_of (g.J.Disk.history refused.journal) (g.P.Disk.history refused.pages))
    (stood_on old f (pair_of (g.J.Disk.history refused.journal) (g.P.Disk.history refused.pages)) (c.in-Ok.ensures.any_moment tj tp) left.any_moment))
    (c.open_once.ensures.any_moment tj tp)

pub returns-in-Ok-clause-reason : goal.returns-in-Ok-clause-reason
returns-in-Ok-clause-reason g c =
    let old = pair_of (g.J.Disk.history c.args.journal) (g.P.Disk.history c.args.pages) in
    let f = pair_of (g.J.Disk.history c.in-Ok.done.0) (g.P.Disk.history c.in-Ok.done.1) in
    err_then c.open_once.result _ _ (λ refused reason. reason_leads _ _ _ _ refused.fault
    (λ place is tj tp. never_refused old f (pair_of (g.J.Disk.history refused.journal) (g.P.Disk.history refused.pages)) (c.in-Ok.ensures.finished tj tp) place (is tj tp))
    (λ rose. subst (λ (n : ℕ). OneRose n (g.J.Disk.faults refused.journal) (g.P.Disk.faults c.args.pages) (g.P.Disk.faults refused.pages)) c.in-Ok.ensures.counts.0
    (subst (λ (n : ℕ). OneRose (g.J.Disk.faults c.in-Ok.done.0) (g.J.Disk.faults refused.journal) n (g.P.Disk.faults refused.pages)) c.in-Ok.ensures.counts.1 rose)) reason) c.open_once.ensures.reason

pub returns-in-Ok-clause-kept : goal.returns-in-Ok-clause-kept
returns-in-Ok-clause-kept g c =
    let old = pair_of (g.J.Disk.history c.args.journal) (g.P.Disk.history c.args.pages) in
    let f = pair_of (g.J.Disk.history c.in-Ok.done.0) (g.P.Disk.history c.in-Ok.done.1) in
    err_then c.open_once.result _ _ (λ refused kept. unless_of _ refused.fault (λ tj tp none. absurd (had_images old f _ (c.in-Ok.ensures.finished tj tp) (c.requires.refused tj tp) none))) c.open_once.ensures.kept

pub returns-in-Ok-clause-counts : goal.returns-in-Ok-clause-counts
returns-in-Ok-clause-counts g c = match_then c.open_once.result _ _ _ _
    (λ store same. (same.0 ∙ c.in-Ok.ensures.counts.0, same.1 ∙ c.in-Ok.ensures.counts.1))
    (λ refused rise. subst (λ (n : ℕ). RiseOnlyAtFault refused.fault n (g.J.Disk.faults refused.journal) (g.P.Disk.faults c.args.pages) (g.P.Disk.faults refused.pages)) c.in-Ok.ensures.counts.0
    (subst (λ (n : ℕ). RiseOnlyAtFault refused.fault (g.J.Disk.faults c.in-Ok.done.0) (g.J.Disk.faults refused.journal) n (g.P.Disk.faults refused.pages)) c.in-Ok.ensures.counts.1 rise))
    c.open_once.ensures.counts

-- ---- it wasn't

pub returns-in-Err-clause-any_moment : goal.returns-in-Err-clause-any_moment
returns-in-Err-clause-any_moment g c tj tp =
    let old = pair_of (g.J.Disk.history c.args.journal) (g.P.Disk.history c.args.pages) in
    let new = pair_of (g.J.Disk.history c.in-Err.refused.journal) (g.P.Disk.history c.in-Err.refused.pages) in
    pages_unopened old new (c.in-Err.ensures.any_moment tj tp)

pub returns-in-Err-clause-reason : goal.returns-in-Err-clause-reason
returns-in-Err-clause-reason g c =
    let old = pair_of (g.J.Disk.history c.args.journal) (g.P.Disk.history c.args.pages) in
    let new = pair_of (g.J.Disk.history c.in-Err.refused.journal) (g.P.Disk.history c.in-Err.refused.pages) in
    reason_leads _ _ _ _ c.in-Err.refused.fault (λ place is tj tp. untouched_refuses old new place (c.requires.journal tj) (c.requires.pages tp) (is tj tp)) (λ rose. rose) c.in-Err.ensures.reason

pub returns-in-Err-clause-kept : goal.returns-in-Err-clause-kept
returns-in-Err-clause-kept g c =
    let old = pair_of (g.J.Disk.history c.args.journal) (g.P.Disk.history c.args.pages) in
    let new = pair_of (g.J.Disk.history c.in-Err.refused.journal) (g.P.Disk.history c.in-Err.refused.pages) in
    unless_of _ c.in-Err.refused.fault (λ tj tp none. untouched_keeps g.J.Disk.is_known g.P.Disk.is_known old new (c.in-Err.ensures.without tj tp none) (c.requires.pages tp))
