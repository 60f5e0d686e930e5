use Rattle.std.proofs.Common.{◌≡◌, ℕ, ◌∙◌, Ok, Err, inl, sym, ap, subst}
use Rattle.outside_traits.specs.DiskPairs.{pair_of}
use Rattle.outside_traits.specs.Disks.{all_synced}
use Rattle.outside_traits.specs.Moments.{History, IsAllSynced}
use Rattle.page_store.specs.Pages.{ArePagesOf}
use Rattle.node_pages.specs.PageFiles.{contents_of_file}
use Rattle.paged_seq.specs.PagedMaps.{file_entries}
use Rattle.store_contents.specs.StoredTrees.{LeaveWhatStood}
use Rattle.recovery.specs.Causes.{OneRose, RiseOnlyAtFault}
use Rattle.recovery.specs.Openings.{OpensPages}
use Rattle.recovery.specs.inside.Over.{IsRefused, IsRefusedAt}
use Rattle.recovery.proofs.AnswerLaws.{unless_of, unless_then}
use Rattle.recovery.proofs.PagedSteps.{counts_joined, err_then, match_then, nothing_moves, ok_then, pages_rose, reason_leads}
use Rattle.recovery.proofs.over.open_synced.Goals as goal

-- ---- what is called

pub hold-requires : goal.hold-requires
hold-requires g c = record { kept = λ tp. subst (ArePagesOf (g.P.Disk.history c.args.pages).now.reads) (sym c.requires.empty) tt }

pub open_over-requires-clause-pages : goal.open_over-requires-clause-pages
open_over-requires-clause-pages g c tp = subst IsAllSynced (sym (c.in-Ok.ensures.same tp)) (c.requires.pages tp)

pub open_over-requires-clause-held : goal.open_over-requires-clause-held
open_over-requires-clause-held g c tp = subst (λ (h : History). contents_of_file h.now.reads ≡ Ok (file_entries h.now.reads, c.in-Ok.seq.index.base)) (sym (c.in-Ok.ensures.same tp)) (c.in-Ok.ensures.held tp)

pub refuse-requires-clause-breaks : goal.refuse-requires-clause-breaks
refuse-requires-clause-breaks g c = reason_leads _ _ _ _ c.in-Err.field-0.fault
    (λ place breaks. (breaks.0, breaks.1, λ tp. subst (λ (h : History). contents_of_file h.now.reads ≡ Err breaks.0) (sym (c.in-Err.ensures.same tp)) (breaks.2 tp))) (λ _. tt) c.in-Err.ensures.reason

-- ---- over pages that are held

pub returns-in-Ok-clause-opens : goal.returns-in-Ok-clause-opens
returns-in-Ok-clause-opens g c =
    let j = g.J.Disk.history c.args.journal in
    ok_then c.open_over.result _ _ (λ store opens tj tp es told.
    subst (λ (p : History). OpensPages (pair_of j p) (pair_of store.journal.history (g.P.Disk.history store.base.disk)) es store.number) (c.in-Ok.ensures.same tp) (opens tj tp es told)) c.open_over.ensures.opens

pub returns-in-Ok-clause-most : goal.returns-in-Ok-clause-most
returns-in-Ok-clause-most g c = ok_then c.open_over.result _ _ (λ store is. is ∙ c.in-Ok.ensures.most) c.open_over.ensures.most

pub returns-in-Ok-clause-synced : goal.returns-in-Ok-clause-synced
returns-in-Ok-clause-synced g c = ok_then c.open_over.result _ _ (λ store opened. record {
  journal = opened.journal;
  pages = λ tp. opened.pages tp ∙ ap (λ (h : History). all_synced h.now.reads) (c.in-Ok.ensures.same tp);
}) c.open_over.ensures.synced

pub returns-in-Ok-clause-any_moment : goal.returns-in-Ok-clause-any_moment
returns-in-Ok-clause-any_moment g c tj tp =
    let j = g.J.Disk.history c.args.journal in
    match_then c.open_over.result _ _ _ _
    (λ store run. subst (λ (p : History). LeaveWhatStood (pair_of j p) (pair_of store.journal.history (g.P.Disk.history store.base.disk))) (c.in-Ok.ensures.same tp) run)
    (λ refused run. subst (λ (p : History). LeaveWhatStood (pair_of j p) (pair_of (g.J.Disk.history refused.journal) (g.P.Disk.history refused.pages))) (c.in-Ok.ensures.same tp) run)
    (c.open_over.ensures.any_moment tj tp)

pub returns-in-Ok-clause-reason : goal.returns-in-Ok-clause-reason
returns-in-Ok-clause-reason g c =
    let j = g.J.Disk.history c.args.journal in
    err_then c.open_over.result _ _ (λ refused reason. reason_leads _ _ _ _ refused.fault
    (λ place refuses tj tp. subst (λ (p : History). IsRefused (pair_of j p) (pair_of (g.J.Disk.history refused.journal) (g.P.Disk.history refused.pages)) place) (c.in-Ok.ensures.same tp) (refuses tj tp))
    (λ rose. subst (λ (n : ℕ). OneRose (g.J.Disk.faults c.args.journal) (g.J.Disk.faults refused.journal) n (g.P.Disk.faults refused.pages)) c.in-Ok.ensures.exact rose) reason) c.open_over.ensures.reason

pub returns-in-Ok-clause-kept : goal.returns-in-Ok-clause-kept
returns-in-Ok-clause-kept g c = err_then c.open_over.result _ _ (λ refused kept. unless_then _ _ refused.fault (λ keeps. record {
  journal = keeps.journal;
  pages = λ tp. keeps.pages tp ∙ ap (λ (h : History). all_synced h.now.reads) (c.in-Ok.ensures.same tp);
}) kept) c.open_over.ensures.kept

pub returns-in-Ok-clause-counts : goal.returns-in-Ok-clause-counts
returns-in-Ok-clause-counts g c = match_then c.open_over.result _ _ _ _
    (λ store same. (same.0, same.1 ∙ c.in-Ok.ensures.exact))
    (λ refused rise. subst (λ (n : ℕ). RiseOnlyAtFault refused.fault (g.J.Disk.faults c.args.journal) (g.J.Disk.faults refused.journal) n (g.P.Disk.faults refused.pages)) c.in-Ok.ensures.exact rise)
    c.open_over.ensures.counts

-- ---- where they aren't

pub returns-in-Err-clause-any_moment : goal.returns-in-Err-clause-any_moment
returns-in-Err-clause-any_moment g c tj tp =
    nothing_moves (pair_of (g.J.Disk.history c.args.journal) (g.P.Disk.history c.args.pages)) (pair_of (g.J.Disk.history c.refuse.result.journal) (g.P.Disk.history c.refuse.result.pages))
    (λ i. pair_of (c.refuse.ensures.journal_same tj i) ((c.refuse.ensures.pages_same tp ∙ c.in-Err.ensures.same tp) i))

pub returns-in-Err-clause-reason : goal.returns-in-Err-clause-reason
returns-in-Err-clause-reason g c =
    let j = g.J.Disk.history c.args.journal in
    reason_leads _ _ _ _ c.refuse.result.fault
    (λ place at tj tp. record {
      refused = subst (λ (p : History). IsRefusedAt j.now.reads p.now.reads place) (c.in-Err.ensures.same tp) (at tj tp);
      journal = ap (λ (h : History). h.now) (c.refuse.ensures.journal_same tj) ∙ c.requires.journal tj;
      pages = ap (λ (h : History). h.now) (c.refuse.ensures.pages_same tp ∙ c.in-Err.ensures.same tp) ∙ c.requires.pages tp;
    })
    (λ rose. pages_rose _ c.in-Err.field-0.fault _ _ _ _ _ c.in-Err.ensures.reason c.in-Err.ensures.later c.refuse.ensures.counts.later.1 rose) c.refuse.ensures.reason

pub returns-in-Err-clause-kept : goal.returns-in-Err-clause-kept
returns-in-Err-clause-kept g c = unless_of _ c.refuse.result.fault (record {
  journal = λ tj. inl (ap (λ (h : History). h.now.reads) (c.refuse.ensures.journal_same tj));
  pages = λ tp. ap (λ (h : History). h.now) (c.refuse.ensures.pages_same tp ∙ c.in-Err.ensures.same tp) ∙ c.requires.pages tp;
})

pub returns-in-Err-clause-counts : goal.returns-in-Err-clause-counts
returns-in-Err-clause-counts g c =
    counts_joined c.in-Err.field-0.fault c.refuse.result.fault _ _ _ _ _ c.in-Err.ensures.uncounted c.in-Err.ensures.later c.refuse.ensures.passes c.refuse.ensures.counts
