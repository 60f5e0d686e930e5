use Rattle.std.proofs.Common.{ℕ, ◌∙◌, inl, sym, ap, subst}
use Rattle.outside_traits.specs.DiskPairs.{pair_of}
use Rattle.outside_traits.specs.Disks.{DiskState}
use Rattle.node_records.specs.declared.open_error.File.TheVariants.{Pages}
use Rattle.journal.specs.Journals.{is_fresh}
use Rattle.store_contents.specs.Contents.{place_in}
use Rattle.recovery.specs.Causes.{OneRose, RiseOnlyAtFault}
use Rattle.recovery.proofs.AgainLaws.{fresh_refused, kept_from, ready_from, refused_at_after, refuses_from}
use Rattle.recovery.proofs.AnswerLaws.{unless_of, unless_then}
use Rattle.recovery.proofs.PagedSteps.{err_then, match_then, moments_before, ok_then, opened_before, opens_before, pages_unopened, reason_at, reason_leads, rests_now, stood_itself}
use Rattle.recovery.proofs.opening.open_refused.Goals as goal

-- ---- what is called

pub open_unfinished-requires-clause-journal : goal.open_unfinished-requires-clause-journal
open_unfinished-requires-clause-journal g c tj = rests_now (g.J.Disk.history c.args.journal) (g.J.Disk.history c.look-looked.new.journal) (c.in-Ok.ensures.synced.0 tj)

pub open_unfinished-requires-clause-pages : goal.open_unfinished-requires-clause-pages
open_unfinished-requires-clause-pages g c tp = rests_now (g.P.Disk.history c.args.pages) (g.P.Disk.history c.look-looked.new.pages) (c.in-Ok.ensures.synced.1 tp)

pub open_unfinished-requires-clause-made : goal.open_unfinished-requires-clause-made
open_unfinished-requires-clause-made g c tj = sym (c.in-Ok.ensures.fresh tj) ∙ c.if-fresh.false

pub open_unfinished-requires-clause-refused : goal.open_unfinished-requires-clause-refused
open_unfinished-requires-clause-refused g c tj tp =
    let old = pair_of (g.J.Disk.history c.args.journal) (g.P.Disk.history c.args.pages) in
    let mid = pair_of (g.J.Disk.history c.look-looked.new.journal) (g.P.Disk.history c.look-looked.new.pages) in
    refused_at_after old mid mid (c.in-Ok.ensures.synced.0 tj) (c.in-Ok.ensures.synced.1 tp) (place_in Pages 0) (c.requires.refused tj tp)

-- ---- behind the syncs

pub returns-else-fresh-clause-map : goal.returns-else-fresh-clause-map
returns-else-fresh-clause-map g c =
    let old = pair_of (g.J.Disk.history c.args.journal) (g.P.Disk.history c.args.pages) in
    let mid = pair_of (g.J.Disk.history c.look-looked.new.journal) (g.P.Disk.history c.look-looked.new.pages) in
    ok_then c.open_unfinished.result _ _ (λ store is. record {
      opens = λ tj tp es told.
          opens_before old mid (pair_of store.journal.history (g.P.Disk.history store.base.disk)) es store.number (c.in-Ok.ensures.synced.0 tj) (c.in-Ok.ensures.synced.1 tp) (is.opens tj tp es told);
      tree = is.tree;
    }) c.open_unfinished.ensures.map

pub returns-else-fresh-clause-ready : goal.returns-else-fresh-clause-ready
returns-else-fresh-clause-ready g c =
    let old = pair_of (g.J.Disk.history c.args.journal) (g.P.Disk.history c.args.pages) in
    let mid = pair_of (g.J.Disk.history c.look-looked.new.journal) (g.P.Disk.history c.look-looked.new.pages) in
    ok_then c.open_unfinished.result _ _ (λ store ready. record {
      synced = ready_from g.J.Disk.is_known g.P.Disk.is_known old mid (pair_of store.journal.history (g.P.Disk.history store.base.disk)) (λ tj tp. (c.in-Ok.ensures.synced.0 tj, c.in-Ok.ensures.synced.1 tp))
          (λ rests opened. opened_before old mid (pair_of store.journal.history (g.P.Disk.history store.base.disk)) g.J.Disk.is_known g.P.Disk.is_known c.in-Ok.ensures.synced.0 c.in-Ok.ensures.synced.1 opened) ready.synced;
      next = ready.next;
    }) c.open_unfinished.ensures.ready

pub returns-else-fresh-clause-any_moment : goal.returns-else-fresh-clause-any_moment
returns-else-fresh-clause-any_moment g c tj tp =
    let old = pair_of (g.J.Disk.history c.args.journal) (g.P.Disk.history c.args.pages) in
    let mid = pair_of (g.J.Disk.history c.look-looked.new.journal) (g.P.Disk.history c.look-looked.new.pages) in
    match_then c.open_unfinished.result _ _ _ _
    (λ store run. moments_before old mid (pair_of store.journal.history (g.P.Disk.history store.base.disk))
    (c.faults.ensures.reads_an_image tj) (c.faults-2.ensures.reads_an_image tp) (c.in-Ok.ensures.synced.0 tj) (c.in-Ok.ensures.synced.1 tp) (c.look-looked.ensures.any_moment tj tp) run)
    (λ refused left. pages_unopened old (pair_of (g.J.Disk.history refused.journal) (g.P.Disk.history refused.pages)) (moments_before old mid (pair_of (g.J.Disk.history refused.journal) (g.P.Disk.history refused.pages))
    (c.faults.ensures.reads_an_image tj) (c.faults-2.ensures.reads_an_image tp) (c.in-Ok.ensures.synced.0 tj) (c.in-Ok.ensures.synced.1 tp) (c.look-looked.ensures.any_moment tj tp) left.any_moment))
    (c.open_unfinished.ensures.any_moment tj tp)

pub returns-else-fresh-clause-reason : goal.returns-else-fresh-clause-reason
returns-else-fresh-clause-reason g c =
    let old = pair_of (g.J.Disk.history c.args.journal) (g.P.Disk.history c.args.pages) in
    let mid = pair_of (g.J.Disk.history c.look-looked.new.journal) (g.P.Disk.history c.look-looked.new.pages) in
    err_then c.open_unfinished.result _ _ (λ refused reason. reason_leads _ _ _ _ refused.fault
    (λ place refuses tj tp. refuses_from old mid (pair_of (g.J.Disk.history refused.journal) (g.P.Disk.history refused.pages)) (c.in-Ok.ensures.synced.0 tj) (c.in-Ok.ensures.synced.1 tp) place (refuses tj tp))
    (λ rose. subst (λ (n : ℕ). OneRose n (g.J.Disk.faults refused.journal) (g.P.Disk.faults c.args.pages) (g.P.Disk.faults refused.pages)) c.in-Ok.ensures.exact.0
    (subst (λ (n : ℕ). OneRose (g.J.Disk.faults c.look-looked.new.journal) (g.J.Disk.faults refused.journal) n (g.P.Disk.faults refused.pages)) c.in-Ok.ensures.exact.1 rose)) reason) c.open_unfinished.ensures.reason

pub returns-else-fresh-clause-kept : goal.returns-else-fresh-clause-kept
returns-else-fresh-clause-kept g c =
    let old = pair_of (g.J.Disk.history c.args.journal) (g.P.Disk.history c.args.pages) in
    let mid = pair_of (g.J.Disk.history c.look-looked.new.journal) (g.P.Disk.history c.look-looked.new.pages) in
    err_then c.open_unfinished.result _ _ (λ refused kept.
    kept_from g.J.Disk.is_known g.P.Disk.is_known old mid (pair_of (g.J.Disk.history refused.journal) (g.P.Disk.history refused.pages)) refused.fault
    (λ tj tp. (c.in-Ok.ensures.synced.0 tj, c.in-Ok.ensures.synced.1 tp)) kept) c.open_unfinished.ensures.kept

pub returns-else-fresh-clause-counts : goal.returns-else-fresh-clause-counts
returns-else-fresh-clause-counts g c = match_then c.open_unfinished.result _ _ _ _
    (λ store same. (same.0 ∙ c.in-Ok.ensures.exact.0, same.1 ∙ c.in-Ok.ensures.exact.1))
    (λ refused rise. subst (λ (n : ℕ). RiseOnlyAtFault refused.fault n (g.J.Disk.faults refused.journal) (g.P.Disk.faults c.args.pages) (g.P.Disk.faults refused.pages)) c.in-Ok.ensures.exact.0
    (subst (λ (n : ℕ). RiseOnlyAtFault refused.fault (g.J.Disk.faults c.look-looked.new.journal) (g.J.Disk.faults refused.journal) n (g.P.Disk.faults refused.pages)) c.in-Ok.ensures.exact.1 rise))
    c.open_unfinished.ensures.counts

-- ---- a fresh journal

pub returns-then-fresh-clause-any_moment : goal.returns-then-fresh-clause-any_moment
returns-then-fresh-clause-any_moment g c tj tp =
    let old = pair_of (g.J.Disk.history c.args.journal) (g.P.Disk.history c.args.pages) in
    let mid = pair_of (g.J.Disk.history c.look-looked.new.journal) (g.P.Disk.history c.look-looked.new.pages) in
    pages_unopened old mid (stood_itself old mid (c.look-looked.ensures.any_moment tj tp))

pub returns-then-fresh-clause-reason : goal.returns-then-fresh-clause-reason
returns-then-fresh-clause-reason g c =
    let old = pair_of (g.J.Disk.history c.args.journal) (g.P.Disk.history c.args.pages) in
    let mid = pair_of (g.J.Disk.history c.look-looked.new.journal) (g.P.Disk.history c.look-looked.new.pages) in
    reason_at _ _ c.at.result (place_in Pages 0) c.at.ensures (λ tj tp. record {
      broken = fresh_refused old.journal.now.reads old.pages.now.reads (place_in Pages 0)
          (ap (λ (s : DiskState). is_fresh s.reads) (sym (c.in-Ok.ensures.synced.0 tj)) ∙ sym (c.in-Ok.ensures.fresh tj) ∙ c.if-fresh.true) (c.requires.refused tj tp);
      journal = c.in-Ok.ensures.synced.0 tj;
      pages = c.in-Ok.ensures.synced.1 tp;
    })

pub returns-then-fresh-clause-kept : goal.returns-then-fresh-clause-kept
returns-then-fresh-clause-kept g c = unless_of _ c.at.result
    (λ tj tp none. record { journal = λ _. inl (ap (λ (s : DiskState). s.reads) (c.in-Ok.ensures.synced.0 tj)); pages = λ _. c.in-Ok.ensures.synced.1 tp })

pub returns-then-fresh-clause-counts : goal.returns-then-fresh-clause-counts
returns-then-fresh-clause-counts g c = record {
  uncounted = unless_of _ c.at.result c.in-Ok.ensures.exact;
  later = c.look-looked.ensures.later;
}

-- ---- where no sync was made

pub returns-in-Err-clause-any_moment : goal.returns-in-Err-clause-any_moment
returns-in-Err-clause-any_moment g c tj tp =
    let old = pair_of (g.J.Disk.history c.args.journal) (g.P.Disk.history c.args.pages) in
    let mid = pair_of (g.J.Disk.history c.look-looked.new.journal) (g.P.Disk.history c.look-looked.new.pages) in
    pages_unopened old mid (stood_itself old mid (c.look-looked.ensures.any_moment tj tp))

pub returns-in-Err-clause-reason : goal.returns-in-Err-clause-reason
returns-in-Err-clause-reason g c = reason_leads _ _ _ _ c.in-Err.fault (λ place never. absurd never) (λ rose. rose) c.in-Err.ensures.reason

pub returns-in-Err-clause-kept : goal.returns-in-Err-clause-kept
returns-in-Err-clause-kept g c = unless_then _ _ c.in-Err.fault
    (λ synced tj tp none. record { journal = λ _. inl (ap (λ (s : DiskState). s.reads) (synced.0 tj)); pages = λ _. synced.1 tp }) c.in-Err.ensures.synced

pub returns-in-Err-clause-counts : goal.returns-in-Err-clause-counts
returns-in-Err-clause-counts g c = record { uncounted = c.in-Err.ensures.exact; later = c.look-looked.ensures.later }
