use Rattle.std.proofs.Common.{ℕ, ◌∙◌, inl, ap, subst}
use Rattle.outside_traits.specs.DiskPairs.{pair_of}
use Rattle.outside_traits.specs.Disks.{DiskState}
use Rattle.page_store.specs.Pages.{PoolView}
use Rattle.recovery.specs.Causes.{OneRose, RiseOnlyAtFault}
use Rattle.recovery.proofs.AnswerLaws.{unless_then}
use Rattle.recovery.proofs.PagedSteps.{err_then, keeps_before, match_then, moments_before, ok_then, opened_before, opens_before, pages_unopened, reason_leads, refuses_before, rests_now, stood_itself}
use Rattle.recovery.proofs.once.open_once.Goals as goal

-- ---- what is called

pub open_synced-requires-clause-journal : goal.open_synced-requires-clause-journal
open_synced-requires-clause-journal g c tj = rests_now (g.J.Disk.history c.args.journal) (g.J.Disk.history c.look-looked.new.journal) (c.in-Ok.ensures.synced.0 tj)

pub open_synced-requires-clause-pages : goal.open_synced-requires-clause-pages
open_synced-requires-clause-pages g c tp = rests_now (g.P.Disk.history c.args.pages) (g.P.Disk.history c.look-looked.new.pages) (c.in-Ok.ensures.synced.1 tp)

pub open_synced-requires-clause-empty : goal.open_synced-requires-clause-empty
open_synced-requires-clause-empty g c = ap (λ (pool : PoolView). pool.kept) c.in-Ok.ensures.pool

-- ---- behind the syncs

pub returns-in-Ok-clause-opens : goal.returns-in-Ok-clause-opens
returns-in-Ok-clause-opens g c =
    let old = pair_of (g.J.Disk.history c.args.journal) (g.P.Disk.history c.args.pages) in
    let mid = pair_of (g.J.Disk.history c.look-looked.new.journal) (g.P.Disk.history c.look-looked.new.pages) in
    ok_then c.open_synced.result _ _ (λ store opens tj tp es told.
    opens_before old mid (pair_of store.journal.history (g.P.Disk.history store.base.disk)) es store.number (c.in-Ok.ensures.synced.0 tj) (c.in-Ok.ensures.synced.1 tp) (opens tj tp es told)) c.open_synced.ensures.opens

pub returns-in-Ok-clause-frames : goal.returns-in-Ok-clause-frames
returns-in-Ok-clause-frames g c = ok_then c.open_synced.result _ _ (λ store is. is ∙ ap (λ (pool : PoolView). pool.most) c.in-Ok.ensures.pool) c.open_synced.ensures.most

pub returns-in-Ok-clause-synced : goal.returns-in-Ok-clause-synced
returns-in-Ok-clause-synced g c =
    let old = pair_of (g.J.Disk.history c.args.journal) (g.P.Disk.history c.args.pages) in
    let mid = pair_of (g.J.Disk.history c.look-looked.new.journal) (g.P.Disk.history c.look-looked.new.pages) in
    ok_then c.open_synced.result _ _ (λ store opened.
    opened_before old mid (pair_of store.journal.history (g.P.Disk.history store.base.disk)) g.J.Disk.is_known g.P.Disk.is_known c.in-Ok.ensures.synced.0 c.in-Ok.ensures.synced.1 opened) c.open_synced.ensures.synced

pub returns-in-Ok-clause-any_moment : goal.returns-in-Ok-clause-any_moment
returns-in-Ok-clause-any_moment g c tj tp =
    let old = pair_of (g.J.Disk.history c.args.journal) (g.P.Disk.history c.args.pages) in
    let mid = pair_of (g.J.Disk.history c.look-looked.new.journal) (g.P.Disk.history c.look-looked.new.pages) in
    match_then c.open_synced.result _ _ _ _
    (λ store run. moments_before old mid (pair_of store.journal.history (g.P.Disk.history store.base.disk))
    (c.faults.ensures.reads_an_image tj) (c.faults-2.ensures.reads_an_image tp) (c.in-Ok.ensures.synced.0 tj) (c.in-Ok.ensures.synced.1 tp) (c.look-looked.ensures.any_moment tj tp) run)
    (λ refused run. pages_unopened old (pair_of (g.J.Disk.history refused.journal) (g.P.Disk.history refused.pages)) (moments_before old mid (pair_of (g.J.Disk.history refused.journal) (g.P.Disk.history refused.pages))
    (c.faults.ensures.reads_an_image tj) (c.faults-2.ensures.reads_an_image tp) (c.in-Ok.ensures.synced.0 tj) (c.in-Ok.ensures.synced.1 tp) (c.look-looked.ensures.any_moment tj tp) run))
    (c.open_synced.ensures.any_moment tj tp)

pub returns-in-Ok-clause-reason : goal.returns-in-Ok-clause-reason
returns-in-Ok-clause-reason g c =
    let old = pair_of (g.J.Disk.history c.args.journal) (g.P.Disk.history c.args.pages) in
    let mid = pair_of (g.J.Disk.history c.look-looked.new.journal) (g.P.Disk.history c.look-looked.new.pages) in
    err_then c.open_synced.result _ _ (λ refused reason. reason_leads _ _ _ _ refused.fault
    (λ place refuses tj tp. refuses_before old mid (pair_of (g.J.Disk.history refused.journal) (g.P.Disk.history refused.pages)) place (c.in-Ok.ensures.synced.0 tj) (c.in-Ok.ensures.synced.1 tp) (refuses tj tp))
    (λ rose. subst (λ (n : ℕ). OneRose n (g.J.Disk.faults refused.journal) (g.P.Disk.faults c.args.pages) (g.P.Disk.faults refused.pages)) c.in-Ok.ensures.exact.0
    (subst (λ (n : ℕ). OneRose (g.J.Disk.faults c.look-looked.new.journal) (g.J.Disk.faults refused.journal) n (g.P.Disk.faults refused.pages)) c.in-Ok.ensures.exact.1 rose)) reason) c.open_synced.ensures.reason

pub returns-in-Ok-clause-kept : goal.returns-in-Ok-clause-kept
returns-in-Ok-clause-kept g c =
    let old = pair_of (g.J.Disk.history c.args.journal) (g.P.Disk.history c.args.pages) in
    let mid = pair_of (g.J.Disk.history c.look-looked.new.journal) (g.P.Disk.history c.look-looked.new.pages) in
    err_then c.open_synced.result _ _ (λ refused kept. unless_then _ _ refused.fault
    (keeps_before old mid (pair_of (g.J.Disk.history refused.journal) (g.P.Disk.history refused.pages)) g.J.Disk.is_known g.P.Disk.is_known c.in-Ok.ensures.synced.0 c.in-Ok.ensures.synced.1) kept) c.open_synced.ensures.kept

pub returns-in-Ok-clause-counts : goal.returns-in-Ok-clause-counts
returns-in-Ok-clause-counts g c = match_then c.open_synced.result _ _ _ _
    (λ store same. (same.0 ∙ c.in-Ok.ensures.exact.0, same.1 ∙ c.in-Ok.ensures.exact.1))
    (λ refused rise. subst (λ (n : ℕ). RiseOnlyAtFault refused.fault n (g.J.Disk.faults refused.journal) (g.P.Disk.faults c.args.pages) (g.P.Disk.faults refused.pages)) c.in-Ok.ensures.exact.0
    (subst (λ (n : ℕ). RiseOnlyAtFault refused.fault (g.J.Disk.faults c.look-looked.new.journal) (g.J.Disk.faults refused.journal) n (g.P.Disk.faults refused.pages)) c.in-Ok.ensures.exact.1 rise))
    c.open_synced.ensures.counts

-- ---- where no sync was made

pub returns-in-Err-clause-any_moment : goal.returns-in-Err-clause-any_moment
returns-in-Err-clause-any_moment g c tj tp =
    let old = pair_of (g.J.Disk.history c.args.journal) (g.P.Disk.history c.args.pages) in
    let mid = pair_of (g.J.Disk.history c.look-looked.new.journal) (g.P.Disk.history c.look-looked.new.pages) in
    pages_unopened old mid (stood_itself old mid (c.look-looked.ensures.any_moment tj tp))

pub returns-in-Err-clause-reason : goal.returns-in-Err-clause-reason
returns-in-Err-clause-reason g c = reason_leads _ _ _ _ c.in-Err.fault (λ place never. absurd never) (λ rose. rose) c.in-Err.ensures.reason

pub returns-in-Err-clause-kept : goal.returns-in-Err-clause-kept
returns-in-Err-clause-kept g c = unless_then _ _ c.in-Err.fault
    (λ synced. record { journal = λ tj. inl (ap (λ (s : DiskState). s.reads) (synced.0 tj)); pages = synced.1 }) c.in-Err.ensures.synced

pub returns-in-Err-clause-counts : goal.returns-in-Err-clause-counts
returns-in-Err-clause-counts g c = record { uncounted = c.in-Err.ensures.exact; later = c.look-looked.ensures.later }
