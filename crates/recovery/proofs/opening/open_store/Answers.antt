use Rattle.std.proofs.Common.{◌≡◌, ℕ, ◌∙◌, IsTrue, true, false, sym, ap, subst}
use Rattle.outside_traits.specs.DiskPairs.{pair_of}
use Rattle.outside_traits.specs.Disks.{DiskState, all_synced}
use Rattle.node_records.specs.declared.open_error.File.TheVariants.{Pages}
use Rattle.store_contents.specs.Contents.{place_in}
use Rattle.recovery.specs.Causes.{OneRose, RiseOnlyAtFault}
use Rattle.recovery.specs.inside.Over.{IsRefused}
use Rattle.recovery.proofs.AgainLaws.{kept_from, kept_unless, ready_from, refused_at_after, refused_there, refuses_from, refuses_other, uncounted_there}
use Rattle.recovery.proofs.FinishLaws.{stood_on}
use Rattle.recovery.proofs.PagedSteps.{err_then, match_then, ok_then, opened_before, opens_before, pages_unopened, reason_leads}
use Rattle.recovery.proofs.opening.open_store.Goals as goal

-- ---- it was opened at once

pub returns-in-Ok-clause-map : goal.returns-in-Ok-clause-map
returns-in-Ok-clause-map g c = record { opens = c.in-Ok.ensures.opens; tree = c.in-Ok.ensures.tree }

pub returns-in-Ok-clause-ready : goal.returns-in-Ok-clause-ready
returns-in-Ok-clause-ready g c =
    let opened = c.in-Ok.ensures.synced in
    record {
      synced = record {
        journal = λ tj. (opened.journal tj).synced;
        pages = λ tp. opened.pages tp ∙ sym (ap (λ (s : DiskState). all_synced s.reads) (opened.pages tp));
        same = λ tj tp none. opened;
      };
      next = c.in-Ok.ensures.next;
    }

-- ---- it was refused elsewhere

pub returns-else-is_first_page-clause-reason : goal.returns-else-is_first_page-clause-reason
returns-else-is_first_page-clause-reason g c =
    let old = pair_of (g.J.Disk.history c.args.journal) (g.P.Disk.history c.args.pages) in
    let r = pair_of (g.J.Disk.history c.in-Err.refused.journal) (g.P.Disk.history c.in-Err.refused.pages) in
    refuses_other g.J.Disk.is_known g.P.Disk.is_known old r _ c.in-Err.refused.fault
    (λ is. let clash : true ≡ false = sym (c.is_first_page.ensures.no is) ∙ c.if-is_first_page.false in cc) c.in-Err.ensures.reason

pub returns-else-is_first_page-clause-kept : goal.returns-else-is_first_page-clause-kept
returns-else-is_first_page-clause-kept g c = kept_unless _ _ _ _ c.in-Err.refused.fault c.in-Err.ensures.kept

-- ---- it was refused at the first page

pub open_refused-requires-clause-refused : goal.open_refused-requires-clause-refused
open_refused-requires-clause-refused g c tj tp =
    let old = pair_of (g.J.Disk.history c.args.journal) (g.P.Disk.history c.args.pages) in
    let r = pair_of (g.J.Disk.history c.in-Err.refused.journal) (g.P.Disk.history c.in-Err.refused.pages) in
    let there = refused_there (λ place. IsTrue g.J.Disk.is_known → IsTrue g.P.Disk.is_known → IsRefused old r place) _ c.in-Err.refused.fault (place_in Pages 0) (c.is_first_page.ensures.yes c.if-is_first_page.true) c.in-Err.ensures.reason tj tp in
    refused_at_after old r r there.journal there.pages (place_in Pages 0) there.refused

pub returns-then-is_first_page-clause-map : goal.returns-then-is_first_page-clause-map
returns-then-is_first_page-clause-map g c =
    let old = pair_of (g.J.Disk.history c.args.journal) (g.P.Disk.history c.args.pages) in
    let r = pair_of (g.J.Disk.history c.in-Err.refused.journal) (g.P.Disk.history c.in-Err.refused.pages) in
    ok_then c.open_refused.result _ _ (λ store is. record {
      opens = λ tj tp es told.
          let there = refused_there (λ place. IsTrue g.J.Disk.is_known → IsTrue g.P.Disk.is_known → IsRefused old r place) _ c.in-Err.refused.fault (place_in Pages 0) (c.is_first_page.ensures.yes c.if-is_first_page.true) c.in-Err.ensures.reason tj tp in
          opens_before old r (pair_of store.journal.history (g.P.Disk.history store.base.disk)) es store.number there.journal there.pages (is.opens tj tp es told);
      tree = is.tree;
    }) c.open_refused.ensures.map

pub returns-then-is_first_page-clause-ready : goal.returns-then-is_first_page-clause-ready
returns-then-is_first_page-clause-ready g c =
    let old = pair_of (g.J.Disk.history c.args.journal) (g.P.Disk.history c.args.pages) in
    let r = pair_of (g.J.Disk.history c.in-Err.refused.journal) (g.P.Disk.history c.in-Err.refused.pages) in
    ok_then c.open_refused.result _ _ (λ store ready.
    let new = pair_of store.journal.history (g.P.Disk.history store.base.disk) in
    record {
      synced = ready_from g.J.Disk.is_known g.P.Disk.is_known old r new
          (λ tj tp. let there = refused_there (λ place. IsTrue g.J.Disk.is_known → IsTrue g.P.Disk.is_known → IsRefused old r place) _ c.in-Err.refused.fault (place_in Pages 0) (c.is_first_page.ensures.yes c.if-is_first_page.true) c.in-Err.ensures.reason tj tp in (there.journal, there.pages))
          (λ both opened. opened_before old r new g.J.Disk.is_known g.P.Disk.is_known (λ tj. both.0) (λ tp. both.1) opened) ready.synced;
      next = ready.next;
    }) c.open_refused.ensures.ready

pub returns-then-is_first_page-clause-any_moment : goal.returns-then-is_first_page-clause-any_moment
returns-then-is_first_page-clause-any_moment g c tj tp =
    let old = pair_of (g.J.Disk.history c.args.journal) (g.P.Disk.history c.args.pages) in
    let r = pair_of (g.J.Disk.history c.in-Err.refused.journal) (g.P.Disk.history c.in-Err.refused.pages) in
    let first = c.in-Err.ensures.any_moment tj tp in
    match_then c.open_refused.result _ _ _ _
    (λ store run. stood_on old r (pair_of store.journal.history (g.P.Disk.history store.base.disk)) first.any_moment run)
    (λ refused left. pages_unopened old (pair_of (g.J.Disk.history refused.journal) (g.P.Disk.history refused.pages))
    (stood_on old r (pair_of (g.J.Disk.history refused.journal) (g.P.Disk.history refused.pages)) first.any_moment left.any_moment))
    (c.open_refused.ensures.any_moment tj tp)

pub returns-then-is_first_page-clause-reason : goal.returns-then-is_first_page-clause-reason
returns-then-is_first_page-clause-reason g c =
    let old = pair_of (g.J.Disk.history c.args.journal) (g.P.Disk.history c.args.pages) in
    let r = pair_of (g.J.Disk.history c.in-Err.refused.journal) (g.P.Disk.history c.in-Err.refused.pages) in
    let same = uncounted_there c.in-Err.refused.fault (place_in Pages 0) _ _ _ _ (c.is_first_page.ensures.yes c.if-is_first_page.true) c.in-Err.ensures.counts in
    err_then c.open_refused.result _ _ (λ refused reason. reason_leads _ _ _ _ refused.fault
    (λ place refuses tj tp.
    let there = refused_there (λ place. IsTrue g.J.Disk.is_known → IsTrue g.P.Disk.is_known → IsRefused old r place) _ c.in-Err.refused.fault (place_in Pages 0) (c.is_first_page.ensures.yes c.if-is_first_page.true) c.in-Err.ensures.reason tj tp in
    refuses_from old r (pair_of (g.J.Disk.history refused.journal) (g.P.Disk.history refused.pages)) there.journal there.pages place (refuses tj tp))
    (λ rose. subst (λ (n : ℕ). OneRose n (g.J.Disk.faults refused.journal) (g.P.Disk.faults c.args.pages) (g.P.Disk.faults refused.pages)) same.0
    (subst (λ (n : ℕ). OneRose (g.J.Disk.faults c.in-Err.refused.journal) (g.J.Disk.faults refused.journal) n (g.P.Disk.faults refused.pages)) same.1 rose)) reason) c.open_refused.ensures.reason

pub returns-then-is_first_page-clause-kept : goal.returns-then-is_first_page-clause-kept
returns-then-is_first_page-clause-kept g c =
    let old = pair_of (g.J.Disk.history c.args.journal) (g.P.Disk.history c.args.pages) in
    let r = pair_of (g.J.Disk.history c.in-Err.refused.journal) (g.P.Disk.history c.in-Err.refused.pages) in
    err_then c.open_refused.result _ _ (λ refused kept. kept_from g.J.Disk.is_known g.P.Disk.is_known old r (pair_of (g.J.Disk.history refused.journal) (g.P.Disk.history refused.pages)) refused.fault
    (λ tj tp. let there = refused_there (λ place. IsTrue g.J.Disk.is_known → IsTrue g.P.Disk.is_known → IsRefused old r place) _ c.in-Err.refused.fault (place_in Pages 0) (c.is_first_page.ensures.yes c.if-is_first_page.true) c.in-Err.ensures.reason tj tp in (there.journal, there.pages))
    kept) c.open_refused.ensures.kept

pub returns-then-is_first_page-clause-counts : goal.returns-then-is_first_page-clause-counts
returns-then-is_first_page-clause-counts g c =
    let same = uncounted_there c.in-Err.refused.fault (place_in Pages 0) _ _ _ _ (c.is_first_page.ensures.yes c.if-is_first_page.true) c.in-Err.ensures.counts in
    match_then c.open_refused.result _ _ _ _
    (λ store both. (both.0 ∙ same.0, both.1 ∙ same.1))
    (λ refused rise. subst (λ (n : ℕ). RiseOnlyAtFault refused.fault n (g.J.Disk.faults refused.journal) (g.P.Disk.faults c.args.pages) (g.P.Disk.faults refused.pages)) same.0
    (subst (λ (n : ℕ). RiseOnlyAtFault refused.fault (g.J.Disk.faults c.in-Err.refused.journal) (g.J.Disk.faults refused.journal) n (g.P.Disk.faults refused.pages)) same.1 rise))
    c.open_refused.ensures.counts
