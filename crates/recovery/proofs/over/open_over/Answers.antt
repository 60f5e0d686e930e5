use Rattle.std.proofs.Common.{◌≡◌, ℕ, ◌∙◌, Ok, sym, ap, subst}
use Rattle.outside_traits.specs.DiskPairs.{pair_of}
use Rattle.outside_traits.specs.Moments.{History}
use Rattle.tree_model.specs.Entries.{Entries}
use Rattle.node_pages.specs.PageFiles.{contents_of_file}
use Rattle.overlays.specs.Views.{contents_after}
use Rattle.paged_seq.specs.PagedMaps.{file_entries, map_of_file}
use Rattle.recovery.specs.Causes.{OneRose, RiseOnlyAtFault}
use Rattle.recovery.specs.Openings.{OpensPages}
use Rattle.recovery.proofs.AnswerLaws.{made_or_same, reason_then, unless_then}
use Rattle.recovery.proofs.OverLaws.{follows_known, opened_over, opened_tree, refused_over}
use Rattle.recovery.proofs.PagedSteps.{over_pages_moments}
use Rattle.recovery.proofs.over.open_over.Goals as goal

pub open_behind-requires-clause-held : goal.open_behind-requires-clause-held
open_behind-requires-clause-held g c tp =
    c.requires.held tp ∙ ap (λ (n : ℕ). Ok (file_entries (g.P.Disk.history c.args.seq.disk).now.reads, n)) (sym c.number-base.ensures)

pub returns-in-Ok-clause-opens : goal.returns-in-Ok-clause-opens
returns-in-Ok-clause-opens g c tj tp es told =
    let found = c.in-Ok.field-0 in
    let read = c.in-Ok.ensures.follows in
    let j = g.J.Disk.history c.args.journal in
    let pages = g.P.Disk.history c.args.seq.disk in
    let same = c.open_behind.ensures.pages_same tp in
    let hold : contents_of_file pages.now.reads ≡ Ok (read.records, c.number-base.result) =
    c.requires.held tp ∙ ap (λ (n : ℕ). Ok (file_entries pages.now.reads, n)) (sym c.number-base.ensures) ∙ ap (λ (rs : Entries). Ok (rs, c.number-base.result)) (sym (read.are.all tp)) in
    subst (λ (p : History). OpensPages (pair_of j pages) (pair_of found.journal.history p) es found.net.number) (sym same)
    (opened_over g.P.Disk.is_known j found.journal.history pages read.records c.number-base.result found.net.layers.changes found.net.number es hold
    (follows_known g.J.Disk.is_known _ _ _ _ _ _ tj read.follows)
    (ap (λ (h : History). contents_after found.net.layers.changes (map_of_file g.P.Disk.is_known h.now.reads)) (sym same) ∙ told))

pub returns-in-Ok-clause-tree : goal.returns-in-Ok-clause-tree
returns-in-Ok-clause-tree g c es told =
    let read = c.in-Ok.ensures.follows in
    let pages = g.P.Disk.history c.args.seq.disk in
    opened_tree g.P.Disk.is_known (g.P.Disk.history c.open_behind.new.seq.disk).now.reads read.records c.number-base.result read.follows.commits c.in-Ok.field-0.net.layers.changes c.in-Ok.field-0.net.number es
    (λ tp. ap (λ (h : History). contents_of_file h.now.reads) (c.open_behind.ensures.pages_same tp) ∙ c.requires.held tp ∙ ap (λ (n : ℕ). Ok (file_entries pages.now.reads, n)) (sym c.number-base.ensures)
    ∙ ap (λ (rs : Entries). Ok (rs, c.number-base.result)) (sym (read.are.all tp))) read.follows.net told

pub returns-in-Ok-clause-synced : goal.returns-in-Ok-clause-synced
returns-in-Ok-clause-synced g c = record {
  journal = λ tj.
      let opens = c.in-Ok.ensures.follows.follows.opens tj in
      record { synced = opens.synced; bytes = made_or_same (g.J.Disk.history c.args.journal) c.in-Ok.field-0.journal.history opens.fresh opens.same };
  pages = λ tp. ap (λ (h : History). h.now) (c.open_behind.ensures.pages_same tp) ∙ c.requires.pages tp;
}

pub returns-in-Ok-clause-any_moment : goal.returns-in-Ok-clause-any_moment
returns-in-Ok-clause-any_moment g c tj tp =
    let pages = g.P.Disk.history c.args.seq.disk in
    over_pages_moments (g.J.Disk.history c.args.journal) pages c.in-Ok.field-0.journal.history (g.P.Disk.history c.open_behind.new.seq.disk) (c.faults-faults.ensures.reads_an_image tj) (c.requires.pages tp)
    (c.open_behind.ensures.pages_same tp) (c.in-Ok.ensures.moments tj pages.now.reads)

pub returns-in-Ok-clause-counts : goal.returns-in-Ok-clause-counts
returns-in-Ok-clause-counts g c = c.in-Ok.ensures.counts

pub returns-in-Err-clause-any_moment : goal.returns-in-Err-clause-any_moment
returns-in-Err-clause-any_moment g c tj tp =
    let pages = g.P.Disk.history c.args.seq.disk in
    over_pages_moments (g.J.Disk.history c.args.journal) pages (g.J.Disk.history c.in-Err.field-0.disk) (g.P.Disk.history c.into_parts-pages.result.0) (c.faults-faults.ensures.reads_an_image tj) (c.requires.pages tp)
    ((λ i. g.P.Disk.history (c.into_parts-pages.ensures.disk i)) ∙ c.open_behind.ensures.pages_same tp) (c.in-Err.ensures.moments_refused tj pages.now.reads)

pub returns-in-Err-clause-reason : goal.returns-in-Err-clause-reason
returns-in-Err-clause-reason g c =
    let j = g.J.Disk.history c.args.journal in
    let pages = g.P.Disk.history c.args.seq.disk in
    reason_then _ _ _ _ _ c.in-Err.field-0.fault c.in-Err.ensures.reason c.in-Err.ensures.untouched
    (λ place broken same tj tp. record {
      refused = refused_over pages.now.reads j.now.reads (file_entries pages.now.reads, c.number-base.result)
          (c.requires.held tp ∙ ap (λ (n : ℕ). Ok (file_entries pages.now.reads, n)) (sym c.number-base.ensures)) place (broken tj tp);
      journal = ap (λ (t : History). t.now) (same tj) ∙ c.requires.journal tj;
      pages = (λ i. (g.P.Disk.history (c.into_parts-pages.ensures.disk i)).now) ∙ ap (λ (h : History). h.now) (c.open_behind.ensures.pages_same tp) ∙ c.requires.pages tp;
    })
    (λ rose. subst (λ (n : ℕ). OneRose (g.J.Disk.faults c.args.journal) (g.J.Disk.faults c.in-Err.field-0.disk) (g.P.Disk.faults c.args.seq.disk) n) (λ i. g.P.Disk.faults (sym c.into_parts-pages.ensures.disk i)) rose)

pub returns-in-Err-clause-kept : goal.returns-in-Err-clause-kept
returns-in-Err-clause-kept g c =
    unless_then _ _ c.in-Err.field-0.fault (λ kept. record {
      journal = kept;
      pages = λ tp. (λ i. (g.P.Disk.history (c.into_parts-pages.ensures.disk i)).now) ∙ ap (λ (h : History). h.now) (c.open_behind.ensures.pages_same tp) ∙ c.requires.pages tp;
    }) c.in-Err.ensures.kept

pub returns-in-Err-clause-counts : goal.returns-in-Err-clause-counts
returns-in-Err-clause-counts g c =
    subst (λ (n : ℕ). RiseOnlyAtFault c.in-Err.field-0.fault (g.J.Disk.faults c.args.journal) (g.J.Disk.faults c.in-Err.field-0.disk) (g.P.Disk.faults c.args.seq.disk) n)
    (λ i. g.P.Disk.faults (sym c.into_parts-pages.ensures.disk i)) c.in-Err.ensures.counts
