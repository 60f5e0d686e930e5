use Rattle.std.proofs.Common.{◌≡◌, ◌≤◌, ℕ, ◌∙◌, inl, refl, sym, subst, le_refl}
use Rattle.outside_traits.specs.DiskPairs.{Pair, pair_of}
use Rattle.outside_traits.specs.Moments.{History}
use Rattle.outside_traits.proofs.PairLaws.{none}
use Rattle.store_contents.specs.StoredTrees.{LeaveWhatStood, StoodFor}
use Rattle.recovery.specs.Causes.{OneRose}
use Rattle.node_records.specs.declared.open_error.File.TheVariants.{Pages}
use Rattle.store_contents.specs.Contents.{place_in}
use Rattle.recovery.specs.Openings.{HasImages}
use Rattle.recovery.specs.inside.Finishing.{IsFinished, IsUntouchedAt}
use Rattle.recovery.specs.inside.Over.{IsRefusedAt}
use Rattle.recovery.proofs.AgainLaws.{journal_clash, moved}
use Rattle.recovery.proofs.AnswerLaws.{unless_then}
use Rattle.recovery.proofs.PagedSteps.{reason_leads}
use Rattle.recovery.proofs.finishing.finish.Goals as goal

pub put_groups-requires : goal.put_groups-requires
put_groups-requires g c = record {
  usable = c.in-Ok.ensures.ready.usable;
  reads = λ tj. (c.in-Ok.ensures.opens tj).stands;
  synced = c.requires.pages;
  refused = λ tj tp. subst (λ (h : History). IsRefusedAt h.now.reads (g.P.Disk.history c.args.pages).now.reads (place_in Pages 0)) (sym ((c.in-Ok.ensures.opens tj).same (c.requires.made tj))) (c.requires.refused tj tp);
}

-- ---- the images were put in

pub returns-in-Ok-put_groups-clause-finished : goal.returns-in-Ok-put_groups-clause-finished
returns-in-Ok-put_groups-clause-finished g c tj tp =
    moved IsFinished (g.J.Disk.history c.args.journal) c.in-Ok.journal.history (g.P.Disk.history c.args.pages) c.put_groups.new.journal.history (g.J.Disk.history c.into_disk-done.result) (g.P.Disk.history c.put_groups.new.pages)
    ((c.in-Ok.ensures.opens tj).same (c.requires.made tj)) c.into_disk-done.ensures.history (c.in-Ok-put_groups.ensures.finished tj tp)

pub returns-in-Ok-put_groups-clause-any_moment : goal.returns-in-Ok-put_groups-clause-any_moment
returns-in-Ok-put_groups-clause-any_moment g c tj tp =
    moved LeaveWhatStood (g.J.Disk.history c.args.journal) c.in-Ok.journal.history (g.P.Disk.history c.args.pages) c.put_groups.new.journal.history (g.J.Disk.history c.into_disk-done.result) (g.P.Disk.history c.put_groups.new.pages)
    ((c.in-Ok.ensures.opens tj).same (c.requires.made tj)) c.into_disk-done.ensures.history (c.put_groups.ensures.any_moment tj tp)

pub returns-in-Ok-put_groups-clause-counts : goal.returns-in-Ok-put_groups-clause-counts
returns-in-Ok-put_groups-clause-counts g c =
    (c.into_disk-done.ensures.faults ∙ c.in-Ok-put_groups.ensures.exact.0 ∙ c.in-Ok.ensures.ready.faults, c.in-Ok-put_groups.ensures.exact.1)

-- ---- they weren't

pub returns-in-Err-put_groups-clause-any_moment : goal.returns-in-Err-put_groups-clause-any_moment
returns-in-Err-put_groups-clause-any_moment g c tj tp =
    moved LeaveWhatStood (g.J.Disk.history c.args.journal) c.in-Ok.journal.history (g.P.Disk.history c.args.pages) c.put_groups.new.journal.history (g.J.Disk.history c.into_disk-left.result) (g.P.Disk.history c.put_groups.new.pages)
    ((c.in-Ok.ensures.opens tj).same (c.requires.made tj)) c.into_disk-left.ensures.history (c.put_groups.ensures.any_moment tj tp)

pub returns-in-Err-put_groups-clause-reason : goal.returns-in-Err-put_groups-clause-reason
returns-in-Err-put_groups-clause-reason g c = reason_leads _ _ _ _ c.in-Err-put_groups.fault
    (λ place is tj tp.
    moved (λ (old new : Pair). IsUntouchedAt old new place) (g.J.Disk.history c.args.journal) c.in-Ok.journal.history (g.P.Disk.history c.args.pages) c.put_groups.new.journal.history (g.J.Disk.history c.into_disk-left.result) (g.P.Disk.history c.put_groups.new.pages)
    ((c.in-Ok.ensures.opens tj).same (c.requires.made tj)) c.into_disk-left.ensures.history (is tj tp))
    (λ rose. subst (λ (n : ℕ). OneRose n (g.J.Disk.faults c.into_disk-left.result) (g.P.Disk.faults c.args.pages) (g.P.Disk.faults c.put_groups.new.pages)) c.in-Ok.ensures.ready.faults
    (subst (λ (n : ℕ). OneRose c.in-Ok.journal.faults n (g.P.Disk.faults c.args.pages) (g.P.Disk.faults c.put_groups.new.pages)) (sym c.into_disk-left.ensures.faults) rose))
    c.in-Err-put_groups.ensures.reason

pub returns-in-Err-put_groups-clause-without : goal.returns-in-Err-put_groups-clause-without
returns-in-Err-put_groups-clause-without g c = λ tj tp none.
    let before : c.in-Ok.journal.history ≡ g.J.Disk.history c.args.journal = (c.in-Ok.ensures.opens tj).same (c.requires.made tj) in
    let same = c.in-Err-put_groups.ensures.without tj (λ has. none (subst (λ (h : History). HasImages h.now.reads) before has)) in
    (c.into_disk-left.ensures.history ∙ same.0 ∙ before, same.1)

pub returns-in-Err-put_groups-clause-counts : goal.returns-in-Err-put_groups-clause-counts
returns-in-Err-put_groups-clause-counts g c = record {
  uncounted = unless_then _ _ c.in-Err-put_groups.fault (λ same. (c.into_disk-left.ensures.faults ∙ same.0 ∙ c.in-Ok.ensures.ready.faults, same.1)) c.in-Err-put_groups.ensures.uncounted;
  later = (
    subst (λ (n : ℕ). n ≤ g.J.Disk.faults c.into_disk-left.result) c.in-Ok.ensures.ready.faults (subst (λ (n : ℕ). c.in-Ok.journal.faults ≤ n) (sym c.into_disk-left.ensures.faults) c.put_groups.ensures.later.0),
    c.put_groups.ensures.later.1,
  );
}

-- ---- the journal wasn't opened

pub returns-in-Err-clause-any_moment : goal.returns-in-Err-clause-any_moment
returns-in-Err-clause-any_moment g c tj tp =
    moved LeaveWhatStood (g.J.Disk.history c.args.journal) (g.J.Disk.history c.args.journal) (g.P.Disk.history c.args.pages) (g.J.Disk.history c.args.journal) (g.J.Disk.history c.in-Err.refused.disk) (g.P.Disk.history c.args.pages)
    refl (c.in-Err.ensures.made_before tj (c.requires.made tj)) (none (StoodFor (pair_of (g.J.Disk.history c.args.journal) (g.P.Disk.history c.args.pages))) (pair_of (g.J.Disk.history c.args.journal) (g.P.Disk.history c.args.pages)))

pub returns-in-Err-clause-reason : goal.returns-in-Err-clause-reason
returns-in-Err-clause-reason g c = reason_leads _ _ _ _ c.in-Err.refused.fault
    (λ place breaks tj tp. absurd (journal_clash (g.J.Disk.history c.args.journal).now.reads (g.P.Disk.history c.args.pages).now.reads place.at (breaks.1 tj) (c.requires.refused tj tp)))
    (λ rose. inl rose) c.in-Err.ensures.reason

pub returns-in-Err-clause-without : goal.returns-in-Err-clause-without
returns-in-Err-clause-without g c = λ tj tp none. (c.in-Err.ensures.made_before tj (c.requires.made tj), refl)

pub returns-in-Err-clause-counts : goal.returns-in-Err-clause-counts
returns-in-Err-clause-counts g c = record {
  uncounted = unless_then _ _ c.in-Err.refused.fault (λ same. (same, refl)) c.in-Err.ensures.counts.uncounted;
  later = (c.in-Err.ensures.counts.later, le_refl _);
}
