use Rattle.std.proofs.Common.{List, [], inl, inr, le_refl, refl, subst}
use Rattle.journal.specs.declared.group.Group.{Group}
use Rattle.paged_seq.specs.PagedMaps.{file_entries}
use Rattle.store_contents.specs.Contents.{after_commits}
use Rattle.recovery.specs.inside.Nets.{IsMisfit, NetOf}
use Rattle.recovery.proofs.AnswerLaws.{unless_of, unless_then}
use Rattle.recovery.proofs.OverLaws.{fresh_misfit}
use Rattle.recovery.proofs.PagedSteps.{damage_is, fresh_moments, reason_leads, same_moments}
use Rattle.recovery.proofs.WalkLaws.{file_sorted}
use Rattle.recovery.proofs.behind.open_fresh.Goals as goal

pub follow-requires : goal.follow-requires
follow-requires g c =
    let file = (g.P.Disk.history c.args.seq.now.disk).now.reads in
    record { sorted = λ known. file_sorted file (file_entries file) c.args.base (c.requires.held known) }

pub returns-in-Ok-make-clause-follows : goal.returns-in-Ok-make-clause-follows
returns-in-Ok-make-clause-follows g c =
    let read = c.in-Ok.ensures.net in
    record {
      records = read.records;
      are = read.are;
      follows = record {
        commits = [];
        goes_on = refl;
        net = subst (λ (gs : List Group). NetOf read.records c.args.base gs c.in-Ok.net.layers.changes c.in-Ok.net.number) c.new.ensures read.net;
        opens = c.in-Ok-make.ensures.opens;
      };
    }

pub returns-in-Ok-make-clause-next : goal.returns-in-Ok-make-clause-next
returns-in-Ok-make-clause-next g c = c.in-Ok-make.ensures.next c.in-Ok.net.number

pub returns-in-Ok-make-clause-moments : goal.returns-in-Ok-make-clause-moments
returns-in-Ok-make-clause-moments g c known pages = fresh_moments pages (g.J.Disk.history c.args.journal) c.in-Ok-make.journal.history (c.requires.fresh known) (c.in-Ok-make.ensures.moments known)

pub returns-in-Ok-make-clause-counts : goal.returns-in-Ok-make-clause-counts
returns-in-Ok-make-clause-counts g c = (c.in-Ok-make.ensures.exact, c.in-Ok.ensures.exact)

pub returns-in-Err-make-clause-moments_refused : goal.returns-in-Err-make-clause-moments_refused
returns-in-Err-make-clause-moments_refused g c known pages =
    fresh_moments pages (g.J.Disk.history c.args.journal) (g.J.Disk.history c.in-Err-make.field-0.disk) (c.requires.fresh known) (c.in-Err-make.ensures.moments_refused known)

pub returns-in-Err-make-clause-reason : goal.returns-in-Err-make-clause-reason
returns-in-Err-make-clause-reason g c =
    reason_leads _ _ _ _ c.in-Err-make.field-0.fault (λ place never known kept. absurd (never known)) (λ rose. inl rose) c.in-Err-make.ensures.reason

pub returns-in-Err-make-clause-untouched : goal.returns-in-Err-make-clause-untouched
returns-in-Err-make-clause-untouched g c =
    reason_leads _ _ _ _ c.in-Err-make.field-0.fault (λ place never known. absurd (never known)) (λ rose. tt) c.in-Err-make.ensures.reason

pub returns-in-Err-make-clause-counts : goal.returns-in-Err-make-clause-counts
returns-in-Err-make-clause-counts g c = record {
  uncounted = unless_then _ _ c.in-Err-make.field-0.fault (λ same. (same, c.in-Ok.ensures.exact)) c.in-Err-make.ensures.uncounted;
  later = (c.in-Err-make.ensures.later, c.follow.ensures.later);
}

pub returns-in-Err-clause-moments_refused : goal.returns-in-Err-clause-moments_refused
returns-in-Err-clause-moments_refused g c known pages = same_moments pages (g.J.Disk.history c.args.journal) (g.J.Disk.history c.args.journal) refl

pub returns-in-Err-clause-reason : goal.returns-in-Err-clause-reason
returns-in-Err-clause-reason g c =
    let es = file_entries (g.P.Disk.history c.args.seq.now.disk).now.reads in
    reason_leads _ _ _ _ c.in-Err.fault
    (λ place misfit known kept. fresh_misfit es c.args.base (g.J.Disk.history c.args.journal).now.reads place (c.requires.fresh known) (subst (λ (gs : List Group). IsMisfit (after_commits gs es) place) c.new.ensures (misfit kept)))
    (λ rose. inr rose) c.in-Err.ensures.reason

pub returns-in-Err-clause-untouched : goal.returns-in-Err-clause-untouched
returns-in-Err-clause-untouched g c = damage_is _ c.in-Err.fault (λ known. refl)

pub returns-in-Err-clause-kept : goal.returns-in-Err-clause-kept
returns-in-Err-clause-kept g c = unless_of _ c.in-Err.fault (λ known. inl refl)

pub returns-in-Err-clause-counts : goal.returns-in-Err-clause-counts
returns-in-Err-clause-counts g c = record {
  uncounted = unless_then _ _ c.in-Err.fault (λ same. (refl, same)) c.in-Err.ensures.uncounted;
  later = (le_refl (g.J.Disk.faults c.args.journal), c.follow.ensures.later);
}
