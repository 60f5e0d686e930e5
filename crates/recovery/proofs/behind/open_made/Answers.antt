use Rattle.std.proofs.Common.{◌≡◌, ◌≤◌, ◌∙◌, ℕ, Some, Err, IsTrue, inl, inr, le_refl, le_trans, refl, subst, sym}
use Rattle.journal.specs.Openings.{Opens}
use Rattle.paged_seq.specs.PagedMaps.{file_entries}
use Rattle.recovery.specs.inside.Over.{answer_over}
use Rattle.recovery.proofs.AnswerLaws.{first_reason, unless_both, unless_first, unless_then}
use Rattle.recovery.proofs.OverLaws.{answer_by_damage, answer_by_groups, takes_behind}
use Rattle.recovery.proofs.PagedSteps.{reason_leads}
use Rattle.recovery.proofs.behind.open_made.Goals as goal

pub returns-in-Ok-follow_groups-clause-follows : goal.returns-in-Ok-follow_groups-clause-follows
returns-in-Ok-follow_groups-clause-follows g c =
    let read = c.in-Ok-follow_groups.ensures.net in
    record {
      records = read.records;
      are = read.are;
      follows = record {
        commits = c.in-Ok.groups.commits;
        goes_on = c.in-Ok-follow_groups.ensures.goes_on;
        net = read.net;
        opens = λ known. subst (Opens (g.J.Disk.history c.args.journal) c.in-Ok.journal.history) c.in-Ok-follow_groups.ensures.commits (c.in-Ok.ensures.opens known);
      };
    }

pub returns-in-Ok-follow_groups-clause-next : goal.returns-in-Ok-follow_groups-clause-next
returns-in-Ok-follow_groups-clause-next g c =
    takes_behind _ c.in-Ok.groups c.in-Ok.journal c.args.base c.in-Ok-follow_groups.net.number c.in-Ok.ensures.ready c.in-Ok-follow_groups.ensures.commits c.in-Ok-follow_groups.ensures.net.net.last

pub returns-in-Ok-follow_groups-clause-same : goal.returns-in-Ok-follow_groups-clause-same
returns-in-Ok-follow_groups-clause-same g c known = (c.in-Ok.ensures.opens known).same (c.requires.made known)

pub returns-in-Ok-follow_groups-clause-counts : goal.returns-in-Ok-follow_groups-clause-counts
returns-in-Ok-follow_groups-clause-counts g c = (c.in-Ok.ensures.ready.faults, c.in-Ok-follow_groups.ensures.exact)

pub returns-in-Err-follow_groups-clause-same_refused : goal.returns-in-Err-follow_groups-clause-same_refused
returns-in-Err-follow_groups-clause-same_refused g c known = c.into_disk.ensures.history ∙ (c.in-Ok.ensures.opens known).same (c.requires.made known)

pub returns-in-Err-follow_groups-clause-reason : goal.returns-in-Err-follow_groups-clause-reason
returns-in-Err-follow_groups-clause-reason g c = reason_leads _ _ _ _ c.in-Err-follow_groups.fault
    (λ place broken known kept. answer_by_groups (file_entries (g.P.Disk.history c.args.seq.now.disk).now.reads, c.args.base) (g.J.Disk.history c.args.journal).now.reads c.in-Ok.groups (c.in-Ok.ensures.opens known).stood ∙ broken kept)
    (λ rose. inr rose) c.in-Err-follow_groups.ensures.reason

pub returns-in-Err-follow_groups-clause-counts : goal.returns-in-Err-follow_groups-clause-counts
returns-in-Err-follow_groups-clause-counts g c =
    let same = c.into_disk.ensures.faults ∙ c.in-Ok.ensures.ready.faults in
    record {
      uncounted = unless_then _ _ c.in-Err-follow_groups.fault (λ pages. (same, pages)) c.in-Err-follow_groups.ensures.uncounted;
      later = (subst (λ (n : ℕ). g.J.Disk.faults c.args.journal ≤ n) (sym same) (le_refl (g.J.Disk.faults c.args.journal)), c.follow_groups.ensures.later);
    }

pub returns-in-Err-clause-same_refused : goal.returns-in-Err-clause-same_refused
returns-in-Err-clause-same_refused g c known = c.first_fault-fault.ensures.same known ∙ c.in-Err.ensures.made_before known (c.requires.made known)

pub returns-in-Err-clause-reason : goal.returns-in-Err-clause-reason
returns-in-Err-clause-reason g c =
    let t = g.J.Disk.history c.args.journal in
    let es = file_entries (g.P.Disk.history c.args.seq.now.disk).now.reads in
    reason_leads _ _ _ _ c.first_fault-fault.result (λ place broken. broken) (λ rose. inl rose)
    (first_reason g.J.Disk.is_known (Some c.args.base) t (g.J.Disk.history c.in-Err.refused.disk)
    (g.J.Disk.faults c.args.journal) (g.J.Disk.faults c.in-Err.refused.disk) (g.J.Disk.faults c.first_fault-fault.new.journal)
    c.in-Err.refused.fault c.first_fault-fault.result (λ place. IsTrue g.P.Disk.is_known → answer_over (es, c.args.base) t.now.reads ≡ Err place)
    (λ at known broken kept. answer_by_damage (es, c.args.base) t.now.reads at broken)
    c.first_fault-fault.ensures.first c.in-Err.ensures.reason c.in-Err.ensures.untouched c.in-Err.ensures.counts.later c.first_fault-fault.ensures.later)

pub returns-in-Err-clause-counts : goal.returns-in-Err-clause-counts
returns-in-Err-clause-counts g c =
    let before = unless_first (g.J.Disk.faults c.in-Err.refused.disk ≡ g.J.Disk.faults c.args.journal) (IsTrue g.J.Disk.is_known) (Some c.args.base) (g.J.Disk.history c.in-Err.refused.disk).now.reads _ c.in-Err.refused.fault c.first_fault-fault.result c.first_fault-fault.ensures.first c.in-Err.ensures.counts.uncounted in
    record {
      uncounted = unless_both _ _ _ c.first_fault-fault.result (λ last first. (last ∙ first, refl)) c.first_fault-fault.ensures.uncounted before;
      later = (le_trans c.in-Err.ensures.counts.later c.first_fault-fault.ensures.later, le_refl (g.P.Disk.faults c.args.seq.now.disk));
    }
