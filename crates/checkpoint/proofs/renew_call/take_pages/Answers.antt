use Rattle.std.proofs.Common.{ℕ, sym, ap, ◌∙◌, le_of_eq}
use Rattle.paged_seq.specs.PagedFiles.{PagedView}
use Rattle.tx_core.specs.Cores.{over, with_committed}
use Rattle.checkpoint.specs.Bases.{count_of}
use Rattle.checkpoint.specs.Renewals.{pages_of}
use Rattle.checkpoint.specs.declared.base.Base.TheVariants.{Copied}
use Rattle.checkpoint.proofs.RenewAnswers.{copy_not_paged}
use Rattle.checkpoint.proofs.renew_call.take_pages.Goals as goal

pub rebase-requires : goal.rebase-requires
rebase-requires g c = record {
  committed = λ t opened. (c.requires.copy t opened).map;
  later = le_of_eq (sym c.faults-faults.ensures);
}

pub returns-clause-history : goal.returns-clause-history
returns-clause-history g c =
    ap g.P.Disk.history (c.into_parts.ensures.disk ∙ ap (λ (v : PagedView g.row.P.Denot). v.disk) c.into_parts-pages.ensures.base)
    ∙ sym (ap (pages_of g.P.Disk.history) (sym c.rebase.ensures.old ∙ c.in-Paged.is))

pub returns-clause-faults : goal.returns-clause-faults
returns-clause-faults g c =
    ap g.P.Disk.faults (c.into_parts.ensures.disk ∙ ap (λ (v : PagedView g.row.P.Denot). v.disk) c.into_parts-pages.ensures.base)
    ∙ sym (ap (count_of g.P.Disk.faults) (sym c.rebase.ensures.old ∙ c.in-Paged.is))

pub returns-clause-state : goal.returns-clause-state
returns-clause-state g c =
    c.rebase.ensures.same ∙ ap (λ (n : ℕ). with_committed (over c.args.core.now (Copied c.args.copy n)) c.rebase.new.self.committed) c.faults-faults.ensures

pub unreachable-requires : goal.unreachable-requires
unreachable-requires g c = copy_not_paged c.args.core.now.base c.in-Copied.seq c.in-Copied.faults (sym c.rebase.ensures.old ∙ c.in-Copied.is) c.requires.paged
