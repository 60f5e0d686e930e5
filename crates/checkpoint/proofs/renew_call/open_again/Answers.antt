use Rattle.std.proofs.Common.{◌≤◌, ℕ, [], sym, ap, subst, refl, ◌∙◌, le_of_eq}
use Rattle.outside_traits.specs.Moments.{History}
use Rattle.page_store.specs.Pages.{ArePagesOf, PoolView}
use Rattle.overlays.specs.Views.{contents_after}
use Rattle.paged_seq.specs.PagedFiles.{PagedView}
use Rattle.paged_seq.specs.PagedMaps.{map_of_file}
use Rattle.tx_core.specs.Cores.{state_from}
use Rattle.checkpoint.specs.Bases.{count_of, is_paged}
use Rattle.checkpoint.specs.Renewals.{pages_of}
use Rattle.checkpoint.proofs.RenewAnswers.{base_is, counted, none_broken, rebased}
use Rattle.checkpoint.proofs.RenewLaws.{map_held, pages_known}
use Rattle.checkpoint.proofs.renew_call.open_again.Goals as goal

pub open-requires : goal.open-requires
open-requires g c = record { kept = λ known. subst (ArePagesOf (g.P.Disk.history c.args.pages).now.reads) (sym (ap (λ (p : PoolView). p.kept) c.forget.ensures)) tt }

pub rebase-copy-requires : goal.rebase-copy-requires
rebase-copy-requires g c = record {
  committed = λ t opened.
      let known = pages_known g.P.Disk.is_known g.P.Disk.history c.args.core.now.opening t c.requires.core.opened opened in
      (λ i. contents_after ((c.new-in-Ok.ensures.layers ∙ c.new.ensures) i).changes (map_of_file g.P.Disk.is_known (g.P.Disk.history (c.new-in-Ok.ensures.base i).disk).now.reads))
      ∙ ap (λ (h : History). contents_after [] (map_of_file g.P.Disk.is_known h.now.reads)) (c.in-Ok.ensures.same known)
      ∙ map_held g.P.Disk.is_known (g.P.Disk.history c.args.pages).now.reads (state_from g.C.TreeCall.meaning t c.args.core.now).tree known (c.requires.pages known t opened);
  later = subst (λ (n : ℕ). count_of g.P.Disk.faults c.args.core.now.base ≤ n) (sym (ap (λ (v : PagedView g.row.P.Denot). g.P.Disk.faults v.disk) c.new-in-Ok.ensures.base ∙ c.in-Ok.ensures.faults)) c.requires.core.later;
}

-- ---- the pages were opened

pub returns-in-Ok-clause-over : goal.returns-in-Ok-clause-over
returns-in-Ok-clause-over g c = (
  rebased c.args.core.now c.rebase-copy.new.self _ c.rebase-copy.ensures.same,
  ap is_paged (base_is c.args.core.now c.rebase-copy.new.self _ c.rebase-copy.ensures.same),
)

pub returns-in-Ok-clause-same : goal.returns-in-Ok-clause-same
returns-in-Ok-clause-same g c = λ known.
    ap (pages_of g.P.Disk.history) (base_is c.args.core.now c.rebase-copy.new.self _ c.rebase-copy.ensures.same)
    ∙ ap (λ (v : PagedView g.row.P.Denot). g.P.Disk.history v.disk) c.new-in-Ok.ensures.base ∙ c.in-Ok.ensures.same known

pub returns-in-Ok-clause-damaged : goal.returns-in-Ok-clause-damaged
returns-in-Ok-clause-damaged g c = λ known t opened. tt

pub returns-in-Ok-clause-cause : goal.returns-in-Ok-clause-cause
returns-in-Ok-clause-cause g c =
    let same = ap (count_of g.P.Disk.faults) (base_is c.args.core.now c.rebase-copy.new.self _ c.rebase-copy.ensures.same)
    ∙ ap (λ (v : PagedView g.row.P.Denot). g.P.Disk.faults v.disk) c.new-in-Ok.ensures.base ∙ c.in-Ok.ensures.faults in
    record { later = le_of_eq (sym same); fault = tt; exact = same }

-- ---- they weren't

pub returns-in-Err-clause-over : goal.returns-in-Err-clause-over
returns-in-Err-clause-over g c = (refl, refl)

pub returns-in-Err-clause-same : goal.returns-in-Err-clause-same
returns-in-Err-clause-same g c = λ known. c.in-Err.ensures.same known

pub returns-in-Err-clause-damaged : goal.returns-in-Err-clause-damaged
returns-in-Err-clause-damaged g c = λ known t opened place is.
    none_broken g.P.Disk.is_known (g.P.Disk.history c.args.pages).now.reads (state_from g.C.TreeCall.meaning t c.args.core.now).tree _ c.in-Err.refused.fault place known (c.requires.pages known t opened) c.in-Err.ensures.reason is

pub returns-in-Err-clause-cause : goal.returns-in-Err-clause-cause
returns-in-Err-clause-cause g c = record {
  later = c.in-Err.ensures.faults;
  fault = λ is. counted _ _ c.in-Err.refused.fault c.in-Err.ensures.reason is;
  exact = tt;
}
