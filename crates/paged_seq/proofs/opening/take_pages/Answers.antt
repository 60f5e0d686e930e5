use Rattle.std.proofs.Common.{ℕ, ◌≡◌, ◌≤◌, ◌+◌, ◌-◌, IsTrue, subst, ◌∙◌, arith}
use Rattle.std.specs.Prelude.{Ok, Err}
use Rattle.outside_traits.specs.Faults.{FaultCounted}
use Rattle.outside_traits.specs.Moments.{History}
use Rattle.node_pages.specs.PageFiles.{file_page}
use Rattle.node_pages.specs.PagesIn.{after_pages}
use Rattle.paged_seq.specs.PagedFiles.{HasReason, IsPageWith, whole_below}
use Rattle.paged_seq.proofs.OpenLaws.{err_out, one_broken, one_taken, read_on, read_within, reason_on}
use Rattle.paged_seq.proofs.opening.take_pages.Goals as goal

pub loop-page-preserved : goal.loop-page-preserved
loop-page-preserved g c =
    let inv = c.loop-page.invariant in
    let less = c.loop-page-test.true in
    record {
      same = λ known. c.take_page.ensures.same known ∙ inv.same known;
      faults = c.in_ok-take_page.ensures.cause.exact ∙ inv.faults;
      most = c.take_page.ensures.most ∙ inv.most;
      reads = λ known.
          let step = subst (λ (h : History). c.take_page.new.file.pool.reads + whole_below c.loop-page.page h.now.reads ≤ c.loop-page.file.pool.reads + whole_below (c.loop-page.page + 1) h.now.reads)
          (inv.same known) (c.take_page.ensures.reads known) in
          read_on c.args.first c.loop-page.page (c.loop-page.page + 1) (g.P.Disk.history c.args.file.now.disk).now.reads c.args.file.now.pool.reads c.loop-page.file.pool.reads c.take_page.new.file.pool.reads (inv.reads known) step;
      taken = λ known.
          let page = file_page (g.P.Disk.history c.args.file.now.disk).now.reads in
          let end = c.args.first + c.args.pages in
          let n = c.loop-page.page in
          let step : g.T.PagePass.after c.loop-page.pass (page n) ≡ Ok c.take_page.new.pass =
          subst (λ (h : History). g.T.PagePass.after c.loop-page.pass (file_page h.now.reads n) ≡ Ok c.take_page.new.pass) (inv.same known) (c.in_ok-take_page.ensures.ok known) in
          one_taken g.T.PagePass.after page (after_pages g.T.PagePass.after page c.args.first c.args.pages c.args.pass.now) n (end - n) (end - (n + 1)) c.loop-page.pass c.take_page.new.pass (omega (arith, less)) (inv.taken known) step;
    }

pub returns-in_err-take_page-clause-reason : goal.returns-in_err-take_page-clause-reason
returns-in_err-take_page-clause-reason g c =
    let inv = c.loop-page.invariant in
    let less = c.loop-page-test.true in
    let page = file_page (g.P.Disk.history c.args.file.now.disk).now.reads in
    let end = c.args.first + c.args.pages in
    let n = c.loop-page.page in
    let all = after_pages g.T.PagePass.after page c.args.first c.args.pages c.args.pass.now in
    let after = g.P.Disk.faults c.take_page.new.file.disk in
    let x = c.in_err-take_page.field-0.0 in
    err_out _ c.from_residual.result (HasReason (IsPageWith (λ m. IsTrue g.P.Disk.is_known → all ≡ Err m)) (FaultCounted (g.P.Disk.faults c.args.file.now.disk) after)) x c.from_residual.ensures.1
    (reason_on (λ m. IsTrue g.P.Disk.is_known → g.T.PagePass.after c.loop-page.pass (file_page (g.P.Disk.history c.loop-page.file.disk).now.reads n) ≡ Err m) (λ m. IsTrue g.P.Disk.is_known → all ≡ Err m)
    (FaultCounted (g.P.Disk.faults c.loop-page.file.disk) after) (FaultCounted (g.P.Disk.faults c.args.file.now.disk) after)
    (λ m broken known. one_broken g.T.PagePass.after page all n (end - n) (end - (n + 1)) c.loop-page.pass m (omega (arith, less)) (inv.taken known)
    (subst (λ (h : History). g.T.PagePass.after c.loop-page.pass (file_page h.now.reads n) ≡ Err m) (inv.same known) (broken known)))
    (λ counted. subst (λ (f : ℕ). FaultCounted f after) inv.faults counted) x c.in_err-take_page.ensures.reason)

pub returns-in_err-take_page-clause-most : goal.returns-in_err-take_page-clause-most
returns-in_err-take_page-clause-most g c = c.take_page.ensures.most ∙ c.loop-page.invariant.most

pub returns-in_err-take_page-clause-reads : goal.returns-in_err-take_page-clause-reads
returns-in_err-take_page-clause-reads g c known =
    let inv = c.loop-page.invariant in
    let less = c.loop-page-test.true in
    let file = (g.P.Disk.history c.args.file.now.disk).now.reads in
    let n = c.loop-page.page in
    let step = subst (λ (h : History). c.take_page.new.file.pool.reads + whole_below n h.now.reads ≤ c.loop-page.file.pool.reads + whole_below (n + 1) h.now.reads) (inv.same known) (c.take_page.ensures.reads known) in
    read_within c.args.first (n + 1) (c.args.first + c.args.pages) file c.args.file.now.pool.reads c.take_page.new.file.pool.reads (omega (arith, less))
    (read_on c.args.first n (n + 1) file c.args.file.now.pool.reads c.loop-page.file.pool.reads c.take_page.new.file.pool.reads (inv.reads known) step)
