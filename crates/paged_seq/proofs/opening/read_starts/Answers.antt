use Rattle.std.proofs.Common.{ℕ, ◌≡◌, ◌+◌, IsTrue, subst}
use Rattle.std.specs.Prelude.{Ok, Err}
use Rattle.outside_traits.specs.Faults.{FaultCounted}
use Rattle.outside_traits.specs.Moments.{History}
use Rattle.node_pages.specs.PageFiles.{file_page}
use Rattle.node_pages.specs.PageZero.{Header}
use Rattle.node_pages.specs.PagesIn.{compared, scanned, starts_in}
use Rattle.node_pages.specs.Scanning.{Scanned}
use Rattle.paged_seq.specs.PagedFiles.{HasReason, IsPageWith}
use Rattle.paged_seq.proofs.OpenLaws.{err_out, reason_on, starts_broken}
use Rattle.paged_seq.proofs.opening.read_starts.Goals as goal

pub returns-in_err-take_pages-2-clause-reason : goal.returns-in_err-take_pages-2-clause-reason
returns-in_err-take_pages-2-clause-reason g c =
    let file = (g.P.Disk.history c.args.file.now.disk).now.reads in
    let h = c.args.header.now in
    let i : Header = record { base = c.header.inside.base; data_pages = c.header.inside.data_pages; directory_pages = c.header.inside.directory_pages } in
    let old = g.P.Disk.faults c.args.file.now.disk in
    let mid = g.P.Disk.faults c.take_pages.new.file.disk in
    let after = g.P.Disk.faults c.take_pages-2.new.file.disk in
    let x = c.in_err-take_pages-2.field-0.0 in
    err_out _ c.from_residual-in_err-take_pages-2.result (HasReason (IsPageWith (λ m. IsTrue g.P.Disk.is_known → starts_in (file_page file) h ≡ Err m)) (FaultCounted old after)) x c.from_residual-in_err-take_pages-2.ensures.1
    (reason_on (λ m. IsTrue g.P.Disk.is_known → compared (file_page (g.P.Disk.history c.take_pages.new.file.disk).now.reads) (1 + i.data_pages) i.directory_pages c.in-Ok.directory ≡ Err m)
    (λ m. IsTrue g.P.Disk.is_known → starts_in (file_page file) h ≡ Err m)
    (FaultCounted mid after) (FaultCounted old after)
    (λ m broken known.
    subst (λ (k : Header). starts_in (file_page file) k ≡ Err m) c.header.view_is (starts_broken (file_page file) i c.take_pages.new.pass c.in-Ok.directory m
    (subst (λ (k : Scanned). scanned (file_page file) 1 i.data_pages k ≡ Ok c.take_pages.new.pass) c.new-scan.ensures (c.in_ok-take_pages.ensures.ok known)) c.in-Ok.ensures.ok
    (subst (λ (k : History). compared (file_page k.now.reads) (1 + i.data_pages) i.directory_pages c.in-Ok.directory ≡ Err m) (c.take_pages.ensures.same known) (broken known))))
    (λ counted. subst (λ (f : ℕ). FaultCounted f after) c.in_ok-take_pages.ensures.cause.exact counted) x c.in_err-take_pages-2.ensures.reason)
