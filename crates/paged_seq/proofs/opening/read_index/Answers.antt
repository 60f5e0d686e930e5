use Rattle.std.proofs.Common.{ℕ, ◌≡◌, IsTrue, sym, ap, subst, ◌∙◌, arith}
use Rattle.std.specs.Prelude.{Some, None, Result, Ok, Err}
use Rattle.outside_traits.specs.Faults.{FaultCounted}
use Rattle.outside_traits.specs.Moments.{History}
use Rattle.node_pages.specs.PageFiles.{Index, file_page, index_of_file}
use Rattle.node_pages.specs.PagesIn.{starts_in}
use Rattle.node_pages.specs.PageZero.{Header, header_in}
use Rattle.paged_seq.specs.PagedFiles.{HasReason, IsPageWith, index_at}
use Rattle.paged_seq.proofs.OpenLaws.{err_out, no_header, no_starts, reason_on, with_starts}
use Rattle.paged_seq.proofs.opening.read_index.Goals as goal

pub returns-in_err-header-clause-reason : goal.returns-in_err-header-clause-reason
returns-in_err-header-clause-reason g c =
    let file = (g.P.Disk.history c.args.file.now.disk).now.reads in
    let none = c.if-count-eq0.false in
    let old = g.P.Disk.faults c.args.file.now.disk in
    let after = g.P.Disk.faults c.read_zero.new.file.disk in
    let x = c.in_err-header.field-0.0 in
    err_out _ c.from_residual.result (HasReason (IsPageWith (λ m. IsTrue g.P.Disk.is_known → index_of_file file ≡ Err m)) (FaultCounted old after)) x c.from_residual.ensures.1
    (reason_on (λ m. (m ≡ 0) × (IsTrue g.P.Disk.is_known → header_in (file_page (g.P.Disk.history c.len.new.self.disk).now.reads 0) ≡ None)) (λ m. IsTrue g.P.Disk.is_known → index_of_file file ≡ Err m)
    (FaultCounted (g.P.Disk.faults c.len.new.self.disk) after) (FaultCounted old after)
    (λ m broken known.
    let count = c.in-Ok.ensures.value known in
    let header : header_in (file_page file 0) ≡ None = subst (λ (h : History). header_in (file_page h.now.reads 0) ≡ None) (c.len.ensures.same known) (broken.1 known) in
    no_header file (omega (arith, none, count)) header ∙ ap (λ (k : ℕ). let e : Result Index ℕ = Err k in e) (sym broken.0))
    (λ counted. subst (λ (f : ℕ). FaultCounted f after) c.in-Ok.ensures.cause.exact counted) x c.in_err-header.ensures.reason)

pub returns-in_err-starts-clause-reason : goal.returns-in_err-starts-clause-reason
returns-in_err-starts-clause-reason g c =
    let file = (g.P.Disk.history c.args.file.now.disk).now.reads in
    let none = c.if-count-eq0.false in
    let old = g.P.Disk.faults c.args.file.now.disk in
    let after = g.P.Disk.faults c.read_starts.new.file.disk in
    let x = c.in_err-starts.field-0.0 in
    let mid = g.P.Disk.faults c.read_zero.new.file.disk in
    let uncounted : mid ≡ old = c.in_ok-header.ensures.cause.exact ∙ c.in-Ok.ensures.cause.exact in
    err_out _ c.from_residual-in_err-starts.result (HasReason (IsPageWith (λ m. IsTrue g.P.Disk.is_known → index_of_file file ≡ Err m)) (FaultCounted old after)) x c.from_residual-in_err-starts.ensures.1
    (reason_on (λ m. IsTrue g.P.Disk.is_known → starts_in (file_page (g.P.Disk.history c.read_zero.new.file.disk).now.reads) c.in_ok-header.header ≡ Err m) (λ m. IsTrue g.P.Disk.is_known → index_of_file file ≡ Err m)
    (FaultCounted mid after) (FaultCounted old after)
    (λ m broken known.
    let count = c.in-Ok.ensures.value known in
    let header : header_in (file_page file 0) ≡ Some c.in_ok-header.header = subst (λ (h : History). header_in (file_page h.now.reads 0) ≡ Some c.in_ok-header.header) (c.len.ensures.same known) (c.in_ok-header.ensures.header known) in
    let starts : starts_in (file_page file) c.in_ok-header.header ≡ Err m = subst (λ (h : History). starts_in (file_page h.now.reads) c.in_ok-header.header ≡ Err m) (c.read_zero.ensures.same known ∙ c.len.ensures.same known) (broken known) in
    no_starts file c.in_ok-header.header m (omega (arith, none, count)) header starts)
    (λ counted. subst (λ (f : ℕ). FaultCounted f after) uncounted counted) x c.in_err-starts.ensures.reason)

pub returns-clause-index : goal.returns-clause-index
returns-clause-index g c known =
    let file = (g.P.Disk.history c.args.file.now.disk).now.reads in
    let none = c.if-count-eq0.false in
    let count = c.in-Ok.ensures.value known in
    let header : header_in (file_page file 0) ≡ Some c.in_ok-header.header = subst (λ (h : History). header_in (file_page h.now.reads 0) ≡ Some c.in_ok-header.header) (c.len.ensures.same known) (c.in_ok-header.ensures.header known) in
    let starts : starts_in (file_page file) c.in_ok-header.header ≡ Ok c.in_ok-starts.starts =
    subst (λ (h : History). starts_in (file_page h.now.reads) c.in_ok-header.header ≡ Ok c.in_ok-starts.starts) (c.read_zero.ensures.same known ∙ c.len.ensures.same known) (c.in_ok-starts.ensures.starts known) in
    with_starts file c.in_ok-header.header c.in_ok-starts.starts (omega (arith, none, count)) header starts ∙ ap (λ (h : Header). let r : Result Index ℕ = Ok (index_at h.base c.in_ok-starts.starts) in r) (sym c.header.view_is)
