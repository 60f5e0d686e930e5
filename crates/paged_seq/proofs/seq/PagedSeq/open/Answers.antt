use Rattle.std.proofs.Common.{ℕ, ◌≡◌, IsTrue, sym, subst, ◌∙◌}
use Rattle.std.specs.Prelude.{Err}
use Rattle.outside_traits.specs.Faults.{FaultCounted}
use Rattle.node_pages.specs.PageFiles.{contents_of_file, index_of_file}
use Rattle.node_pages.proofs.FileLaws.{broken_same}
use Rattle.paged_seq.specs.PagedFiles.{IsFirstBroken, index_at}
use Rattle.paged_seq.specs.PagedMaps.{file_entries}
use Rattle.paged_seq.proofs.OpenLaws.{all_kept, first_broken, open_contents, reason_on}
use Rattle.paged_seq.proofs.seq.PagedSeq.open.Goals as goal

pub returns-in-Ok-clause-map : goal.returns-in-Ok-clause-map
returns-in-Ok-clause-map g c known =
    let file = (g.P.Disk.history c.args.disk).now.reads in
    open_contents file (index_at c.in-Ok.base c.in-Ok.starts) ((λ i. index_of_file (g.P.Disk.history (sym c.new-file.ensures.disk i)).now.reads) ∙ c.in-Ok.ensures.index known)

pub returns-in-Err-clause-reason : goal.returns-in-Err-clause-reason
returns-in-Err-clause-reason g c =
    let file = (g.P.Disk.history c.args.disk).now.reads in
    reason_on (λ n. IsTrue g.P.Disk.is_known → index_of_file (g.P.Disk.history c.new-file.result.disk).now.reads ≡ Err n) (λ n. IsTrue g.P.Disk.is_known → contents_of_file file ≡ Err n)
    (FaultCounted (g.P.Disk.faults c.new-file.result.disk) (g.P.Disk.faults c.read_index.new.file.disk)) (FaultCounted (g.P.Disk.faults c.args.disk) (g.P.Disk.faults c.into_parts-disk.result.0))
    (λ n broken known. broken_same file n ((λ i. index_of_file (g.P.Disk.history (sym c.new-file.ensures.disk i)).now.reads) ∙ broken known))
    (λ counted. subst (λ (f : ℕ). FaultCounted (g.P.Disk.faults c.args.disk) f) (λ i. g.P.Disk.faults (sym c.into_parts-disk.ensures.disk i)) (subst (λ (f : ℕ). FaultCounted f (g.P.Disk.faults c.read_index.new.file.disk)) (λ i. g.P.Disk.faults (c.new-file.ensures.disk i)) counted))
    c.in-Err.fault c.in-Err.ensures.reason

pub returns-in-Ok-clause-rules : goal.returns-in-Ok-clause-rules
returns-in-Ok-clause-rules g c known =
    let file = (g.P.Disk.history c.args.disk).now.reads in
    let index = index_at c.in-Ok.base c.in-Ok.starts in
    all_kept file (file_entries file) index.base (open_contents file index ((λ i. index_of_file (g.P.Disk.history (sym c.new-file.ensures.disk i)).now.reads) ∙ c.in-Ok.ensures.index known))

pub returns-in-Err-clause-rules : goal.returns-in-Err-clause-rules
returns-in-Err-clause-rules g c =
    let file = (g.P.Disk.history c.args.disk).now.reads in
    reason_on (λ n. IsTrue g.P.Disk.is_known → index_of_file (g.P.Disk.history c.new-file.result.disk).now.reads ≡ Err n) (λ n. IsTrue g.P.Disk.is_known → IsFirstBroken file n)
    (FaultCounted (g.P.Disk.faults c.new-file.result.disk) (g.P.Disk.faults c.read_index.new.file.disk)) (Unit {0})
    (λ n broken known. first_broken file n (broken_same file n ((λ i. index_of_file (g.P.Disk.history (sym c.new-file.ensures.disk i)).now.reads) ∙ broken known)))
    (λ counted. tt)
    c.in-Err.fault c.in-Err.ensures.reason
