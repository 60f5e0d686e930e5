use Rattle.std.proofs.Common.{List, length, sym, ap, subst, ◌∙◌}
use Rattle.std.proofs.lemmas.Result.{MatchResult-weaker}
use Rattle.node_pages.specs.PageFiles.{IsIndex, file_page}
use Rattle.node_pages.specs.declared.page_start.PageStart.{PageStart}
use Rattle.paged_seq.specs.PagedFiles.{index_at}
use Rattle.paged_seq.specs.PagedMaps.{file_entries, records_of}
use Rattle.paged_seq.proofs.OpenLaws.{open_entries, open_pages}
use Rattle.paged_seq.proofs.seq.PagedSeq.entries.Goals as goal

pub read_records-all-requires-clause-index : goal.read_records-all-requires-clause-index
read_records-all-requires-clause-index g c known =
    let file = (g.P.Disk.history c.self.inside.file.disk).now.reads in
    subst (λ (ss : List PageStart). IsIndex (file_page file) ss) (sym c.as_slice.ensures) (open_pages g.P.Disk.is_known file (index_at c.self.inside.base c.self.inside.starts) c.self.invariant.index known)

pub returns-clause-value : goal.returns-clause-value
returns-clause-value g c =
    let file = (g.P.Disk.history c.self.inside.file.disk).now.reads in
    MatchResult-weaker c.read_records-all.result c.read_records-all.ensures.value (λ found value known.
    value known ∙ ap (λ (ss : List PageStart). records_of (file_page file) (length ss)) c.as_slice.ensures
    ∙ sym (open_entries g.P.Disk.is_known file (index_at c.self.inside.base c.self.inside.starts) c.self.invariant.index known)
    ∙ (λ i. file_entries (g.P.Disk.history (c.self.view_is i).disk).now.reads)) (λ e other. other)
