use Rattle.std.proofs.Common.{ℕ, ◌≡◌, ◌≤◌, ◌*◌, None, length, sym, subst}
use Rattle.tree_model.specs.Entries.{Entries, Sorted}
use Rattle.node_pages.specs.PageFiles.{file_page}
use Rattle.node_pages.specs.PagesIn.{entries_from}
use Rattle.node_pages.proofs.RunLaws.{records_rise}
use Rattle.paged_seq.specs.PagedFiles.{index_at}
use Rattle.paged_seq.specs.PagedMaps.{file_entries}
use Rattle.paged_seq.proofs.CountLaws.{most_records}
use Rattle.paged_seq.proofs.OpenLaws.{open_entries, open_pages}
use Rattle.paged_seq.proofs.seq.PagedSeq.most_entries.Goals as goal

pub returns-clause-most : goal.returns-clause-most
returns-clause-most g c known =
    let file = (g.P.Disk.history c.self.inside.file.disk).now.reads in
    let index = index_at c.self.inside.base c.self.inside.starts in
    let view : file_entries file ≡ file_entries (g.P.Disk.history c.args.self.now.disk).now.reads = λ i. file_entries (g.P.Disk.history (c.self.view_is i).disk).now.reads in
    let few : length (file_entries file) ≤ 8_192 * length c.self.inside.starts =
    subst (λ (es : Entries). length es ≤ 8_192 * length c.self.inside.starts) (sym (open_entries g.P.Disk.is_known file index c.self.invariant.index known)) (most_records (file_page file) (length c.self.inside.starts)) in
    subst (λ (n : ℕ). length (file_entries (g.P.Disk.history c.args.self.now.disk).now.reads) ≤ 8_192 * n) (sym c.len.ensures) (subst (λ (es : Entries). length es ≤ 8_192 * length c.self.inside.starts) view few)

pub returns-clause-sorted : goal.returns-clause-sorted
returns-clause-sorted g c known =
    let file = (g.P.Disk.history c.self.inside.file.disk).now.reads in
    let index = index_at c.self.inside.base c.self.inside.starts in
    let pages = open_pages g.P.Disk.is_known file index c.self.invariant.index known in
    subst Sorted (λ i. file_entries (g.P.Disk.history (c.self.view_is i).disk).now.reads)
    (subst Sorted (sym (open_entries g.P.Disk.is_known file index c.self.invariant.index known)) (records_rise (entries_from (file_page file) 1 (length c.self.inside.starts)) None None pages.runs))
