use Rattle.std.proofs.Common.{◌≡◌, ◌≤◌, ◌+◌, ◌-◌, ◌++◌, IsTrue, length}
use Rattle.node_pages.specs.Chunks.{records_behind}
use Rattle.node_pages.specs.PageFiles.{file_page}
use Rattle.node_pages.specs.PagesIn.{entries_from}
use Rattle.paged_seq.specs.PagedMaps.{records_of}
use Rattle.paged_seq.proofs.records.read_records.Given as goal

abbrev pub invariant-loop-page : goal.invariant-loop-page
invariant-loop-page g l = record {
  same : IsTrue g.P.Disk.is_known → g.P.Disk.history l.file.disk ≡ g.P.Disk.history l.fn.file.disk;
  faults : g.P.Disk.faults l.file.disk ≡ g.P.Disk.faults l.fn.file.disk;
  most : l.file.pool.most ≡ l.fn.file.pool.most;
  reads : l.file.pool.reads ≤ l.fn.file.pool.reads + l.page;
  read : IsTrue g.P.Disk.is_known
      → l.records ++ records_behind l.part (entries_from (file_page (g.P.Disk.history l.fn.file.disk).now.reads) (l.page + 1) (length l.starts - l.page))
      ≡ records_of (file_page (g.P.Disk.history l.fn.file.disk).now.reads) (length l.starts);
}
