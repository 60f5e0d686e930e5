use Rattle.std.proofs.Common.{◌≡◌, ◌≤◌, ◌+◌, ◌-◌, IsTrue}
use Rattle.node_pages.specs.PageFiles.{file_page}
use Rattle.node_pages.specs.PagesIn.{after_pages}
use Rattle.paged_seq.specs.PagedFiles.{whole_below}
use Rattle.paged_seq.proofs.opening.take_pages.Given as goal

abbrev pub invariant-loop-page : goal.invariant-loop-page
invariant-loop-page g l = record {
  same : IsTrue g.P.Disk.is_known → g.P.Disk.history l.file.disk ≡ g.P.Disk.history l.fn.file.disk;
  faults : g.P.Disk.faults l.file.disk ≡ g.P.Disk.faults l.fn.file.disk;
  most : l.file.pool.most ≡ l.fn.file.pool.most;
  reads : IsTrue g.P.Disk.is_known → l.file.pool.reads + whole_below l.first (g.P.Disk.history l.fn.file.disk).now.reads
      ≤ l.fn.file.pool.reads + whole_below l.page (g.P.Disk.history l.fn.file.disk).now.reads;
  taken : IsTrue g.P.Disk.is_known
      → after_pages g.T.PagePass.after (file_page (g.P.Disk.history l.fn.file.disk).now.reads) l.first l.pages l.fn.pass
      ≡ after_pages g.T.PagePass.after (file_page (g.P.Disk.history l.fn.file.disk).now.reads) l.page (l.page-end - l.page) l.pass;
}
