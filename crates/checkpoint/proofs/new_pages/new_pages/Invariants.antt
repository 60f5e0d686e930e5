use Rattle.std.proofs.Common.{◌≡◌, IsTrue, length, take}
use Rattle.checkpoint.specs.NewPages.{new_pages}
use Rattle.checkpoint.specs.inside.Gathered.{AreGathered}
use Rattle.checkpoint.proofs.new_pages.new_pages.Given as goal

abbrev pub invariant-loop-page : goal.invariant-loop-page
invariant-loop-page g l = record {
  number : l.number ≡ l.page-index;
  frame : length l.frame.items ≡ 8_192;
  same : IsTrue g.P.Disk.is_known → g.P.Disk.history l.disk ≡ g.P.Disk.history l.fn.disk;
  faults : g.P.Disk.faults l.disk ≡ g.P.Disk.faults l.fn.disk;
  pages : IsTrue g.P.Disk.is_known → l.images ≡ new_pages 0 (take l.page-index l.page-items) (g.P.Disk.history l.fn.disk).now.reads;
  gathered : AreGathered l.page-index l.images;
}
