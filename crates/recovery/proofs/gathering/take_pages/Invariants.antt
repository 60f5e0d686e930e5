use Rattle.std.proofs.Common.{◌≡◌, ◌-◌, ◌++◌, IsTrue, drop, length}
use Rattle.store_contents.specs.Contents.{page_among}
use Rattle.recovery.specs.inside.Finishing.{AreLeft, ArePages, StandFrom}
use Rattle.recovery.specs.inside.Fronts.{front}
use Rattle.recovery.proofs.gathering.take_pages.Given as goal

-- what was taken and what is left are all
abbrev pub invariant-loop-page : goal.invariant-loop-page
invariant-loop-page g l = record {
  same : IsTrue g.P.Disk.is_known → g.P.Disk.history l.pages ≡ g.P.Disk.history l.fn.pages;
  faults : g.P.Disk.faults l.pages ≡ g.P.Disk.faults l.fn.pages;
  frame : length l.frame ≡ 8_192;
  left : ArePages (drop l.fn.row.next l.images) → StandFrom 1 (drop l.fn.row.next l.images) → AreLeft l.page (drop l.row.next l.images);
  taken : IsTrue g.P.Disk.is_known → ArePages (drop l.fn.row.next l.images) → StandFrom 1 (drop l.fn.row.next l.images)
      → l.row.bytes ++ front (page_among (drop l.row.next l.images) (g.P.Disk.history l.fn.pages).now.reads) l.page (l.end - l.page)
      ≡ l.fn.row.bytes ++ front (page_among (drop l.fn.row.next l.images) (g.P.Disk.history l.fn.pages).now.reads) 1 (l.end - 1);
}
