use Rattle.std.proofs.Common.{◌≡◌, IsTrue, drop}
use Rattle.page_store.specs.inside.Installing.{IsInstalling}
use Rattle.page_store.proofs.writing.install.Given as goal

abbrev pub invariant-loop-number : goal.invariant-loop-number
invariant-loop-number g l = record {
  so_far : IsTrue g.P.Disk.is_known → IsInstalling l.fn.images (drop l.number-index l.images) (g.P.Disk.history l.fn.pages) (g.P.Disk.history l.pages);
  count : g.P.Disk.faults l.pages ≡ g.P.Disk.faults l.fn.pages;
}
