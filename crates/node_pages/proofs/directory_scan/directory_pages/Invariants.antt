use Rattle.std.proofs.Common.{◌≡◌, drop}
use Rattle.std.specs.List.{AllByRecursion}
use Rattle.node_pages.specs.Filling.{IsSized, no_items, with_items}
use Rattle.node_pages.specs.PageStarts.{start_behind}
use Rattle.node_pages.specs.ScanFaults.{FitsOnPage}
use Rattle.node_pages.proofs.directory_scan.directory_pages.Given as goal

abbrev pub invariant-loop-start : goal.invariant-loop-start
invariant-loop-start l = record {
  sized : IsSized l.filler;
  fit : AllByRecursion FitsOnPage (drop l.start-index l.starts);
  items : with_items start_behind l.filler (drop l.start-index l.starts) ≡ with_items start_behind (no_items 4_294_967_295) l.starts;
}
