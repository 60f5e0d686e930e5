use Rattle.std.proofs.Common.{◌≡◌, ◌≤◌, take}
use Rattle.checkpoint.specs.inside.Gathered.{AreWhole}
use Rattle.checkpoint.proofs.new_pages.whole_front.Given as goal

abbrev pub invariant-loop-page : goal.invariant-loop-page
invariant-loop-page l = record {
  count : l.count ≡ l.page-index;
  few : l.page-index ≤ 32_768;
  whole : AreWhole (take l.page-index l.pages);
}
