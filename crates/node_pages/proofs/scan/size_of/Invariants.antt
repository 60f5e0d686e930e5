use Rattle.std.proofs.Common.{◌≡◌, ◌++◌, None, drop}
use Rattle.node_pages.specs.EntryForm.{entry_behind}
use Rattle.node_pages.specs.Filling.{written}
use Rattle.node_pages.proofs.scan.size_of.Given as goal

abbrev pub invariant-loop-entry : goal.invariant-loop-entry
invariant-loop-entry l = l.bytes ++ written entry_behind None (drop l.entry-index l.entries) ≡ written entry_behind None l.entries
