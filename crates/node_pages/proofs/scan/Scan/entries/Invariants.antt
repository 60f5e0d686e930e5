use Rattle.std.proofs.Common.{◌≡◌, length}
use Rattle.std.specs.Vec.Iter.{into_iter_items, into_iter_len}
use Rattle.node_pages.specs.Scanning.{after_entries}
use Rattle.node_pages.proofs.scan.Scan.entries.Given as goal

abbrev pub invariant-loop-entry : goal.invariant-loop-entry
invariant-loop-entry l = record {
  entries : after_entries l.self (into_iter_items l.entry-iterator) ≡ after_entries l.initial.self l.fn.entries;
  left : into_iter_len l.entry-iterator ≡ length (into_iter_items l.entry-iterator);
}
