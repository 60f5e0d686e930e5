use Rattle.std.proofs.Common.{◌≡◌, ◌++◌, List}
use Rattle.node_records.specs.declared.entries.Entry.{Entry}
use Rattle.node_pages.specs.Chunks.{records_behind}
use Rattle.paged_seq.proofs.records.take_entries.Given as goal

abbrev pub invariant-loop-entry : goal.invariant-loop-entry
invariant-loop-entry l = (more : List Entry) → l.records ++ records_behind l.part more ≡ l.fn.records ++ records_behind l.fn.part (l.yielded ++ more)
