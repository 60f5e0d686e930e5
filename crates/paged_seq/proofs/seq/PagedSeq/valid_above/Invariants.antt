use Rattle.std.proofs.Common.{◌≡◌, ◌≤◌, ◌+◌, IsTrue, length}
use Rattle.tree_model.specs.Entries.{first_above}
use Rattle.node_seq.specs.Reads.{LiesAbove}
use Rattle.paged_seq.specs.PagedMaps.{file_entries, next_cost, valid_entries}
use Rattle.paged_seq.proofs.CostLaws.{on_above}
use Rattle.paged_seq.proofs.ValidLaws.{left_above, next_valid}
use Rattle.paged_seq.proofs.seq.PagedSeq.valid_above.Given as goal

abbrev pub invariant-loop : goal.invariant-loop
invariant-loop g l = record {
  same : IsTrue g.P.Disk.is_known → g.P.Disk.history l.self.disk ≡ g.P.Disk.history l.fn.self.disk;
  faults : g.P.Disk.faults l.self.disk ≡ g.P.Disk.faults l.fn.self.disk;
  index : l.self.index ≡ l.fn.self.index;
  most : l.self.pool.most ≡ l.fn.self.pool.most;
  side : LiesAbove l.key l.found;
  value : IsTrue g.P.Disk.is_known
      → first_above l.key (valid_entries (file_entries (g.P.Disk.history l.fn.self.disk).now.reads)) ≡ next_valid (file_entries (g.P.Disk.history l.fn.self.disk).now.reads) l.found;
  left : IsTrue g.P.Disk.is_known → l.counter + left_above (file_entries (g.P.Disk.history l.fn.self.disk).now.reads) l.found ≤ length (file_entries (g.P.Disk.history l.fn.self.disk).now.reads);
  pages : IsTrue g.P.Disk.is_known → l.self.pool.reads + on_above (file_entries (g.P.Disk.history l.fn.self.disk).now.reads) l.found
      ≤ l.fn.self.pool.reads + next_cost l.key (file_entries (g.P.Disk.history l.fn.self.disk).now.reads);
}
