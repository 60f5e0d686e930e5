use Rattle.std.proofs.Common.{◌≡◌, ◌≤◌, ◌+◌, IsTrue, length}
use Rattle.tree_model.specs.Entries.{last_below}
use Rattle.node_seq.specs.Reads.{LiesBelow}
use Rattle.paged_seq.specs.PagedMaps.{file_entries, prev_cost, valid_entries}
use Rattle.paged_seq.proofs.CostLaws.{on_below}
use Rattle.paged_seq.proofs.ValidLaws.{left_below, prev_valid}
use Rattle.paged_seq.proofs.seq.PagedSeq.valid_below.Given as goal

abbrev pub invariant-loop : goal.invariant-loop
invariant-loop g l = record {
  same : IsTrue g.P.Disk.is_known → g.P.Disk.history l.self.disk ≡ g.P.Disk.history l.fn.self.disk;
  faults : g.P.Disk.faults l.self.disk ≡ g.P.Disk.faults l.fn.self.disk;
  index : l.self.index ≡ l.fn.self.index;
  most : l.self.pool.most ≡ l.fn.self.pool.most;
  side : LiesBelow l.key l.found;
  value : IsTrue g.P.Disk.is_known
      → last_below l.key (valid_entries (file_entries (g.P.Disk.history l.fn.self.disk).now.reads)) ≡ prev_valid (file_entries (g.P.Disk.history l.fn.self.disk).now.reads) l.found;
  left : IsTrue g.P.Disk.is_known → l.counter + left_below (file_entries (g.P.Disk.history l.fn.self.disk).now.reads) l.found ≤ length (file_entries (g.P.Disk.history l.fn.self.disk).now.reads);
  pages : IsTrue g.P.Disk.is_known → l.self.pool.reads + on_below (file_entries (g.P.Disk.history l.fn.self.disk).now.reads) l.found
      ≤ l.fn.self.pool.reads + prev_cost l.key (file_entries (g.P.Disk.history l.fn.self.disk).now.reads);
}
