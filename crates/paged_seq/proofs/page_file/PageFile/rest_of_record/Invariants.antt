use Rattle.std.proofs.Common.{◌≡◌, ◌≤◌, ◌+◌, ◌*◌, false, IsTrue, length, option_and_then}
use Rattle.node_records.specs.Records.{record_of}
use Rattle.node_pages.specs.Chunks.{whole_record}
use Rattle.node_pages.specs.PageFiles.{file_page}
use Rattle.paged_seq.specs.Places.{IsBehind, IsPlace, begun_record, rest_at, steps_left}
use Rattle.paged_seq.proofs.page_file.PageFile.rest_of_record.Given as goal

abbrev pub invariant-loop-last : goal.invariant-loop-last
invariant-loop-last g l = record {
  within : l.place.at ≤ 8_192;
  same : IsTrue g.P.Disk.is_known → g.P.Disk.history l.self.disk ≡ g.P.Disk.history l.fn.self.disk;
  most : l.self.pool.most ≡ l.fn.self.pool.most;
  faults : g.P.Disk.faults l.self.disk ≡ g.P.Disk.faults l.fn.self.disk;
  place : IsTrue g.P.Disk.is_known → IsPlace (file_page (g.P.Disk.history l.fn.self.disk).now.reads) (length l.starts) l.place;
  behind : IsTrue g.P.Disk.is_known → IsBehind (file_page (g.P.Disk.history l.fn.self.disk).now.reads) (length l.starts) l.fn.place
      → IsBehind (file_page (g.P.Disk.history l.fn.self.disk).now.reads) (length l.starts) l.place;
  whole : IsTrue g.P.Disk.is_known
      → begun_record l.fn.place.before (rest_at (file_page (g.P.Disk.history l.fn.self.disk).now.reads) (length l.starts) l.fn.place)
      ≡ option_and_then record_of (whole_record l.last l.bytes (rest_at (file_page (g.P.Disk.history l.fn.self.disk).now.reads) (length l.starts) l.place));
  reads : 1_024 * l.self.pool.reads ≤ 1_024 * l.fn.self.pool.reads + length l.bytes;
  more : l.last ≡ false → 1_024 * l.self.pool.reads + 1_024 ≤ 1_024 * l.fn.self.pool.reads + length l.bytes;
}

abbrev pub decreases-loop-last : goal.decreases-loop-last
decreases-loop-last g l = steps_left (length l.starts) l.place
