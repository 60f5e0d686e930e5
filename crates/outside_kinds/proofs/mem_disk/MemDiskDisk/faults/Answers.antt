use Rattle.std.proofs.Common.{List, ℕ, subst}
use Rattle.outside_traits.specs.Bytes.{IsBytes}
use Rattle.outside_kinds.proofs.DiskLaws.{reads-remain}
use Rattle.outside_kinds.proofs.mem_disk.MemDiskDisk.faults.Goals as goal

pub returns-clause-reads_an_image : goal.returns-clause-reads_an_image
returns-clause-reads_an_image c = record {
  remains = reads-remain c.args.self.now;
  bytes = subst IsBytes c.bytes-bytes.ensures c.are_bytes.ensures;
}
