use Rattle.std.proofs.Common.{ap, length}
use Rattle.outside_traits.specs.Disks.{OpensRange, Wrote}
use Rattle.outside_kinds.specs.declared.noted_call.DiskCall.TheVariants.{Write, FailedWrite}
use Rattle.outside_kinds.proofs.Replay.{goes, fails, bytes_kept, goes_wrote, goes_opened}
use Rattle.outside_kinds.specs.MemoryDisks.{history_of}
use Rattle.outside_kinds.proofs.mem_disk.MemDiskDisk.write_at.Goals as goal

pub returns-then-fails_now-clause-err : goal.returns-then-fails_now-clause-err
returns-then-fails_now-clause-err c =
    fails (OpensRange c.args.at (length c.args.bytes.now)) (FailedWrite c.args.at c.args.bytes.now) c.args.self.now _ _ (ap history_of c.self.view_is) c.note_failed_write.ensures (goes_opened c.args.at c.args.bytes.now (history_of c.args.self.now))

pub returns-clause-ok : goal.returns-clause-ok
returns-clause-ok c =
    goes (Wrote c.args.at c.args.bytes.now) (Write c.args.at c.args.bytes.now) c.args.self.now _ _ (ap history_of c.self.view_is) c.in-Ok.ensures.ok (goes_wrote c.args.at c.args.bytes.now (history_of c.args.self.now) c.requires.within)

pub returns-then-fails_now-clause-bytes : goal.returns-then-fails_now-clause-bytes
returns-then-fails_now-clause-bytes c = bytes_kept (FailedWrite c.args.at c.args.bytes.now) c.args.self.now _ _ (ap history_of c.self.view_is) c.note_failed_write.ensures tt
