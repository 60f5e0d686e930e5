use Rattle.std.proofs.Common.{ap, inr}
use Rattle.outside_traits.specs.Disks.{Synced, Unsynced}
use Rattle.outside_kinds.specs.declared.noted_call.DiskCall.TheVariants.{Sync, FailedSync}
use Rattle.outside_kinds.proofs.Replay.{goes, fails, bytes_kept, goes_synced, goes_unsynced}
use Rattle.outside_kinds.specs.MemoryDisks.{history_of}
use Rattle.outside_kinds.proofs.mem_disk.MemDiskDisk.sync.Goals as goal

pub returns-then-fails_now-clause-err : goal.returns-then-fails_now-clause-err
returns-then-fails_now-clause-err c = fails Unsynced FailedSync c.args.self.now _ _ (ap history_of c.self.view_is) c.note_failed_sync.ensures (goes_unsynced (history_of c.args.self.now))

pub returns-clause-ok : goal.returns-clause-ok
returns-clause-ok c = goes Synced Sync c.args.self.now _ _ (ap history_of c.self.view_is) c.in-Ok.ensures.ok (goes_synced (history_of c.args.self.now))

pub returns-then-fails_now-clause-bytes : goal.returns-then-fails_now-clause-bytes
returns-then-fails_now-clause-bytes c = bytes_kept FailedSync c.args.self.now _ _ (ap history_of c.self.view_is) c.note_failed_sync.ensures tt

pub returns-clause-bytes : goal.returns-clause-bytes
returns-clause-bytes c = bytes_kept Sync c.args.self.now _ _ (ap history_of c.self.view_is) (inr c.in-Ok.ensures.ok) tt
