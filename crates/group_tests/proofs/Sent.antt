-- A disk whose syncs are held may go to other threads, and threads share what holds it.
use denote.Param.Send.{IsSend, IsSync, sendable}
use Rattle.std.proofs.Crossing.{crosses}
use Rattle.outside_kinds.proofs.mem_disk.MemDisk.TheSendSync as disk
use Rattle.outside_kinds.specs.contracts.mem_disk.MemDisk as MemDisk
use Rattle.group_tests.specs.contracts.hold.Held as Held
use Rattle.group_tests.specs.contracts.hold.Hold as Hold

hold_send : IsSend Hold.the_row
hold_send = search (sendable, crosses) depth 20

pub hold_sync : IsSync Hold.the_row
hold_sync = search (sendable, crosses) depth 20

pub held_send : IsSend (Held.the_row MemDisk.the_row)
held_send = search (sendable, crosses, hold_send, hold_sync, disk.the_send) depth 20
