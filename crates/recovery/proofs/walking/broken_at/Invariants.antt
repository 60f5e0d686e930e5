use Rattle.std.proofs.Common.{◌≡◌, IsTrue}
use Rattle.recovery.specs.inside.Walking.{IsWalking}
use Rattle.recovery.proofs.walking.broken_at.Given as goal

abbrev pub invariant-loop : goal.invariant-loop
invariant-loop g l = record {
  same : IsTrue g.P.Disk.is_known → g.P.Disk.history l.seq.disk ≡ g.P.Disk.history l.fn.seq.disk;
  faults : g.P.Disk.faults l.seq.disk ≡ g.P.Disk.faults l.fn.seq.disk;
  most : l.seq.pool.most ≡ l.fn.seq.pool.most;
  walking : IsWalking g.P.Disk.is_known (g.P.Disk.history l.fn.seq.disk).now.reads l.changes l.left l.found l.tester;
}
