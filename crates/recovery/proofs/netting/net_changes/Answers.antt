use Rattle.std.proofs.Common.{sym}
use Rattle.store_contents.proofs.CommitLaws.{last_more}
use Rattle.recovery.proofs.NetLaws.{net_makes}
use Rattle.recovery.proofs.netting.net_changes.Goals as goal

pub loop-group-preserved : goal.loop-group-preserved
loop-group-preserved c =
    let group = c.in-Some.group in
    let inv = c.loop-group.invariant in
    record {
      makes = λ es s. net_makes c.loop-group.yielded group c.loop-group.older.items c.go_on.new.older.items c.loop-group.newest c.in_ok-next.next c.in_ok-newest.newest es s c.in_ok-next.ensures (inv.makes es s) (c.in_ok-newest.ensures es s);
      number = sym (last_more c.loop-group.yielded group c.args.base);
    }
