use Rattle.std.proofs.Common.{◌-◌, ◌≤◌, length, take}
use Rattle.tx_core.specs.inside.Asking.{AreGranted}
use Rattle.tx_core.proofs.asking.ask_all.Given as goal

abbrev pub invariant-loop-granted : goal.invariant-loop-granted
invariant-loop-granted l = record {
  within : l.granted ≤ length l.requests;
  start : l.ways.start ≤ l.granted;
  before : l.ways.before ≤ l.granted;
  so_far : AreGranted l.fn.table l.owner (take l.granted l.requests) l.table;
}

abbrev pub decreases-loop-granted : goal.decreases-loop-granted
decreases-loop-granted l = length l.requests - l.granted
