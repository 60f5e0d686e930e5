use Rattle.std.proofs.Common.{◌≡◌, ◌≤◌, take, length}
use Rattle.std.specs.List.{AllByRecursion}
use Rattle.node_records.specs.Changes.{IsWritableChange, changes_bytes}
use Rattle.tx_core.specs.Commits.{body_limit}
use Rattle.tx_core.proofs.commits.body_of.Given as goal

abbrev pub invariant-loop-change : goal.invariant-loop-change
invariant-loop-change l = record {
  body : l.body ≡ changes_bytes (take l.change-index l.changes);
  writable : AllByRecursion IsWritableChange (take l.change-index l.changes);
  short : length l.body ≤ body_limit;
}
