use Rattle.std.proofs.Common.{◌≡◌, map}
use Rattle.tree_model.specs.Changes.{put_change}
use Rattle.dom_writes.proofs.grafts.puts.Given as goal

-- the changes so far put the entries so far
abbrev pub invariant-loop-key : goal.invariant-loop-key
invariant-loop-key l = l.changes ≡ map put_change l.yielded
