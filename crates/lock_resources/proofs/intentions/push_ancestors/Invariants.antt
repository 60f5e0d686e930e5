use Rattle.std.proofs.Common.{◌≡◌, ◌≤◌}
use Rattle.dewey_labels.specs.Labels.{cut, level}
use Rattle.dewey_labels.specs.Ancestors.{cuts}
use Rattle.lock_resources.specs.Intentions.{on_each, on_ancestors}
use Rattle.lock_resources.specs.inside.Gained.{GainedAllBut}
use Rattle.lock_resources.proofs.intentions.push_ancestors.Given as goal

-- so many levels lie between `at` and the label, and the requests above `at` were added
abbrev pub invariant-loop-levels : goal.invariant-loop-levels
invariant-loop-levels l = record {
  some : 1 ≤ l.levels;
  within : l.levels ≤ level l.label;
  here : l.at ≡ cut l.levels l.label;
  added : GainedAllBut l.initial.out l.out (on_ancestors l.above l.parent l.label) (on_each l.above l.parent (cuts l.levels l.label));
}

abbrev pub decreases-loop-levels : goal.decreases-loop-levels
decreases-loop-levels l = l.levels
