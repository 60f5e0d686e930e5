use Rattle.std.proofs.Common.{◌≡◌, ◌++◌, ◌-◌, ◌+◌, ◌≤◌, reverse}
use Rattle.dewey_labels.specs.Labels.{cut}
use Rattle.dewey_labels.specs.Ancestors.{cuts}
use Rattle.xpath_axes.proofs.labels.labels_up.Given as goal

abbrev pub invariant-loop-level : goal.invariant-loop-level
invariant-loop-level l = record {
  met : l.labels ≡ l.fn.before ++ reverse (cuts (l._level - 1) l.at);
  next : l.next ≡ cut l._level l.at;
  small : l._level ≤ 1 + l._level-end;
}
