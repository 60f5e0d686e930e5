use Rattle.std.proofs.Common.{None}
use Rattle.dewey_labels.proofs.NewLabelCalls.{first_made, made_label, answered_child}
use Rattle.dewey_labels.proofs.new_labels.child_first.Goals as goal

pub within_limits-requires : goal.within_limits-requires
within_limits-requires c = made_label _ None None _ c.in_ok-divisions.ensures.label.0 tt (first_made _ _ _ c.in_ok-divisions.ensures.divisions c.in_ok-push.ensures.ok)

pub returns-clause-child : goal.returns-clause-child
returns-clause-child c = answered_child _ None None _ _ _ tt (first_made _ _ _ c.in_ok-divisions.ensures.divisions c.in_ok-push.ensures.ok) c.within_limits.ensures
