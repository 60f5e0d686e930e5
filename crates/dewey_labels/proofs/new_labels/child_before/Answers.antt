use Rattle.std.proofs.Common.{Some, None}
use Rattle.dewey_labels.proofs.NewLabelCalls.{before_made, made_label, answered_child, answered_ahead}
use Rattle.dewey_labels.proofs.new_labels.child_before.Goals as goal

pub within_limits-requires : goal.within_limits-requires
within_limits-requires c =
    made_label _ None (Some c.args.right.now) _ c.in_ok-divisions.ensures.label.0 c.requires
    (before_made _ c.args.right.now _ _ _ c.in_ok-divisions.ensures.divisions c.code.ensures.rest c.in_ok-push_before.ensures)

pub returns-clause-child : goal.returns-clause-child
returns-clause-child c =
    answered_child _ None (Some c.args.right.now) _ _ _ c.requires
    (before_made _ c.args.right.now _ _ _ c.in_ok-divisions.ensures.divisions c.code.ensures.rest c.in_ok-push_before.ensures) c.within_limits.ensures

pub returns-clause-ahead : goal.returns-clause-ahead
returns-clause-ahead c =
    answered_ahead c.args.parent.now _ None _ _ _ c.requires
    (before_made _ c.args.right.now _ _ _ c.in_ok-divisions.ensures.divisions c.code.ensures.rest c.in_ok-push_before.ensures) c.within_limits.ensures
