use Rattle.std.proofs.Common.{Some, None}
use Rattle.dewey_labels.proofs.NewLabelCalls.{after_made, made_label, answered_child, answered_behind}
use Rattle.dewey_labels.proofs.new_labels.child_after.Goals as goal

pub within_limits-requires : goal.within_limits-requires
within_limits-requires c =
    made_label _ (Some c.args.left.now) None _ c.in_ok-divisions.ensures.label.0 c.requires
    (after_made _ c.args.left.now _ _ _ c.in_ok-divisions.ensures.divisions c.code.ensures.rest c.in_ok-push_after.ensures)

pub returns-clause-child : goal.returns-clause-child
returns-clause-child c =
    answered_child _ (Some c.args.left.now) None _ _ _ c.requires
    (after_made _ c.args.left.now _ _ _ c.in_ok-divisions.ensures.divisions c.code.ensures.rest c.in_ok-push_after.ensures) c.within_limits.ensures

pub returns-clause-behind : goal.returns-clause-behind
returns-clause-behind c =
    answered_behind c.args.parent.now _ None _ _ _ c.requires
    (after_made _ c.args.left.now _ _ _ c.in_ok-divisions.ensures.divisions c.code.ensures.rest c.in_ok-push_after.ensures) c.within_limits.ensures
