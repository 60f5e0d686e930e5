use Rattle.std.proofs.Common.{Some, nat_cmp, ap, ◌∙◌}
use Rattle.dewey_labels.proofs.NewLabelCalls.{between_made, made_label, answered_child, answered_behind, answered_ahead}
use Rattle.dewey_labels.proofs.NewLabels.{codes_less}
use Rattle.dewey_labels.proofs.new_labels.child_between.Goals as goal
use Rattle.std.specs.Cmp.Lexicographic.{slice_cmp}
use Rattle.dewey_labels.specs.Sides.{rest}

pub push_between-requires-clause-order : goal.push_between-requires-clause-order
push_between-requires-clause-order c =
    let p = c.args.parent.now in
    let l = c.args.left.now in
    let r = c.args.right.now in
    ap (λ v. slice_cmp nat_cmp v c.code-2.result.now) c.code.ensures.rest
    ∙ ap (slice_cmp nat_cmp (rest p l)) c.code-2.ensures.rest
    ∙ codes_less p l r c.requires.0 c.requires.1 c.requires.2

pub within_limits-requires : goal.within_limits-requires
within_limits-requires c =
    made_label _ (Some c.args.left.now) (Some c.args.right.now) _ c.in_ok-divisions.ensures.label.0 c.requires
    (between_made _ c.args.left.now c.args.right.now _ _ _ _ c.in_ok-divisions.ensures.divisions c.code.ensures.rest c.code-2.ensures.rest c.in_ok-push_between.ensures)

pub returns-clause-child : goal.returns-clause-child
returns-clause-child c =
    answered_child _ (Some c.args.left.now) (Some c.args.right.now) _ _ _ c.requires
    (between_made _ c.args.left.now c.args.right.now _ _ _ _ c.in_ok-divisions.ensures.divisions c.code.ensures.rest c.code-2.ensures.rest c.in_ok-push_between.ensures) c.within_limits.ensures

pub returns-clause-behind : goal.returns-clause-behind
returns-clause-behind c =
    answered_behind c.args.parent.now _ (Some c.args.right.now) _ _ _ c.requires
    (between_made _ c.args.left.now c.args.right.now _ _ _ _ c.in_ok-divisions.ensures.divisions c.code.ensures.rest c.code-2.ensures.rest c.in_ok-push_between.ensures) c.within_limits.ensures

pub returns-clause-ahead : goal.returns-clause-ahead
returns-clause-ahead c =
    answered_ahead c.args.parent.now _ (Some c.args.left.now) _ _ _ c.requires
    (between_made _ c.args.left.now c.args.right.now _ _ _ _ c.in_ok-divisions.ensures.divisions c.code.ensures.rest c.code-2.ensures.rest c.in_ok-push_between.ensures) c.within_limits.ensures
