use Rattle.std.proofs.Common.{◌≡◌, drop}
use Rattle.dewey_labels.specs.NewLabels.{first_division}
use Rattle.tree_model.specs.Fragments.{plain_row}
use Rattle.tree_model.specs.GraftLimits.{fit_below}
use Rattle.tree_model.proofs.fragment.Fragment.+fits_behind.Given as goal

-- all children keep the limits where those left do
abbrev pub invariant-loop-child : goal.invariant-loop-child
invariant-loop-child l = fit_below l.divisions l.division (plain_row (drop l.child-index l.child-items)) ≡ fit_below l.divisions first_division (plain_row l.child-items)
