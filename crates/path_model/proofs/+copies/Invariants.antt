use Rattle.std.proofs.Common.{◌≡◌, take}
use Rattle.path_model.proofs.+copies.Given as goal

abbrev pub invariant-copies::row_copy-loop-expr : goal.invariant-copies::row_copy-loop-expr
invariant-copies::row_copy-loop-expr l = l.copies ≡ take l.expr-index l.row

abbrev pub invariant-path::XPath::copy-loop-step : goal.invariant-path::XPath::copy-loop-step
invariant-path::XPath::copy-loop-step l = l.steps ≡ take l.step-index l.step-items
