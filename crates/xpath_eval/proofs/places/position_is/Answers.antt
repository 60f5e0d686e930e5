use Rattle.std.proofs.Common.{◌≡◌}
use Rattle.path_model.specs.Paths.{number}
use Rattle.path_model.specs.PlainPaths.{plain}
use Rattle.path_model.specs.Paths.{binary}
use Rattle.path_model.specs.declared.path.Op.TheVariants as kinds
use Rattle.xpath_eval.specs.inside.Places.{KeepsAsNumber}
use Rattle.xpath_eval.proofs.PlacedNodes.{position_left, position_right, where_there}
use Rattle.xpath_eval.proofs.places.position_is.Goals as goal

pub returns-then-is_position : goal.returns-then-is_position
returns-then-is_position c =
    let a = plain c.args.left.now in
    let b = plain c.args.right.now in
    where_there (λ z. b ≡ number z) (λ z. KeepsAsNumber z (binary kinds.Eq a b)) c.literal.result (λ z e. position_left z a b (c.is_position.ensures c.if-is_position.true) e) c.literal.ensures

pub returns-then-is_position-2 : goal.returns-then-is_position-2
returns-then-is_position-2 c =
    let a = plain c.args.left.now in
    let b = plain c.args.right.now in
    where_there (λ z. a ≡ number z) (λ z. KeepsAsNumber z (binary kinds.Eq a b)) c.literal-then-is_position-2.result (λ z e. position_right z a b e (c.is_position-2.ensures c.if-is_position-2.true)) c.literal-then-is_position-2.ensures
