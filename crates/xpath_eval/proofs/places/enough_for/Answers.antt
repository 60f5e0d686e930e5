use Rattle.std.proofs.Common.{◌≡◌, ◌-◌, List, ◌∷◌, take, drop, length, w64, FitsSigned, sym, ap, subst, ◌∙◌, rules}
use Rattle.std.proofs.lemmas.Int.{to_z-of_z}
use Rattle.path_model.specs.declared.path.Expr.{Expr}
use Rattle.path_model.specs.PlainPaths.{plain_row}
use Rattle.xpath_eval.specs.inside.Places.{place_of, IsEnough}
use Rattle.xpath_eval.proofs.Opened.{first_is}
use Rattle.xpath_eval.proofs.PlacedNodes.{enough}
use Rattle.xpath_eval.proofs.places.enough_for.Goals as goal

pub returns : goal.returns
returns c =
    let z = c.in_ok-number.number in
    let fits : FitsSigned w64 z = search rules in
    let tests : List Expr = c.args.tests.now in
    let first : Expr = c.first-item.result in
    let rest : List Expr = take (length tests - 1) (drop 1 tests) in
    let is : tests ≡ first ∷ rest = first_is tests first c.in-len1-up.len_at_least c.first-item.is in
    subst (λ p. IsEnough p (plain_row tests)) (sym (c.place_of.ensures ∙ ap place_of (to_z-of_z w64 z fits)))
    (subst (λ es. IsEnough (place_of z) (plain_row es)) (sym is) (enough z first rest c.in_ok-number.ensures))
