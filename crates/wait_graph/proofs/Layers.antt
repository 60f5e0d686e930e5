-- One more owner is put into the layer behind, or left out of it.
use Rattle.std.proofs.Common.{◌≡◌, ℕ, List, [], ◌∷◌, ◌++◌, Option, Some, None, refl, ap, ◌∙◌}
use Rattle.wait_graph.specs.declared.search.Waiter.{Waiter}
use Rattle.wait_graph.specs.declared.search.Walk.{Walk}
use Rattle.wait_graph.specs.inside.Search.{found, reached, reached_by, unreached, unreached_by}

pub reached_more : (layer : List Walk) (ys : List Waiter) (x : Waiter) → reached layer (ys ++ x ∷ []) ≡ reached layer ys ++ reached layer (x ∷ [])
reached_more layer [] x = refl
reached_more layer (y ∷ ys) x = ap (reached_by y.owner (found y.holders layer)) (reached_more layer ys x) ∙ go (found y.holders layer)
  where
    go : (o : Option (List ℕ)) → reached_by y.owner o (reached layer ys ++ reached layer (x ∷ [])) ≡ reached_by y.owner o (reached layer ys) ++ reached layer (x ∷ [])
    go None = refl
    go (Some us) = refl

pub unreached_more : (layer : List Walk) (ys : List Waiter) (x : Waiter) → unreached layer (ys ++ x ∷ []) ≡ unreached layer ys ++ unreached layer (x ∷ [])
unreached_more layer [] x = refl
unreached_more layer (y ∷ ys) x = ap (unreached_by y (found y.holders layer)) (unreached_more layer ys x) ∙ go (found y.holders layer)
  where
    go : (o : Option (List ℕ)) → unreached_by y o (unreached layer ys ++ unreached layer (x ∷ [])) ≡ unreached_by y o (unreached layer ys) ++ unreached layer (x ∷ [])
    go None = refl
    go (Some us) = refl
