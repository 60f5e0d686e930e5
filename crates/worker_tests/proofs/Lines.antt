-- What holds of all items of a list holds of them with one more.
use Rattle.std.proofs.Common.{List, [], ◌∷◌, ◌++◌}
use Rattle.std.specs.List.{AllByRecursion}

pub all_with : {X : Type 0} (P : X → Type 0) (xs : List X) (y : X) → AllByRecursion P xs → P y → AllByRecursion P (xs ++ y ∷ [])
all_with P [] y a b = (b, tt)
all_with P (x ∷ xs) y a b = (a.0, all_with P xs y a.1 b)
