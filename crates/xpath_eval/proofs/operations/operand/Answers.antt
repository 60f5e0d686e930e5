use Rattle.std.proofs.Common.{◌≡◌, ℕ, zero, suc, List, [], ◌∷◌, drop, map, refl, sym, ap, ◌∙◌, arith}
use Rattle.path_model.specs.Functions.{first_of}
use Rattle.xpath_axes.proofs.Running.{item_next}
use Rattle.xpath_eval.specs.Values.{meant, all_meant}
use Rattle.xpath_eval.proofs.operations.operand.Goals as goal

map_drop : {A B : Type 0} (f : A → B) (i : ℕ) (xs : List A) → map f (drop i xs) ≡ drop i (map f xs)
map_drop f zero xs = refl
map_drop f (suc i) [] = refl
map_drop f (suc i) (x ∷ xs) = map_drop f i xs

pub returns-then-place-values : goal.returns-then-place-values
returns-then-place-values c =
    let vs = c.args.values.now in
    let i = c.args.place in
    sym (ap (λ us. first_of (all_meant us)) (item_next vs i c.index-values-place.result (omega arith) c.index-values-place.is)) ∙ ap first_of (map_drop meant i vs)
