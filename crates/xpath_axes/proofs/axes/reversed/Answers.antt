use Rattle.std.proofs.Common.{◌≡◌, ◌++◌, [], ◌∷◌, List, map, reverse, refl, sym, ap, ◌∙◌}
use Rattle.std.proofs.lemmas.Grind.{reverse_onto}
use Rattle.std.proofs.lemmas.List.{map-append}
use Rattle.xpath_axes.specs.Positions.{plain, all_plain}
use Rattle.xpath_axes.proofs.axes.reversed.Goals as goal

map_reversed : {A B : Type 0} (f : A → B) (xs : List A) → map f (reverse xs) ≡ reverse (map f xs)
map_reversed f [] = refl
map_reversed f (x ∷ xs) =
    ap (map f) (reverse_onto xs x []) ∙ map-append f (reverse xs) (x ∷ []) ∙ ap (λ ys. ys ++ (f x ∷ [])) (map_reversed f xs) ∙ sym (reverse_onto (map f xs) (f x) [])

pub returns : goal.returns
returns c = ap all_plain (c.from_vec.ensures ∙ c.reverse.ensures.items ∙ ap reverse c.into_vec-turned.ensures) ∙ map_reversed plain c.args.positions
