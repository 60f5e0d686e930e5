-- Members of lists of positions.
use Rattle.std.proofs.Common.{Bool, true, false, cond, List, [], ◌∷◌, ◌++◌, inl, inr, refl, sym, subst}
use Rattle.std.specs.List.{AllByRecursion, filter}
use Rattle.std.proofs.Common.{reverse}
use Rattle.std.proofs.lemmas.Grind.{reverse_onto}
use Rattle.path_model.specs.Positions.{Position}
use Rattle.path_model.specs.Sets.{Among}

-- each is one of those
abbrev pub AllAmong : List Position → List Position → Type 0
AllAmong ps ns = AllByRecursion (λ n. Among n ps) ns

pub all_later : (p : Position) (ps ns : List Position) → AllAmong ps ns → AllAmong (p ∷ ps) ns
all_later p ps [] h = tt
all_later p ps (n ∷ ns) h = (inr h.0, all_later p ps ns h.1)

pub all_themselves : (ps : List Position) → AllAmong ps ps
all_themselves [] = tt
all_themselves (p ∷ ps) = (inl refl, all_later p ps ps (all_themselves ps))

module _ {A : Type 0} (P : A → Type 0) where
  pub all_filtered : (q : A → Bool) (xs : List A) → AllByRecursion P xs → AllByRecursion P (filter q xs)
  all_filtered q [] h = tt
  all_filtered q (x ∷ xs) h = elim (q x) as (λ b. AllByRecursion P (cond b (x ∷ filter q xs) (filter q xs))) [ true ↦ (h.0, all_filtered q xs h.1) | false ↦ all_filtered q xs h.1 ]

  pub all_joined : (xs ys : List A) → AllByRecursion P xs → AllByRecursion P ys → AllByRecursion P (xs ++ ys)
  all_joined [] ys h g = g
  all_joined (x ∷ xs) ys h g = (h.0, all_joined xs ys h.1 g)

  pub all_reversed : (xs : List A) → AllByRecursion P xs → AllByRecursion P (reverse xs)
  all_reversed [] h = tt
  all_reversed (x ∷ xs) h = subst (λ ys. AllByRecursion P ys) (sym (reverse_onto xs x [])) (all_joined (reverse xs) (x ∷ []) (all_reversed xs h.1) (h.0, tt))

-- what is filtered out of a list is in it
pub filtered_among : (q : Position → Bool) (ps : List Position) → AllAmong ps (filter q ps)
filtered_among q ps = all_filtered (λ n. Among n ps) q ps (all_themselves ps)
