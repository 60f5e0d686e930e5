-- Facts that hold of each item of a list.
use Rattle.std.proofs.Common.{List, [], ◌∷◌, ◌++◌}
use Rattle.std.specs.List.{AllByRecursion}

module _ {A : Type 0} where
  pub all_append : (P : A → Type 0) (xs ys : List A) → AllByRecursion P xs → AllByRecursion P ys → AllByRecursion P (xs ++ ys)
  all_append P [] ys h g = g
  all_append P (x ∷ xs) ys h g = (h.0, all_append P xs ys h.1 g)

  -- of the second part of two
  pub all_behind : (P : A → Type 0) (xs ys : List A) → AllByRecursion P (xs ++ ys) → AllByRecursion P ys
  all_behind P [] ys h = h
  all_behind P (x ∷ xs) ys h = all_behind P xs ys h.1

  -- of the first part of two
  pub all_before : (P : A → Type 0) (xs ys : List A) → AllByRecursion P (xs ++ ys) → AllByRecursion P xs
  all_before P [] ys h = tt
  all_before P (x ∷ xs) ys h = (h.0, all_before P xs ys h.1)

  -- another fact that follows from one, and from two
  pub all_on : (P Q : A → Type 0) → ((x : A) → P x → Q x) → (xs : List A) → AllByRecursion P xs → AllByRecursion Q xs
  all_on P Q f [] h = tt
  all_on P Q f (x ∷ xs) h = (f x h.0, all_on P Q f xs h.1)

  pub all_by : (P Q R : A → Type 0) → ((x : A) → P x → Q x → R x) → (xs : List A) → AllByRecursion P xs → AllByRecursion Q xs → AllByRecursion R xs
  all_by P Q R f [] h g = tt
  all_by P Q R f (x ∷ xs) h g = (f x h.0 g.0, all_by P Q R f xs h.1 g.1)
