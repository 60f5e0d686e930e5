-- What filters leave of positions.
use Rattle.std.proofs.Common.{◌≡◌, Bool, true, false, cond, ◌&&◌, List, [], ◌∷◌, ◌++◌, reverse, refl, sym, ap, ◌∙◌, append-nil}
use Rattle.std.specs.List.{AllByRecursion, filter}
use Rattle.std.proofs.lemmas.Grind.{reverse_onto}
use Rattle.tree_model.specs.Tree.{Tree}
use Rattle.path_model.specs.Positions.{Position, positions}
use Rattle.path_model.specs.Sets.{Among}
use Rattle.path_model.proofs.Members.{all_themselves}
use Rattle.path_model.proofs.OrderLaws.{filter_where}
use Rattle.path_model.proofs.SubtreeLaws.{filter_joined}

module _ {A : Type 0} where
  -- two tests at once are one behind the other
  one_of_both : (p q : A → Bool) (x : A) (xs : List A) (b : Bool) → p x ≡ b → filter q (cond b (x ∷ filter p xs) (filter p xs)) ≡ cond (b && q x) (x ∷ filter q (filter p xs)) (filter q (filter p xs))
  one_of_both p q x xs true e = refl
  one_of_both p q x xs false e = refl

  pub filter_both : (p q : A → Bool) (xs : List A) → filter (λ x. p x && q x) xs ≡ filter q (filter p xs)
  filter_both p q [] = refl
  filter_both p q (x ∷ xs) = ap (λ (ys : List A). cond (p x && q x) (x ∷ ys) ys) (filter_both p q xs) ∙ sym (one_of_both p q x xs (p x) refl)

  -- nothing is left
  pub filter_out : (P : A → Type 0) (q : A → Bool) → ((x : A) → P x → q x ≡ false) → (xs : List A) → AllByRecursion P xs → filter q xs ≡ []
  filter_out P q h [] w = refl
  filter_out P q h (x ∷ xs) w = ap (λ b. cond b (x ∷ filter q xs) (filter q xs)) (h x w.0) ∙ filter_out P q h xs w.1

  -- backwards
  one_reversed : (q : A → Bool) (x : A) (xs : List A) (b : Bool) → reverse (filter q xs) ++ cond b (x ∷ []) [] ≡ reverse (cond b (x ∷ filter q xs) (filter q xs))
  one_reversed q x xs true = sym (reverse_onto (filter q xs) x [])
  one_reversed q x xs false = append-nil (reverse (filter q xs))

  pub filter_reversed : (q : A → Bool) (xs : List A) → filter q (reverse xs) ≡ reverse (filter q xs)
  filter_reversed q [] = refl
  filter_reversed q (x ∷ xs) =
      ap (filter q) (reverse_onto xs x [])
      ∙ filter_joined q (reverse xs) (x ∷ [])
      ∙ ap (λ ys. ys ++ cond (q x) (x ∷ []) []) (filter_reversed q xs)
      ∙ one_reversed q x xs (q x)

-- tests that agree on the positions of a tree
pub filter_there : (t : Tree) (p q : Position → Bool) → ((n : Position) → Among n (positions t) → p n ≡ q n) → filter p (positions t) ≡ filter q (positions t)
filter_there t p q h = filter_where (λ n. Among n (positions t)) p q h (positions t) (all_themselves (positions t))
