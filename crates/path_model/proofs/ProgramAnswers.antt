-- What programs answer on a tree.
use Rattle.std.proofs.Common.{◌≡◌, List, [], ◌∷◌, ◌++◌, refl, ap, ◌∙◌}
use Rattle.std.specs.List.{AllByRecursion}
use Rattle.tree_model.specs.Tree.{Tree}
use Rattle.path_model.specs.Programs.{Program, ends, looks, answer, seen, and_then, gathered}

pub answer-and_then : {A B : Type 0} (t : Tree) (p : Program A) (f : A → Program B) → answer t (and_then p f) ≡ answer t (f (answer t p))
answer-and_then t (ends a) f = refl
answer-and_then t (looks o k) f = answer-and_then t (k (seen t o)) f

-- the lists of items, one behind another
abbrev pub flat : {A B : Type 0} → (A → List B) → List A → List B
flat f [] = []
flat f (x ∷ xs) = f x ++ flat f xs

pub answer-gathered : {A B : Type 0} (t : Tree) (f : A → Program (List B)) (xs : List A) → answer t (gathered f xs) ≡ flat (λ x. answer t (f x)) xs
answer-gathered t f [] = refl
answer-gathered t f (x ∷ xs) =
    answer-and_then t (f x) (λ ys. and_then (gathered f xs) (λ zs. ends (ys ++ zs)))
    ∙ answer-and_then t (gathered f xs) (λ zs. ends (answer t (f x) ++ zs))
    ∙ ap (λ zs. answer t (f x) ++ zs) (answer-gathered t f xs)

-- what is the same of each item is the same of all
pub flat_on : {A B : Type 0} (P : A → Type 0) (f g : A → List B) → ((x : A) → P x → f x ≡ g x) → (xs : List A) → AllByRecursion P xs → flat f xs ≡ flat g xs
flat_on P f g h [] w = refl
flat_on P f g h (x ∷ xs) w = ap (λ ys. ys ++ flat f xs) (h x w.0) ∙ ap (λ zs. g x ++ zs) (flat_on P f g h xs w.1)
