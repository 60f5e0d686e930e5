-- How ports go into workers and come out again, from the last to the first.
use Rattle.std.proofs.Common.{◌≡◌, ◌∙◌, ◌<◌, ◌+◌, ℕ, suc, sym, ap, subst, arith, List, [], ◌∷◌, ◌++◌, map, length, take, append_assoc}
use Rattle.std.specs.Prelude.{reverse}
use Rattle.std.specs.List.{AllByRecursion, AllZip, slice_index_or}
use Rattle.std.proofs.lemmas.List.{map-append, reverse-append}
use Rattle.std.proofs.lemmas.List.Elements.{All-from_recursion, All-more, recursion_from_All}
use Rattle.std.proofs.Math.Seq.{take-suc}

-- the last of two lists
pub both_last : {A B : Type 0} (R : A → B → Type 0) (xs : List A) (ys : List B) (x : A) (y : B) → AllZip R (xs ++ x ∷ []) (ys ++ y ∷ []) → AllZip R xs ys × R x y
both_last R [] [] x y a = (tt, a.0)
both_last {A = A} {B = B} R [] (z ∷ zs) x y a = absurd (none zs a.1)
  where
    none : (zs : List B) → AllZip R [] (zs ++ y ∷ []) → ⊥
    none [] n = n
    none (z ∷ zs) n = n
both_last {A = A} {B = B} R (z ∷ zs) [] x y a = absurd (none zs a.1)
  where
    none : (zs : List A) → AllZip R (zs ++ x ∷ []) [] → ⊥
    none [] n = n
    none (z ∷ zs) n = n
both_last R (w ∷ ws) (z ∷ zs) x y a = let rest = both_last R ws zs x y a.1 in ((a.0, rest.0), rest.1)

-- one more, behind those before a place
pub more_rooms : {A B : Type 0} (R : A → B → Type 0) (xs : List A) (ys : List B) (i : ℕ) (x : A) (y : B) → i < length xs → x ≡ slice_index_or xs i x
    → AllZip R (take i xs) ys → R x y → AllZip R (take (i + 1) xs) (ys ++ y ∷ [])
more_rooms {A = A} {B = B} R xs ys i x y lt at a r =
    let one_more : i + 1 ≡ suc i = omega arith in
    subst (λ zs. AllZip R zs (ys ++ y ∷ [])) (sym (ap (λ k. take k xs) one_more ∙ take-suc xs i x lt ∙ ap (λ z. take i xs ++ z ∷ []) (sym at))) (both_more (take i xs) ys a)
  where
    both_more : (zs : List A) (ws : List B) → AllZip R zs ws → AllZip R (zs ++ x ∷ []) (ws ++ y ∷ [])
    both_more [] [] b = (r, tt)
    both_more [] (w ∷ ws) b = absurd b
    both_more (z ∷ zs) [] b = absurd b
    both_more (z ∷ zs) (w ∷ ws) b = (b.0, both_more zs ws b.1)

-- the last of a list goes to the front of one that is turned round
pub moved : {A B : Type 0} (f : B → A) (xs all : List A) (ys : List B) (x : A) (y : B) → f y ≡ x → (xs ++ x ∷ []) ++ map f (reverse ys) ≡ all → xs ++ map f (reverse (ys ++ y ∷ [])) ≡ all
moved f xs all ys x y is e =
    ap (λ zs. xs ++ map f zs) (reverse-append ys (y ∷ [])) ∙ ap (λ z. xs ++ z ∷ map f (reverse ys)) is ∙ sym (append_assoc xs (x ∷ []) (map f (reverse ys))) ∙ e

pub moved_back : {A B : Type 0} (f : B → A) (ys : List B) (xs all : List A) (x : A) (y : B) → f y ≡ x → map f (ys ++ y ∷ []) ++ reverse xs ≡ all → map f ys ++ reverse (xs ++ x ∷ []) ≡ all
moved_back f ys xs all x y is e =
    ap (λ zs. map f ys ++ zs) (reverse-append xs (x ∷ [])) ∙ ap (λ z. map f ys ++ z ∷ reverse xs) (sym is) ∙ sym (append_assoc (map f ys) (f y ∷ []) (reverse xs))
    ∙ ap (λ zs. zs ++ reverse xs) (sym (map-append f ys (y ∷ []))) ∙ e

-- what holds of each item, at a place, and of one more
pub one_at : {X : Type 0} (P : X → Type 0) (xs : List X) (i : ℕ) (x : X) → i < length xs → x ≡ slice_index_or xs i x → AllByRecursion P xs → P x
one_at P xs i x lt at all = subst P (sym at) (All-from_recursion P xs all i x lt)

pub one_more : {X : Type 0} (P : X → Type 0) (xs : List X) (i : ℕ) (x : X) → i < length xs → x ≡ slice_index_or xs i x → AllByRecursion P (take i xs) → P x → AllByRecursion P (take (i + 1) xs)
one_more P xs i x lt at all h =
    recursion_from_All P (take (i + 1) xs) (All-more P xs i x lt (All-from_recursion P (take i xs) all) (subst P at h))
