-- The last label of a subtree is a label.
use Rattle.std.proofs.Common.{◌≡◌, ℕ, zero, suc, ◌-◌, ◌≤◌, true, List, [], ◌∷◌, ◌++◌, length, replicate, take, arith, refl, sym, ap, ◌∙◌, append_assoc, append-nil, length-append, take_all}
use Rattle.std.proofs.lemmas.List.{length-replicate}
use Rattle.std.specs.List.{AllByRecursion}
use Rattle.dewey_labels.specs.Labels.{Label, IsLabel, is_label, greatest, most_divisions}
use Rattle.dewey_labels.specs.Sides.{fill}
use Rattle.dewey_labels.proofs.Codes.{is_child_append}
use Rattle.dewey_labels.proofs.Labels.{child_label}

-- a label with n codes of the greatest division behind it
more_codes : (n : ℕ) (l : Label) → is_label l ≡ true → is_label (l ++ replicate n greatest) ≡ true
more_codes zero l h = ap is_label (append-nil l) ∙ h
more_codes (suc n) l h = ap is_label (sym (append_assoc l (greatest ∷ []) (replicate n greatest))) ∙ more_codes n (l ++ (greatest ∷ [])) (child_label l (l ++ (greatest ∷ [])) h (is_child_append l (greatest ∷ []) refl))

all_greatest : (n : ℕ) → AllByRecursion (λ d. d ≤ greatest) (replicate n greatest)
all_greatest zero = tt
all_greatest (suc n) = (omega arith, all_greatest n)

-- divisions that aren't too great, with the greatest behind them
all_filled : (n : ℕ) (l : Label) → AllByRecursion (λ d. d ≤ greatest) l → AllByRecursion (λ d. d ≤ greatest) (l ++ replicate n greatest)
all_filled n [] h = all_greatest n
all_filled n (d ∷ l) h = (h.0, all_filled n l h.1)

pub fill_is_label : (l : Label) → IsLabel l → IsLabel (fill l)
fill_is_label l h =
    let n = most_divisions - length l in
    let short : length l ≤ most_divisions = h.1.0 in
    let long : length (fill l) ≤ most_divisions = omega (arith, short, length-append l (replicate n greatest), length-replicate n greatest) in
    (more_codes n l h.0, (long, all_filled n l h.1.1))

-- what a label's divisions become that are cut or filled to the most
pub filled_is : (xs l r : List ℕ) (n : ℕ) → r ≡ take most_divisions xs ++ replicate (most_divisions - n) greatest → xs ≡ l → n ≡ length l → length l ≤ most_divisions → r ≡ fill l
filled_is xs l r n h e m s = h ∙ ap (λ v. v ++ replicate (most_divisions - n) greatest) (take_all most_divisions xs (omega (arith, s, ap length e)) ∙ e) ∙ ap (λ v. l ++ replicate (most_divisions - v) greatest) m
