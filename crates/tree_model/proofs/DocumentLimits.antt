-- A new document's labels keep the limits: told by the number of divisions, without its tree.
use Rattle.std.proofs.Common.{◌≡◌, ◌+◌, ℕ, true, ◌&&◌, nat_le, nat_lt, [], ◌∷◌, ◌++◌, length, refl, sym, ap, ◌∙◌}
use Rattle.dewey_labels.specs.Labels.{Label, greatest, most_divisions, is_within}
use Rattle.dewey_labels.specs.NewLabels.{first_division}
use Rattle.tree_model.specs.declared.fragment.Fragment.{Fragment}
use Rattle.tree_model.specs.declared.fragment.Fragment.TheOpen.{Fragment-F}
use Rattle.tree_model.specs.Documents.{document_at}
use Rattle.tree_model.specs.Fragments.{Fragments, before_row, no_more, plain, put_before}
use Rattle.tree_model.specs.Graft.{all_within, graft, graft_below}
use Rattle.tree_model.specs.GraftLimits.{fit_at, fit_below}
use Rattle.tree_model.specs.Tree.{none}
use Rattle.tree_model.proofs.Grafts.{and_true, fits-graft_below}
use Rattle.tree_model.proofs.PlainFragments.{by_put}

-- whether the labels of fragments in a row keep the limits, by the first and the rest
child_fits : (n c : ℕ) (f : Fragment) (nx : Fragments)
    → fit_below n c (before_row f nx) ≡ ((nat_lt n most_divisions && nat_le c greatest) && (fit_at (n + 1) (plain f) && fit_below n (c + 2) nx))
child_fits n c f nx = by_put (λ g. fit_below n c (g nx) ≡ ((nat_lt n most_divisions && nat_le c greatest) && (fit_at (n + 1) (g no_more) && fit_below n (c + 2) nx))) one f
  where
    one : (x : Fragment-F (Fragments → Fragments)) → fit_below n c (put_before x nx) ≡ ((nat_lt n most_divisions && nat_le c greatest) && (fit_at (n + 1) (put_before x no_more) && fit_below n (c + 2) nx))
    one (Fragment-F.Element m ats ch) = refl
    one (Fragment-F.Text t) = refl

-- its element is a first child
pub single : (l : Label) (c : ℕ) (f : Fragment) → graft (l ++ (c ∷ [])) (plain f) none ≡ graft_below l c (plain f)
single l c = by_put (λ g. graft (l ++ (c ∷ [])) (g no_more) none ≡ graft_below l c (g no_more)) one
  where
    one : (x : Fragment-F (Fragments → Fragments)) → graft (l ++ (c ∷ [])) (put_before x no_more) none ≡ graft_below l c (put_before x no_more)
    one (Fragment-F.Element n ats ch) = refl
    one (Fragment-F.Text t) = refl

-- whether its labels keep the limits, told by the number of divisions
pub document_within : (l : Label) (f : Fragment) → is_within l ≡ true → (nat_lt (length l) most_divisions && fit_at (length l + 1) (plain f)) ≡ all_within (document_at l (plain f))
document_within l f h =
    (λ i. sym (and_true (nat_lt (length l) most_divisions)) i && sym (and_true (fit_at (length l + 1) (plain f))) i)
    ∙ sym (child_fits (length l) first_division f no_more)
    ∙ sym (fits-graft_below l first_division (plain f) h)
    ∙ ap all_within (sym (single l first_division f))
    ∙ sym (and_true (all_within (graft (l ++ (first_division ∷ [])) (plain f) none)))
    ∙ ap (λ b. b && (all_within (graft (l ++ (first_division ∷ [])) (plain f) none) && true)) (sym h)

pub empty_within : (l : Label) → is_within l ≡ true → true ≡ all_within (document_at l no_more)
empty_within l h = ap (λ b. b && true) (sym h)
