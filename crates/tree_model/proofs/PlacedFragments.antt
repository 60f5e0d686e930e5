-- Fragments that are placed are read again; and a fragment of valid parts is valid.
use Rattle.std.proofs.Common.{◌≡◌, ℕ, ◌+◌, true, List, [], ◌∷◌, ◌++◌, refl, sym, ap, subst, ◌∙◌}
use Rattle.std.specs.List.{AllByRecursion}
use Rattle.dewey_labels.specs.Labels.{Label}
use Rattle.dewey_labels.specs.NewLabels.{first_division}
use Rattle.tree_model.specs.declared.fragment.Fragment.{Fragment, ind-Fragment, fold-roll-Fragment, map-Fragment}
use Rattle.tree_model.specs.declared.fragment.Fragment.TheVariants.{Element, Text}
use Rattle.tree_model.specs.declared.fragment.Fragment.TheOpen.{Fragment-F}
use Rattle.tree_model.specs.Names.{Name, is_name}
use Rattle.tree_model.specs.Records.{is_data}
use Rattle.tree_model.specs.Tree.{Attributes, none}
use Rattle.tree_model.specs.ValidTrees.{NamesRise, ValuesFit}
use Rattle.tree_model.specs.Fragments.{Fragments, no_more, element, text, IsValid, put_before, before_row, plain, plain_row}
use Rattle.tree_model.specs.Graft.{graft_below, graft}
use Rattle.tree_model.specs.Subtrees.{fragments_of}
use Rattle.tree_model.proofs.PlainFragments.{before_row-Element, before_row-Text, plain-Element, plain-Text}

-- those below a label
pub row_again : (p : Label) (c : ℕ) (f : Fragments) → plain_row (fragments_of (graft_below p c f)) ≡ f
row_again p c no_more = refl
row_again p c (element n ats ch nx) =
    let l = p ++ (c ∷ []) in
    before_row-Element n ats (fragments_of (graft_below l first_division ch)) (plain_row (fragments_of (graft_below p (c + 2) nx)))
    ∙ (λ i. element n ats (row_again l first_division ch i) (row_again p (c + 2) nx i))
row_again p c (text t nx) = before_row-Text t (plain_row (fragments_of (graft_below p (c + 2) nx))) ∙ ap (text t) (row_again p (c + 2) nx)

-- the first one, at its label
abbrev pub first_alone : Fragments → Fragments
first_alone no_more = no_more
first_alone (element n ats ch nx) = element n ats ch no_more
first_alone (text t nx) = text t no_more

pub placed_again : (l : Label) (f : Fragments) → plain_row (fragments_of (graft l f none)) ≡ first_alone f
placed_again l no_more = refl
placed_again l (element n ats ch nx) = before_row-Element n ats (fragments_of (graft_below l first_division ch)) no_more ∙ ap (λ g. element n ats g no_more) (row_again l first_division ch)
placed_again l (text t nx) = before_row-Text t no_more

-- ---- valid fragments

pub valid_text : (t : List ℕ) → is_data t ≡ true → IsValid (plain (Text t))
valid_text t h = subst IsValid (sym (plain-Text t)) (h, tt)

pub valid_element : (n : Name) (ats : Attributes) (ch : List Fragment) → is_name n ≡ true → NamesRise [] ats → ValuesFit ats → IsValid (plain_row ch) → IsValid (plain (Element n ats ch))
valid_element n ats ch named rise fit valid = subst IsValid (sym (plain-Element n ats ch)) (named, rise, fit, valid, tt)

-- ---- one fragment of a call

-- by what it puts before a row
by_put : (P : (Fragments → Fragments) → Type 0) → ((x : Fragment-F (Fragments → Fragments)) → P (put_before x)) → (f : Fragment) → P (before_row f)
by_put P h = ind-Fragment (λ f. P (before_row f)) (λ x y e. subst P (sym (fold-roll-Fragment (Fragments → Fragments) put_before x)) (h (map-Fragment Fragment (Fragments → Fragments) before_row x)))

pub plain_alone : (f : Fragment) → first_alone (plain f) ≡ plain f
plain_alone = by_put (λ g. first_alone (g no_more) ≡ g no_more) one
  where
    one : (x : Fragment-F (Fragments → Fragments)) → first_alone (put_before x no_more) ≡ put_before x no_more
    one (Fragment-F.Element n ats ch) = refl
    one (Fragment-F.Text t) = refl

-- a fragment that is placed is read again
pub plain_again : (l : Label) (f : Fragment) → plain_row (fragments_of (graft l (plain f) none)) ≡ plain f
plain_again l f = placed_again l (plain f) ∙ plain_alone f

-- before a valid row a valid fragment makes a valid one
pub valid_before : (f : Fragment) (nx : Fragments) → IsValid (plain f) → IsValid nx → IsValid (before_row f nx)
valid_before f nx = by_put (λ g. IsValid (g no_more) → IsValid nx → IsValid (g nx)) one f
  where
    one : (x : Fragment-F (Fragments → Fragments)) → IsValid (put_before x no_more) → IsValid nx → IsValid (put_before x nx)
    one (Fragment-F.Element n ats ch) w v = (w.0, w.1, w.2, w.3, v)
    one (Fragment-F.Text t) w v = (w.0, v)

pub valid_row : (fs : List Fragment) → AllByRecursion (λ f. IsValid (plain f)) fs → IsValid (plain_row fs)
valid_row [] h = tt
valid_row (f ∷ fs) h = valid_before f (plain_row fs) h.0 (valid_row fs h.1)
