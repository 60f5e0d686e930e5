-- A call's fragment as plain trees, level by level.
use Rattle.std.proofs.Common.{◌≡◌, List, ℕ, rules, subst, sym}
use Rattle.tree_model.specs.declared.fragment.Fragment.{Fragment, fold-roll-Fragment, ind-Fragment, map-Fragment, the_lemmas}
use Rattle.tree_model.specs.declared.fragment.Fragment.TheOpen.{Fragment-F}
use Rattle.tree_model.specs.declared.fragment.Fragment.TheVariants.{Element, Text}
use Rattle.tree_model.specs.Names.{Name}
use Rattle.tree_model.specs.Tree.{Attributes}
use Rattle.tree_model.specs.Fragments.{Fragments, no_more, element, text, before_row, plain, plain_row, put_before}

-- an element before others
pub before_row-Element : (n : Name) (ats : Attributes) (ch : List Fragment) (nx : Fragments) → before_row (Element n ats ch) nx ≡ element n ats (plain_row ch) nx
before_row-Element n ats ch nx = search (rules, the_lemmas)

-- a text before others
pub before_row-Text : (t : List ℕ) (nx : Fragments) → before_row (Text t) nx ≡ text t nx
before_row-Text t nx = search (rules, the_lemmas)

-- an element by itself
pub plain-Element : (n : Name) (ats : Attributes) (ch : List Fragment) → plain (Element n ats ch) ≡ element n ats (plain_row ch) no_more
plain-Element n ats ch = before_row-Element n ats ch no_more

-- a text by itself
pub plain-Text : (t : List ℕ) → plain (Text t) ≡ text t no_more
plain-Text t = before_row-Text t no_more

-- what holds of all that may be put before a row holds of what a fragment puts there
pub by_put : (P : (Fragments → Fragments) → Type 0) → ((x : Fragment-F (Fragments → Fragments)) → P (put_before x)) → (f : Fragment) → P (before_row f)
by_put P h = ind-Fragment (λ f. P (before_row f)) (λ x y e. subst P (sym (fold-roll-Fragment (Fragments → Fragments) put_before x)) (h (map-Fragment Fragment (Fragments → Fragments) before_row x)))
