-- Fragments level by level: a fact holds of all where it holds of each text, and of each element whose children have it.
use Rattle.std.proofs.Common.{List, [], ◌∷◌, map, subst, sym}
use Rattle.std.specs.List.{AllByRecursion}
use Rattle.tree_model.specs.declared.fragment.Fragment.{Fragment, roll-Fragment, map-Fragment}
use Rattle.tree_model.specs.declared.fragment.Fragment.TheVariants.{Element, Text, rolls-Element, rolls-Text}
use Rattle.tree_model.specs.declared.fragment.Fragment.TheOpen.{Fragment-F}
use Rattle.tree_model.specs.declared.fragment.Fragment.TheFolds.{ind-Fragment}
use Rattle.tree_model.specs.Names.{Name}
use Rattle.tree_model.specs.Tree.{Attributes}

-- each of these has its proof beside it
all_hold : (P : Fragment → Type 0) (es : List ((f : Fragment) × P f)) → AllByRecursion P (map (λ e. e.0) es)
all_hold P [] = tt
all_hold P (e ∷ es) = (e.1, all_hold P es)

-- one level, each fragment inside with its proof
level : (P : Fragment → Type 0) → ((n : Name) (ats : Attributes) (ch : List Fragment) → AllByRecursion P ch → P (Element n ats ch)) → ((t : Name) → P (Text t))
    → (y : Fragment-F ((f : Fragment) × P f)) → P (roll-Fragment (map-Fragment ((f : Fragment) × P f) Fragment (λ e. e.0) y))
level P element text (Fragment-F.Element n ats es) = subst P (sym (rolls-Element n ats (map (λ e. e.0) es))) (element n ats (map (λ e. e.0) es) (all_hold P es))
level P element text (Fragment-F.Text t) = subst P (sym (rolls-Text t)) (text t)

pub by_level : (P : Fragment → Type 0) → ((n : Name) (ats : Attributes) (ch : List Fragment) → AllByRecursion P ch → P (Element n ats ch)) → ((t : Name) → P (Text t)) → (f : Fragment) → P f
by_level P element text = ind-Fragment P (λ x y is. subst (λ z. P (roll-Fragment z)) is (level P element text y))
