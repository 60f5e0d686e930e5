-- Looks that are noted once: they read what all of them read.
use Rattle.std.proofs.Common.{◌≡◌, Bool, true, false, ◌&&◌, if◌then◌else◌, List, [], ◌∷◌, ◌++◌, ⊎_elim, refl, sym, ap, subst, ◌∙◌, true≢false}
use Rattle.std.specs.List.{AllByRecursion}
use Rattle.dewey_labels.proofs.Codes.{first_of_both, second_of_both}
use Rattle.tree_model.proofs.StoredCatalogues.{same_label_is}
use Rattle.tree_cells.proofs.Coverage.{either, or_first, or_second}
use Rattle.tree_cells.specs.Cells.{Cell}
use Rattle.tree_cells.specs.Places.{is_at, same_name}
use Rattle.path_model.specs.Programs.{Look, at_node, at_row, at_tree, at_attributes, at_attribute}
use Rattle.xpath_plans.specs.LookCells.{looks_into, some_look_into}
use Rattle.xpath_plans.specs.OnceNoted.{same_look, is_noted, once}
use Rattle.xpath_plans.specs.inside.PlanLists.{AllNoted, were_noted}

none_there : {A : Type 0} → false ≡ true → A
none_there e = absurd (true≢false (sym e))

pub look_is : (o p : Look) → same_look o p ≡ true → o ≡ p
look_is (at_node l) (at_node m) e = ap at_node (same_label_is l m e)
look_is (at_node l) (at_row m) e = none_there e
look_is (at_node l) (at_tree m) e = none_there e
look_is (at_node l) (at_attributes m) e = none_there e
look_is (at_node l) (at_attribute m k) e = none_there e
look_is (at_row l) (at_node m) e = none_there e
look_is (at_row l) (at_row m) e = ap at_row (same_label_is l m e)
look_is (at_row l) (at_tree m) e = none_there e
look_is (at_row l) (at_attributes m) e = none_there e
look_is (at_row l) (at_attribute m k) e = none_there e
look_is (at_tree l) (at_node m) e = none_there e
look_is (at_tree l) (at_row m) e = none_there e
look_is (at_tree l) (at_tree m) e = ap at_tree (same_label_is l m e)
look_is (at_tree l) (at_attributes m) e = none_there e
look_is (at_tree l) (at_attribute m k) e = none_there e
look_is (at_attributes l) (at_node m) e = none_there e
look_is (at_attributes l) (at_row m) e = none_there e
look_is (at_attributes l) (at_tree m) e = none_there e
look_is (at_attributes l) (at_attributes m) e = ap at_attributes (same_label_is l m e)
look_is (at_attributes l) (at_attribute m k) e = none_there e
look_is (at_attribute l n) (at_node m) e = none_there e
look_is (at_attribute l n) (at_row m) e = none_there e
look_is (at_attribute l n) (at_tree m) e = none_there e
look_is (at_attribute l n) (at_attributes m) e = none_there e
look_is (at_attribute l n) (at_attribute m k) e = (λ i. at_attribute (same_label_is l m (first_of_both (is_at l m) (same_name n k) e) i) (same_label_is n k (second_of_both (is_at l m) (same_name n k) e) i))

-- what holds of each look that was noted holds of it
pub noted_holds : (P : Look → Type 0) (o : Look) (before : List Look) → AllByRecursion P before → is_noted o before ≡ true → P o
noted_holds P o [] h e = none_there e
noted_holds P o (p ∷ before) h e =
    ⊎_elim
    (λ same. subst P (look_is p o same) h.0)
    (λ there. noted_holds P o before h.1 there)
    (either (same_look p o) (is_noted o before) e)

-- what holds of each holds of each once
pub once_holds : (P : Look → Type 0) (before os : List Look) → AllByRecursion P os → AllByRecursion P (once before os)
once_holds P before [] h = tt
once_holds P before (o ∷ os) h = elim (is_noted o before) as (λ b. AllByRecursion P (if b then once before os else o ∷ once (before ++ o ∷ []) os)) [
  | true ↦ once_holds P before os h.1
  | false ↦ (h.0, once_holds P (before ++ o ∷ []) os h.1)
]

one_looks : (o : Look) (before : List Look) (x : Cell) → is_noted o before ≡ true → looks_into o x ≡ true → some_look_into before x ≡ true
one_looks o [] x e h = none_there e
one_looks o (p ∷ before) x e h =
    ⊎_elim
    (λ same. or_first (looks_into p x) (some_look_into before x) (ap (λ q. looks_into q x) (look_is p o same) ∙ h))
    (λ there. or_second (looks_into p x) (some_look_into before x) (one_looks o before x there h))
    (either (same_look p o) (is_noted o before) e)

some_looks : (before os : List Look) (x : Cell) → AllNoted before os → some_look_into os x ≡ true → some_look_into before x ≡ true
some_looks before [] x all e = none_there e
some_looks before (o ∷ os) x all e =
    ⊎_elim
    (λ h. one_looks o before x all.0 h)
    (λ h. some_looks before os x all.1 h)
    (either (looks_into o x) (some_look_into os x) e)

pub once_looks : (os : List Look) (x : Cell) → some_look_into os x ≡ true → some_look_into (once [] os) x ≡ true
once_looks os x e = some_looks (once [] os) os x (were_noted [] os) e
