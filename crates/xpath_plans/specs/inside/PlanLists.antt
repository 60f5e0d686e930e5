-- Looks that are noted once, one behind another.
use Rattle.std.proofs.Common.{◌≡◌, Bool, true, false, ◌&&◌, ◌||◌, if◌then◌else◌, List, [], ◌∷◌, ◌++◌, append_assoc, append-nil, ⊎_elim, refl, sym, ap, subst, ◌∙◌, true≢false}
use Rattle.std.specs.List.{AllByRecursion}
use Rattle.tree_cells.proofs.Coverage.{and_both, either, or_first, or_second}
use Rattle.tree_cells.proofs.Seen.{same_self}
use Rattle.tree_cells.specs.Places.{is_at, same_name}
use Rattle.path_model.specs.Programs.{Look, at_node, at_row, at_tree, at_attributes, at_attribute}
use Rattle.xpath_plans.specs.OnceNoted.{same_look, is_noted, once}

-- a look is the same as itself
pub look_itself : (o : Look) → same_look o o ≡ true
look_itself (at_node l) = same_self l
look_itself (at_row l) = same_self l
look_itself (at_tree l) = same_self l
look_itself (at_attributes l) = same_self l
look_itself (at_attribute l n) = and_both (is_at l l) (same_name n n) (same_self l) (same_self n)

-- ---- what was noted

pub noted_left : (o : Look) (xs ys : List Look) → is_noted o xs ≡ true → is_noted o (xs ++ ys) ≡ true
noted_left o [] ys e = absurd (true≢false (sym e))
noted_left o (x ∷ xs) ys e =
    ⊎_elim
    (λ h. or_first (same_look x o) (is_noted o (xs ++ ys)) h)
    (λ h. or_second (same_look x o) (is_noted o (xs ++ ys)) (noted_left o xs ys h))
    (either (same_look x o) (is_noted o xs) e)

pub noted_right : (o : Look) (xs ys : List Look) → is_noted o ys ≡ true → is_noted o (xs ++ ys) ≡ true
noted_right o [] ys e = e
noted_right o (x ∷ xs) ys e = or_second (same_look x o) (is_noted o (xs ++ ys)) (noted_right o xs ys e)

-- the last one was noted
pub noted_last : (o : Look) (xs : List Look) → is_noted o (xs ++ o ∷ []) ≡ true
noted_last o xs = noted_right o xs (o ∷ []) (or_first (same_look o o) false (look_itself o))

-- each of them was noted
abbrev pub AllNoted : List Look → List Look → Type 0
AllNoted before os = AllByRecursion (λ o. is_noted o before ≡ true) os

more_noted : (before more os : List Look) → AllNoted before os → AllNoted (before ++ more) os
more_noted before more [] h = tt
more_noted before more (o ∷ os) h = (noted_left o before more h.0, more_noted before more os h.1)

-- those that weren't noted before, where that is told of the first one
abbrev next_once : List Look → Look → List Look → Bool → List Look
next_once before o os b = if b then once before os else o ∷ once (before ++ o ∷ []) os

pub were_noted : (before os : List Look) → AllNoted (before ++ once before os) os
were_noted before [] = tt
were_noted before (o ∷ os) =
    (elim (is_noted o before) as (λ b. is_noted o before ≡ b → AllNoted (before ++ next_once before o os b) (o ∷ os)) [
      | true ↦ λ e. (noted_left o before (once before os) e, were_noted before os)
      | false ↦ λ e. subst (λ z. AllNoted z (o ∷ os)) (append_assoc before (o ∷ []) (once (before ++ o ∷ []) os))
          (noted_left o (before ++ o ∷ []) (once (before ++ o ∷ []) os) (noted_last o before), were_noted (before ++ o ∷ []) os)
    ]) refl

none_more : (before os : List Look) → AllNoted before os → once before os ≡ []
none_more before [] h = refl
none_more before (o ∷ os) h = ap (next_once before o os) h.0 ∙ none_more before os h.1

once_joined : (before os ps : List Look) → once before (os ++ ps) ≡ once before os ++ once (before ++ once before os) ps
once_joined before [] ps = ap (λ z. once z ps) (sym (append-nil before))
once_joined before (o ∷ os) ps =
    elim (is_noted o before) as (λ b. next_once before o (os ++ ps) b ≡ next_once before o os b ++ once (before ++ next_once before o os b) ps) [
      | true ↦ once_joined before os ps
      | false ↦ ap (λ (z : List Look). o ∷ z) (once_joined (before ++ o ∷ []) os ps
          ∙ ap (λ z. once (before ++ o ∷ []) os ++ once z ps) (append_assoc before (o ∷ []) (once (before ++ o ∷ []) os)))
    ]

-- ---- a plan

pub nothing_noted : (x : List Look) → x ≡ x ++ once x []
nothing_noted x = sym (append-nil x)

pub noted_further : (x y z : List Look) (os ps : List Look) → y ≡ x ++ once x os → z ≡ y ++ once y ps → z ≡ x ++ once x (os ++ ps)
noted_further x y z os ps first further =
    further ∙ ap (λ v. v ++ once v ps) first ∙ append_assoc x (once x os) (once (x ++ once x os) ps) ∙ ap (λ (v : List Look). x ++ v) (sym (once_joined x os ps))

pub noted_again : (x y z : List Look) (os ps : List Look) → y ≡ x ++ once x os → z ≡ y ++ once y ps → z ≡ z ++ once z os
noted_again x y z os ps first further =
    let there : AllNoted y os = subst (λ v. AllNoted v os) (sym first) (were_noted x os) in
    let still : AllNoted z os = subst (λ v. AllNoted v os) (sym further) (more_noted y (once y ps) os there) in
    sym (append-nil z) ∙ ap (λ (v : List Look). z ++ v) (sym (none_more z os still))
