-- The laws of any program that looks at labels: the form of its requests, the same next one, the same answer.
use Rattle.std.proofs.Common.{◌≡◌, ℕ, suc, Bool, true, false, if◌then◌else◌, List, [], ◌∷◌, ◌++◌, take, refl, ap, ◌∙◌}
use Rattle.std.specs.List.{AllByRecursion}
use Rattle.lock_resources.specs.declared.request.Request.{Request}
use Rattle.lock_resources.specs.Intentions.{with_intentions}
use Rattle.tree_model.specs.Tree.{Tree}
use Rattle.tree_model.specs.ValidTrees.{IsValidTree}
use Rattle.tree_cells.specs.Covers.{Agree}
use Rattle.tree_cells.specs.Forms.{AreRows}
use Rattle.tree_cells.proofs.Agreement.{agree_left, agree_moved, block_same, no_rows, one_row_more}
use Rattle.path_model.specs.Positions.{Position}
use Rattle.path_model.specs.Programs.{Look, Program, ends, looks, answer, looked, seen}
use Rattle.path_model.proofs.Members.{all_joined}
use Rattle.xpath_plans.specs.LookRequests.{resource_of, mode_of, requests_of, requests_once}
use Rattle.xpath_plans.specs.OnceNoted.{is_noted, once}
use Rattle.xpath_plans.proofs.Covered.{asked_for}
use Rattle.xpath_plans.proofs.LabelLists.{AtLabels, IsAtLabel}
use Rattle.xpath_plans.proofs.OnceNoted.{noted_holds, once_holds}
use Rattle.xpath_plans.proofs.SeenLabels.{look_row, seen_labels}
use Rattle.xpath_plans.proofs.SeenLaws.{looks_same}

-- what was asked for with a look
abbrev with_look : List Request → Look → List Request
with_look acc o = acc ++ with_intentions (resource_of o) (mode_of o)

looks_rows : (os : List Look) → AllByRecursion IsAtLabel os → AreRows (requests_of os)
looks_rows [] h = no_rows
looks_rows (o ∷ os) h = one_row_more (resource_of o) (mode_of o) (requests_of os) (look_row o) h.0 (looks_rows os h.1)

module _ {A : Type 0} (good : A → Type 0) where
  looked_labels : (t : Tree) → IsValidTree t → (p : Program A) → AtLabels good p → AllByRecursion IsAtLabel (looked t p)
  looked_labels t w (ends a) h = tt
  looked_labels t w (looks o k) h = (h.0, looked_labels t w (k (seen t o)) (h.1 (seen t o) (seen_labels o t w h.0)))

  pub rows_of : (t : Tree) → IsValidTree t → (p : Program A) → AtLabels good p → AreRows (requests_once t p)
  rows_of t w p h = looks_rows (once [] (looked t p)) (once_holds IsAtLabel [] (looked t p) (looked_labels t w p h))

  module _ (t u : Tree) (w : IsValidTree t) (v : IsValidTree u) where
    shown : (acc : List Request) (o : Look) → IsAtLabel o → Agree (with_look acc o) t u → seen t o ≡ seen u o
    shown acc o i agree = looks_same o t u w v i (asked_for acc o t u agree)

    -- both trees show the same of it
    abbrev IsShown : Look → Type 0
    IsShown o = seen t o ≡ seen u o

    -- what is asked for from here on, behind these looks
    abbrev from_here : Tree → List Look → Program A → List Request
    from_here x before p = requests_of (once before (looked x p))

    -- where it is told whether the next look was noted
    abbrev from_look : Tree → List Look → Look → Program A → Bool → List Request
    from_look x before o p b = requests_of (if b then once before (looked x p) else o ∷ once (before ++ o ∷ []) (looked x p))

    next_once : (acc : List Request) (before : List Look) → AllByRecursion IsShown before → (p : Program A) → AtLabels good p → (n : ℕ)
        → Agree (acc ++ take n (from_here t before p)) t u → take (suc n) (from_here t before p) ≡ take (suc n) (from_here u before p)
    next_once acc before same (ends a) h n agree = refl
    next_once acc before same (looks o k) h n agree =
        let labels = h.1 (seen t o) (seen_labels o t w h.0) in
        (elim (is_noted o before) as (λ b. is_noted o before ≡ b → Agree (acc ++ take n (from_look t before o (k (seen t o)) b)) t u
        → take (suc n) (from_look t before o (k (seen t o)) b) ≡ take (suc n) (from_look u before o (k (seen u o)) b)) [
          | true ↦ λ e so_far. next_once acc before same (k (seen t o)) labels n so_far
              ∙ ap (λ (s : List Position). take (suc n) (from_here u before (k s))) (noted_holds IsShown o before same e)
          | false ↦ λ e so_far. block_same (with_intentions (resource_of o) (mode_of o)) acc (from_here t (before ++ o ∷ []) (k (seen t o))) (from_here u (before ++ o ∷ []) (k (seen u o))) t u n (λ j more.
              let now = shown acc o h.0 (agree_left (with_look acc o) (take j (from_here t (before ++ o ∷ []) (k (seen t o)))) t u more) in
              next_once (with_look acc o) (before ++ o ∷ []) (all_joined IsShown before (o ∷ []) same (now, tt)) (k (seen t o)) labels j more
              ∙ ap (λ (s : List Position). take (suc j) (from_here u (before ++ o ∷ []) (k s))) now) so_far
        ]) refl agree

    answer_once : (acc : List Request) (before : List Look) → AllByRecursion IsShown before → (p : Program A) → AtLabels good p
        → Agree (acc ++ from_here t before p) t u → answer t p ≡ answer u p
    answer_once acc before same (ends a) h agree = refl
    answer_once acc before same (looks o k) h agree =
        let labels = h.1 (seen t o) (seen_labels o t w h.0) in
        (elim (is_noted o before) as (λ b. is_noted o before ≡ b → Agree (acc ++ from_look t before o (k (seen t o)) b) t u → answer t (k (seen t o)) ≡ answer u (k (seen u o))) [
          | true ↦ λ e so_far. answer_once acc before same (k (seen t o)) labels so_far ∙ ap (λ (s : List Position). answer u (k s)) (noted_holds IsShown o before same e)
          | false ↦ λ e so_far.
              let rest = from_here t (before ++ o ∷ []) (k (seen t o)) in
              let moved : Agree (with_look acc o ++ rest) t u = agree_moved acc (with_intentions (resource_of o) (mode_of o)) rest t u so_far in
              let now = shown acc o h.0 (agree_left (with_look acc o) rest t u moved) in
              answer_once (with_look acc o) (before ++ o ∷ []) (all_joined IsShown before (o ∷ []) same (now, tt)) (k (seen t o)) labels moved
              ∙ ap (λ (s : List Position). answer u (k s)) now
        ]) refl agree

    pub next_of : (p : Program A) → AtLabels good p → (n : ℕ) → Agree (take n (requests_once t p)) t u → take (suc n) (requests_once t p) ≡ take (suc n) (requests_once u p)
    next_of p h n agree = next_once [] [] tt p h n agree

    pub answer_of : (p : Program A) → AtLabels good p → Agree (requests_once t p) t u → answer t p ≡ answer u p
    answer_of p h agree = answer_once [] [] tt p h agree
