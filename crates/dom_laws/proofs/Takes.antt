-- The steps that take edges and a place, on two trees.
use Rattle.std.proofs.Common.{◌≡◌, ℕ, zero, suc, ◌+◌, Bool, true, false, not, if◌then◌else◌, ◌&&◌, List, [], ◌∷◌, ◌++◌, Option, None, Some, refl, sym, subst}
use Rattle.std.proofs.Common.{true≢false, arith}
use Rattle.dewey_labels.specs.Labels.{Label, is_label, is_child, parent, level, cut}
use Rattle.dewey_labels.specs.Ancestors.{cuts, ancestors}
use Rattle.dewey_labels.proofs.Labels.{parent_of_child, level_of_child}
use Rattle.lock_modes.specs.declared.ask.Ask.{Ask}
use Rattle.lock_modes.specs.declared.mode.Mode.{Mode}
use Rattle.lock_modes.specs.declared.mode.Mode.TheVariants.{IX, CX, SX}
use Rattle.lock_modes.specs.declared.edge_mode.EdgeMode.TheVariants.{EX}
use Rattle.lock_resources.specs.declared.resource.Side.{Side}
use Rattle.lock_resources.specs.declared.resource.Side.TheVariants.{First, Last, Next, Prev}
use Rattle.lock_resources.specs.declared.resource.Resource.{Resource}
use Rattle.lock_resources.specs.declared.resource.Resource.TheVariants.{Node, Edge}
use Rattle.lock_resources.specs.declared.request.Request.{Request}
use Rattle.lock_resources.specs.Intentions.{with_intentions, request, on_each}
use Rattle.tree_model.specs.declared.reply.Reply.TheVariants.{Refused}
use Rattle.tree_model.specs.declared.refusal.Refusal.TheVariants.{LabelLimit}
use Rattle.tree_model.specs.Tree.{Forest, Tree}
use Rattle.tree_model.specs.ValidTrees.{same_label}
use Rattle.tree_model.specs.Graft.{all_within}
use Rattle.tree_cells.specs.Cells.{edge_cell}
use Rattle.tree_cells.specs.Covers.{some_of, changes_edge_at, changes_row, writes, writes_from, Agree}
use Rattle.tree_cells.specs.Places.{has_row_of, same_side}
use Rattle.tree_cells.proofs.Coverage.{some_left, some_right, and_both, or_first, or_second}
use Rattle.lock_plans.specs.Plans.{Run}
use Rattle.tree_cells.proofs.Agreement.{last_covers}
use Rattle.dom_laws.proofs.Same.{Same, same_asks, same_answers}
use Rattle.tree_cells.proofs.Seen.{same_self, same_side_self}
use Rattle.dom_laws.proofs.StepLaws.{not_false}
use Rattle.lock_modes.specs.declared.ask.Ask.TheVariants as ask
use Rattle.lock_plans.specs.Plans as plans

-- ---- edges

-- an edge that was taken
pub edge_taken : (acc : List Request) (l : Label) (s : Side) → some_of (changes_edge_at l s) (acc ++ with_intentions (Edge l s) (ask.Edge EX)) ≡ true
edge_taken acc l s = last_covers (changes_edge_at l s) acc (Edge l s) (ask.Edge EX)
    (and_both (same_label l l && same_side s s) true (and_both (same_label l l) (same_side s s) (same_self l) (same_side_self s)) refl)

-- the edge to the left of a gap
pub record HoldsLeft (acc : List Request) (p : Label) (left : Option Label) : Type 0 where
  pub first : left ≡ None → some_of (changes_edge_at p First) acc ≡ true
  pub next : (l : Label) → left ≡ Some l → some_of (changes_edge_at l Next) acc ≡ true

pub left_grows : (acc b : List Request) (p : Label) (left : Option Label) → HoldsLeft acc p left → HoldsLeft (acc ++ b) p left
left_grows acc b p left h = record {
  first = λ e. some_left (changes_edge_at p First) acc b (h.first e);
  next =
      λ l e. some_left (changes_edge_at l Next) acc b (h.next l e);
}

-- the edge to its right
pub record HoldsRight (acc : List Request) (p : Label) (right : Option Label) : Type 0 where
  pub last : right ≡ None → some_of (changes_edge_at p Last) acc ≡ true
  pub prev : (r : Label) → right ≡ Some r → some_of (changes_edge_at r Prev) acc ≡ true

pub right_grows : (acc b : List Request) (p : Label) (right : Option Label) → HoldsRight acc p right → HoldsRight (acc ++ b) p right
right_grows acc b p right h = record {
  last = λ e. some_left (changes_edge_at p Last) acc b (h.last e);
  prev =
      λ r e. some_left (changes_edge_at r Prev) acc b (h.prev r e);
}

module _ (t u : Tree) where
  pub same_take_left : (acc : List Request) (p : Label) (o q : Option Label) (P Q : Run) → is_label p ≡ true → o ≡ q
      → ((m : Label) → o ≡ Some m → is_label m ≡ true)
      → ((b : List Request) → HoldsLeft (acc ++ b) p o → Agree (acc ++ b) t u → Same (acc ++ b) t u P Q)
      → Same acc t u (plans.take_left p o P) (plans.take_left p q Q)
  same_take_left acc p o q P Q i e labelled rest = subst (λ z. Same acc t u (plans.take_left p o P) (plans.take_left p z Q)) e (by o labelled rest)
    where
      by : (o : Option Label) → ((m : Label) → o ≡ Some m → is_label m ≡ true)
          → ((b : List Request) → HoldsLeft (acc ++ b) p o → Agree (acc ++ b) t u → Same (acc ++ b) t u P Q)
          → Same acc t u (plans.take_left p o P) (plans.take_left p o Q)
      by None labelled rest = same_asks acc t u (Edge p First) (ask.Edge EX) P Q refl i
          (λ agree. rest (with_intentions (Edge p First) (ask.Edge EX)) (record { first = λ _. edge_taken acc p First; next = λ l h. cc }) agree)
      by (Some m) labelled rest = same_asks acc t u (Edge m Next) (ask.Edge EX) P Q refl (labelled m refl)
          (λ agree. rest (with_intentions (Edge m Next) (ask.Edge EX))
          (record {
            first = λ h. cc;
            next = λ l h. subst (λ z. some_of (changes_edge_at z Next) (acc ++ with_intentions (Edge m Next) (ask.Edge EX)) ≡ true)
                (Rattle.tree_model.proofs.Found.some_is m l h) (edge_taken acc m Next);
          }) agree)

  pub same_take_right : (acc : List Request) (p : Label) (o q : Option Label) (P Q : Run) → is_label p ≡ true → o ≡ q
      → ((m : Label) → o ≡ Some m → is_label m ≡ true)
      → ((b : List Request) → HoldsRight (acc ++ b) p o → Agree (acc ++ b) t u → Same (acc ++ b) t u P Q)
      → Same acc t u (plans.take_right p o P) (plans.take_right p q Q)
  same_take_right acc p o q P Q i e labelled rest = subst (λ z. Same acc t u (plans.take_right p o P) (plans.take_right p z Q)) e (by o labelled rest)
    where
      by : (o : Option Label) → ((m : Label) → o ≡ Some m → is_label m ≡ true)
          → ((b : List Request) → HoldsRight (acc ++ b) p o → Agree (acc ++ b) t u → Same (acc ++ b) t u P Q)
          → Same acc t u (plans.take_right p o P) (plans.take_right p o Q)
      by None labelled rest = same_asks acc t u (Edge p Last) (ask.Edge EX) P Q refl i
          (λ agree. rest (with_intentions (Edge p Last) (ask.Edge EX)) (record { last = λ _. edge_taken acc p Last; prev = λ l h. cc }) agree)
      by (Some m) labelled rest = same_asks acc t u (Edge m Prev) (ask.Edge EX) P Q refl (labelled m refl)
          (λ agree. rest (with_intentions (Edge m Prev) (ask.Edge EX))
          (record {
            last = λ h. cc;
            prev = λ l h. subst (λ z. some_of (changes_edge_at z Prev) (acc ++ with_intentions (Edge m Prev) (ask.Edge EX)) ≡ true)
                (Rattle.tree_model.proofs.Found.some_is m l h) (edge_taken acc m Prev);
          }) agree)

  -- a place, where both trees give the same label
  pub same_place : (acc : List Request) (tree : Label → Forest) (o q : Option Label) (P Q : Run) → o ≡ q → ((new : Label) → o ≡ Some new → is_label new ≡ true)
      → ((new : Label) → o ≡ Some new → all_within (tree new) ≡ true → Agree (acc ++ with_intentions (Node new) (ask.Node SX)) t u
      → Same (acc ++ with_intentions (Node new) (ask.Node SX)) t u P Q)
      → Same acc t u (plans.place tree o t P) (plans.place tree q u Q)
  same_place acc tree o q P Q e labelled rest = subst (λ z. Same acc t u (plans.place tree o t P) (plans.place tree z u Q)) e (by o labelled rest)
    where
      by : (o : Option Label) → ((new : Label) → o ≡ Some new → is_label new ≡ true)
          → ((new : Label) → o ≡ Some new → all_within (tree new) ≡ true → Agree (acc ++ with_intentions (Node new) (ask.Node SX)) t u
          → Same (acc ++ with_intentions (Node new) (ask.Node SX)) t u P Q)
          → Same acc t u (plans.place tree o t P) (plans.place tree o u Q)
      by None labelled rest = same_answers acc t u true true (Refused LabelLimit) P Q refl (λ h _. absurd (true≢false h))
      by (Some new) labelled rest = same_answers acc t u (not (all_within (tree new))) (not (all_within (tree new))) (Refused LabelLimit) _ _ refl (λ h _.
          same_asks acc t u (Node new) (ask.Node SX) P Q refl (labelled new refl) (λ agree. rest new refl (not_false (all_within (tree new)) h) agree))

-- ---- the parent of a subtree that was taken

last_on_way : (q : Resource → Ask → Bool) (above last : Mode) (n : ℕ) (l : Label) → q (Node (parent l)) (ask.Node last) ≡ true
    → some_of q (on_each above last (cuts (suc n) l)) ≡ true
last_on_way q above last zero l h = or_first (q (Node (parent l)) (ask.Node last)) false h
last_on_way q above last (suc n) l h = or_second (q (Node (cut (suc (suc n)) l)) (ask.Node above)) _ (last_on_way q above last n l h)

-- a child of it may be changed
pub parent_taken : (acc : List Request) (p new : Label) (q : Resource → Ask → Bool) → is_label p ≡ true → is_child p new ≡ true
    → q (Node p) (ask.Node CX) ≡ true → some_of q (acc ++ with_intentions (Node new) (ask.Node SX)) ≡ true
parent_taken acc p new q i c h =
    some_right q acc (with_intentions (Node new) (ask.Node SX)) (some_left q (on_each IX CX (ancestors new)) (request (Node new) (ask.Node SX) ∷ [])
    (by (level new) refl))
  where
    parent_is : parent new ≡ p
    parent_is = parent_of_child p new i c

    deep : level new ≡ level p + 1
    deep = level_of_child p new i c

    by : (n : ℕ) → level new ≡ n → some_of q (on_each IX CX (cuts n new)) ≡ true
    by zero e = absurd (omega (arith, deep))
    by (suc n) e = last_on_way q IX CX n new (subst (λ z. q (Node z) (ask.Node CX) ≡ true) (sym parent_is) h)

-- so an edge of its row is covered for writing where it was taken
pub row_edge_written : (acc : List Request) (p new l : Label) (s : Side) → is_label p ≡ true → is_child p new ≡ true → has_row_of s l p ≡ true
    → some_of (changes_edge_at l s) acc ≡ true → writes (acc ++ with_intentions (Node new) (ask.Node SX)) (edge_cell l s) ≡ true
row_edge_written acc p new l s i c h e =
    or_second (some_of (λ r a. writes_from r a (edge_cell l s)) (acc ++ with_intentions (Node new) (ask.Node SX))) _
    (and_both (some_of (changes_edge_at l s) (acc ++ with_intentions (Node new) (ask.Node SX)))
    (some_of (changes_row l s) (acc ++ with_intentions (Node new) (ask.Node SX)))
    (some_left (changes_edge_at l s) acc (with_intentions (Node new) (ask.Node SX)) e)
    (parent_taken acc p new (changes_row l s) i c (and_both (has_row_of s l p) true h refl)))

-- ---- outcomes

pub stepped : {A : Type 0} (b : Bool) (x y z : A) → (b ≡ true → x ≡ z) → (b ≡ false → y ≡ z) → (if b then x else y) ≡ z
stepped true x y z h g = h refl
stepped false x y z h g = g refl

pub left_outcome : (p : Label) (o : Option Label) (rest : Run) → (plans.take_left p o rest).outcome ≡ rest.outcome
left_outcome p None rest = refl
left_outcome p (Some l) rest = refl

pub right_outcome : (p : Label) (o : Option Label) (rest : Run) → (plans.take_right p o rest).outcome ≡ rest.outcome
right_outcome p None rest = refl
right_outcome p (Some l) rest = refl
