-- The requests at a gap, and those of what is placed there.
use Rattle.std.proofs.Common.{◌≡◌, Bool, true, false, not, ◌&&◌, true≢false, if◌then◌else◌, List, [], ◌∷◌, ◌++◌, Option, Some, None, IfSome, Less, nat_cmp, Result, Ok, Err, refl, sym, ap, ◌∙◌, append_assoc, append-nil}
use Rattle.std.specs.Cmp.Lexicographic.{slice_cmp, nat_list_cmp_total}
use Rattle.dewey_labels.specs.Labels.{Label}
use Rattle.lock_modes.specs.declared.mode.Mode.TheVariants.{SX}
use Rattle.lock_modes.specs.declared.edge_mode.EdgeMode.TheVariants.{EX}
use Rattle.lock_resources.specs.declared.resource.Side.TheVariants.{Last, Prev}
use Rattle.lock_resources.specs.declared.request.Request.{Request}
use Rattle.tree_model.specs.Entries.{Entries}
use Rattle.tree_model.specs.Graft.{all_within}
use Rattle.tree_model.specs.Outcomes.{Outcome}
use Rattle.tree_model.specs.Tree.{Forest, Tree}
use Rattle.node_seq.specs.Trees.{StandsFor, OnTree}
use Rattle.lock_plans.specs.Plans.{Run, ends, place, take_left, take_out, take_right}
use Rattle.lock_plans.specs.inside.PlanSteps.{takes_left, takes_out, takes_right}
use Rattle.lock_plans.proofs.PlanLaws.{left_taken, node_asks, right_taken}

-- a child and its gap
pub out_taken : (p n : Label) (left right : Option Label) (rest : Run) → (take_out p n left right rest).requests ≡ takes_out p n left right ++ rest.requests
out_taken p n left right rest =
    let w = node_asks n SX in
    ap (λ v. w ++ v) (left_taken p left (take_right p right rest) ∙ ap (λ v. takes_left p left ++ v) (right_taken p right rest) ∙ sym (append_assoc (takes_left p left) (takes_right p right) rest.requests))
    ∙ sym (append_assoc w (takes_left p left ++ takes_right p right) rest.requests)

-- a tree is placed, or not
pub placed : (tree : Label → Forest) (o : Option Label) (new : Label) (t : Tree) (end : Outcome) → o ≡ Some new → all_within (tree new) ≡ true → (place tree o t (ends end)).requests ≡ node_asks new SX
placed tree o new t end e h =
    ap (λ v. (place tree v t (ends end)).requests) e
    ∙ ap (λ b. if not b then [] else (node_asks new SX ++ [])) h
    ∙ append-nil (node_asks new SX)

pub not_placed : (tree : Label → Forest) (o : Option Label) (new : Label) (t : Tree) (end : Outcome) → o ≡ Some new → all_within (tree new) ≡ false → (place tree o t (ends end)).requests ≡ []
not_placed tree o new t end e h =
    ap (λ v. (place tree v t (ends end)).requests) e
    ∙ ap (λ b. if not b then [] else (node_asks new SX ++ [])) h

pub no_label : (tree : Label → Forest) (o : Option Label) (t : Tree) (end : Outcome) → o ≡ None → (place tree o t (ends end)).requests ≡ []
no_label tree o t end e = ap (λ v. (place tree v t (ends end)).requests) e

-- nothing more is asked for
pub nothing_more : {now w : List Request} (x : List Request) → x ≡ [] → now ≡ w → now ≡ w ++ x
nothing_more {w = w} x e h = h ∙ sym (append-nil w) ∙ ap (λ v. w ++ v) (sym e)

-- two blocks, and then the rest
pub two_then : (plan e l x whole : List Request) {first second : List Request} → first ≡ plan ++ (e ++ l) → second ≡ first ++ x → whole ≡ l ++ x → second ≡ plan ++ (e ++ whole)
two_then plan e l x whole h g q =
    g ∙ ap (λ v. v ++ x) h ∙ append_assoc plan (e ++ l) x ∙ ap (λ v. plan ++ v) (append_assoc e l x) ∙ ap (λ v. plan ++ (e ++ v)) (sym q)

-- one block, and then the rest
pub one_then : (plan e x whole : List Request) {first second : List Request} → first ≡ plan ++ e → second ≡ first ++ x → whole ≡ e ++ x → second ≡ plan ++ whole
one_then plan e x whole h g q = g ∙ ap (λ v. v ++ x) h ∙ append_assoc plan e x ∙ ap (λ v. plan ++ v) (sym q)

-- a child's neighbours are in order
pub in_order : (k : Label) (left right : Option Label) → IfSome left (λ l. slice_cmp nat_cmp l k ≡ Less) → IfSome right (λ r. slice_cmp nat_cmp k r ≡ Less) → IfSome left (λ l. IfSome right (λ r. slice_cmp nat_cmp l r ≡ Less))
in_order k None right h g = tt
in_order k (Some l) None h g = tt
in_order k (Some l) (Some r) h g = nat_list_cmp_total.trans l k r h g

-- ---- what a call of the rest tells

pub onward : {A E : Type 0} (before now : Option Entries) (result : Result A E) (P Q : Tree → A → Type 0) → ((t : Tree) → StandsFor before t → StandsFor now t) → ((t : Tree) (a : A) → StandsFor before t → P t a → Q t a) → OnTree now result P → OnTree before result Q
onward before now (Ok a) P Q s f h = λ t stands. f t a stands (h t (s t stands))
onward before now (Err e) P Q s f h = tt

-- a choice between two rests
pub one_way : {now : List Request} {b : Bool} (w x y : List Request) → b ≡ true → now ≡ w ++ x → now ≡ w ++ (if b then x else y)
one_way w x y e h = h ∙ ap (λ c. w ++ (if c then x else y)) (sym e)

pub other_way : {now : List Request} {b : Bool} (w x y : List Request) → b ≡ false → now ≡ w ++ y → now ≡ w ++ (if b then x else y)
other_way w x y e h = h ∙ ap (λ c. w ++ (if c then x else y)) (sym e)

-- ---- a child

-- it is there
pub past_child : {now : List Request} (s f : Bool) (w k rest : List Request) → (s && f) ≡ true → now ≡ (w ++ (if s then k else [])) ++ rest → now ≡ w ++ (if not s then [] else (k ++ (if not f then [] else rest)))
past_child true true w k rest e h = h ∙ append_assoc w k rest
past_child true false w k rest e h = absurd (true≢false (sym e))
past_child false f w k rest e h = absurd (true≢false (sym e))

-- it isn't
pub stopped_at_child : {now : List Request} (s f : Bool) (w k rest : List Request) → (s && f) ≡ false → now ≡ w ++ (if s then k else []) → now ≡ w ++ (if not s then [] else (k ++ (if not f then [] else rest)))
stopped_at_child true true w k rest e h = absurd (true≢false e)
stopped_at_child true false w k rest e h = h ∙ ap (λ v. w ++ v) (sym (append-nil k))
stopped_at_child false f w k rest e h = h
