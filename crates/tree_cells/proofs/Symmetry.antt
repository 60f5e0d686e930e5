-- Requests clash both ways.
use Rattle.std.proofs.Common.{◌≡◌, Bool, true, false, ◌&&◌, ◌||◌, not, List, [], ◌∷◌, Option, None, Some, Less, Equal, Greater, is_eq, refl, sym, ap, ap₂, ◌∙◌, arith}
use Rattle.std.specs.declared.cmp.Ordering.{Ordering}
use Rattle.std.specs.Ordering.{nat_cmp, ordering_reverse}
use Rattle.std.specs.Cmp.Lexicographic.{slice_cmp, nat_list_cmp_total}
use Rattle.lock_modes.specs.declared.ask.Ask.{Ask}
use Rattle.lock_modes.specs.declared.ask.Ask.TheVariants as ask
use Rattle.lock_modes.specs.Parts.{admits}
use Rattle.lock_modes.specs.Modes.{Parts, parts, go_together}
use Rattle.lock_resources.specs.declared.resource.Side.{Side}
use Rattle.lock_resources.specs.declared.resource.Resource.{Resource}
use Rattle.lock_resources.specs.declared.resource.Resource.TheVariants.{Node, AttrRoot, Attr, Edge}
use Rattle.lock_resources.specs.declared.request.Request.{Request}
use Rattle.tree_model.specs.ValidTrees.{same_label}
use Rattle.tree_cells.specs.Places.{same_side}
use Rattle.tree_cells.specs.Clashes.{same_resource, are_compatible, clash, bars, bar_each_other}

and_turned : (a b : Bool) → (a && b) ≡ (b && a)
and_turned a b = grind arith

eq_reversed : (o : Ordering) → is_eq (ordering_reverse o) ≡ is_eq o
eq_reversed Less = refl
eq_reversed Equal = refl
eq_reversed Greater = refl

lists_turned : (a b : List _) → same_label a b ≡ same_label b a
lists_turned a b = ap is_eq (nat_list_cmp_total.antisymm a b) ∙ eq_reversed (slice_cmp nat_cmp b a)

sides_turned : (r s : Side) → same_side r s ≡ same_side s r
sides_turned r s = grind arith

parts_turned : (p q : Option Parts) → go_together p q ≡ go_together q p
parts_turned None None = refl
parts_turned None (Some q) = refl
parts_turned (Some p) None = refl
parts_turned (Some p) (Some q) = and_turned (admits p.1 q.0) (admits q.1 p.0)

compatible_turned : (a b : Ask) → are_compatible a b ≡ are_compatible b a
compatible_turned (ask.Node m) (ask.Node n) = parts_turned (parts m) (parts n)
compatible_turned (ask.Node m) (ask.Edge n) = refl
compatible_turned (ask.Edge m) (ask.Node n) = refl
compatible_turned (ask.Edge m) (ask.Edge n) = grind arith

resources_turned : (r s : Resource) → same_resource r s ≡ same_resource s r
resources_turned (Node a) (Node b) = lists_turned a b
resources_turned (AttrRoot a) (AttrRoot b) = lists_turned a b
resources_turned (Attr a n) (Attr b k) = ap₂ (λ (x y : Bool). x && y) (lists_turned a b) (lists_turned n k)
resources_turned (Edge a s) (Edge b r) = ap₂ (λ (x y : Bool). x && y) (lists_turned a b) (sides_turned s r)
resources_turned (Node a) (AttrRoot b) = refl
resources_turned (Node a) (Attr b n) = refl
resources_turned (Node a) (Edge b s) = refl
resources_turned (AttrRoot a) (Node b) = refl
resources_turned (AttrRoot a) (Attr b n) = refl
resources_turned (AttrRoot a) (Edge b s) = refl
resources_turned (Attr a n) (Node b) = refl
resources_turned (Attr a n) (AttrRoot b) = refl
resources_turned (Attr a n) (Edge b s) = refl
resources_turned (Edge a s) (Node b) = refl
resources_turned (Edge a s) (AttrRoot b) = refl
resources_turned (Edge a s) (Attr b n) = refl

pub clash_turned : (g h : Request) → clash g h ≡ clash h g
clash_turned g h = ap₂ (λ (x y : Bool). x && not y) (resources_turned g.resource h.resource) (compatible_turned g.ask h.ask)

none_barred : (gs : List Request) → bar_each_other gs [] ≡ false
none_barred [] = refl
none_barred (g ∷ gs) = none_barred gs

four : (c b d e : Bool) → ((c || b) || (d || e)) ≡ ((c || d) || (b || e))
four true b d e = refl
four false true true e = refl
four false true false e = refl
four false false true e = refl
four false false false e = refl

-- one more request on the right
one_more : (g : Request) (gs hs : List Request) → bar_each_other hs (g ∷ gs) ≡ (bars hs g || bar_each_other hs gs)
one_more g gs [] = refl
one_more g gs (h ∷ hs) = ap₂ (λ (x y : Bool). (x || bars gs h) || y) (clash_turned h g) (one_more g gs hs) ∙ four (clash g h) (bars gs h) (bars hs g) (bar_each_other hs gs)

pub clash_both_ways : (gs hs : List Request) → bar_each_other gs hs ≡ bar_each_other hs gs
clash_both_ways [] hs = sym (none_barred hs)
clash_both_ways (g ∷ gs) hs = ap (λ (x : Bool). bars hs g || x) (clash_both_ways gs hs) ∙ sym (one_more g gs hs)
