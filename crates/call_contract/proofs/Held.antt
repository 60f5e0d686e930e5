-- What a transaction holds, the join of its grants, bars what its grants clash with.
use Rattle.std.proofs.Common.{◌≡◌, Bool, true, false, not, ◌&&◌, ◌||◌, List, [], ◌∷◌, is_eq, Option, None, Some, refl, sym, ap, ap₂, ◌∙◌, true≢false}
use Rattle.lock_modes.specs.declared.ask.Ask.{Ask}
use Rattle.lock_modes.specs.declared.ask.Ask.TheVariants as ask
use Rattle.lock_resources.specs.declared.resource.Side.{Side}
use Rattle.lock_resources.specs.declared.resource.Side.TheVariants.{First, Last, Next, Prev}
use Rattle.lock_resources.specs.declared.resource.Resource.{Resource}
use Rattle.lock_resources.specs.declared.resource.Resource.TheVariants.{Node, AttrRoot, Attr, Edge}
use Rattle.lock_resources.specs.declared.request.Request.{Request}
use Rattle.lock_table.specs.Asks as asks
use Rattle.lock_table.specs.Resources as ordered
use Rattle.lock_table.specs.Grants.{join_of, clashes_with}
use Rattle.lock_table.proofs.Granted.{join_bars}
use Rattle.lock_table.proofs.Listing.{same_itself}
use Rattle.lock_table.proofs.Maps.{exact_resources}
use Rattle.lock_table.proofs.Together.{compatible_turned}
use Rattle.lock_resources.specs.Intentions.{request}
use Rattle.tree_cells.specs.Covers.{some_of}
use Rattle.tree_model.specs.ValidTrees.{same_label}
use Rattle.tree_model.proofs.EntryLimits.{list_itself}
use Rattle.tree_model.proofs.StoredCatalogues.{same_label_is}
use Rattle.tree_cells.specs.Places.{same_side}
use Rattle.tree_cells.specs.Clashes.{same_resource, are_compatible, clash, bars, bar_each_other}
use Rattle.tree_cells.proofs.Coverage.{both, and_both}

-- ---- one resource, by its parts and by the order

label_itself : (l : List _) → same_label l l ≡ true
label_itself l = ap is_eq (list_itself l)

side_itself : (s : Side) → same_side s s ≡ true
side_itself First = refl
side_itself Last = refl
side_itself Next = refl
side_itself Prev = refl

side_is : (r s : Side) → same_side r s ≡ true → r ≡ s
side_is First First e = refl
side_is Last Last e = refl
side_is Next Next e = refl
side_is Prev Prev e = refl
side_is _ _ e = absurd (true≢false (sym e))

resource_itself : (r : Resource) → same_resource r r ≡ true
resource_itself (Node a) = label_itself a
resource_itself (AttrRoot a) = label_itself a
resource_itself (Attr a n) = and_both (same_label a a) (same_label n n) (label_itself a) (label_itself n)
resource_itself (Edge a s) = and_both (same_label a a) (same_side s s) (label_itself a) (side_itself s)

resource_is : (r s : Resource) → same_resource r s ≡ true → r ≡ s
resource_is (Node a) (Node b) e = ap Node (same_label_is a b e)
resource_is (AttrRoot a) (AttrRoot b) e = ap AttrRoot (same_label_is a b e)
resource_is (Attr a n) (Attr b k) e = let h = both (same_label a b) (same_label n k) e in ap₂ Attr (same_label_is a b h.0) (same_label_is n k h.1)
resource_is (Edge a s) (Edge b t) e = let h = both (same_label a b) (same_side s t) e in ap₂ Edge (same_label_is a b h.0) (side_is s t h.1)
resource_is _ _ e = absurd (true≢false (sym e))

same_tests : (r s : Resource) → ordered.same_resource s r ≡ same_resource r s
same_tests r s = by (ordered.same_resource s r) refl (same_resource r s) refl
  where
    by : (a : Bool) → ordered.same_resource s r ≡ a → (b : Bool) → same_resource r s ≡ b → a ≡ b
    by true e true f = refl
    by false e false f = refl
    by true e false f = sym (resource_itself r) ∙ ap (same_resource r) (sym (exact_resources s r e)) ∙ f
    by false e true f = sym e ∙ ap (λ q. ordered.same_resource s q) (resource_is r s f) ∙ same_itself s

same_modes : (a b : Ask) → asks.are_compatible a b ≡ are_compatible a b
same_modes (ask.Node m) (ask.Node n) = refl
same_modes (ask.Node m) (ask.Edge n) = refl
same_modes (ask.Edge m) (ask.Node n) = refl
same_modes (ask.Edge m) (ask.Edge n) = refl

clashes_bar : (gs : List Request) (q : Request) → clashes_with gs q ≡ bars gs q
clashes_bar [] q = refl
clashes_bar (g ∷ gs) q = ap₂ (λ (a b : Bool). a || b) (ap₂ (λ (a b : Bool). a && not b) (same_tests q.resource g.resource) (same_modes q.ask g.ask)) (clashes_bar gs q)

pub held_bars : (gs : List Request) (q : Request) → bars gs q ≡ asks.is_barred_by q.ask (join_of gs q.resource)
held_bars gs q = sym (clashes_bar gs q) ∙ sym (join_bars q gs)

-- ---- what two owners hold

-- one of the requests that passes a test, and what else passes for it
found : (p : Request → Bool) (gs : List Request) → some_of (λ r a. p (request r a)) gs ≡ true
    → (q : Request) × (p q ≡ true) × ((x : Request → Bool) → x q ≡ true → some_of (λ r a. x (request r a)) gs ≡ true)
found p [] e = absurd (true≢false (sym e))
found p (g ∷ gs) e = go (p g) refl e (found p gs)
  where
    or_true : (b : Bool) → (b || true) ≡ true
    or_true true = refl
    or_true false = refl

    go : (b : Bool) → p g ≡ b → (b || some_of (λ r a. p (request r a)) gs) ≡ true
        → (some_of (λ r a. p (request r a)) gs ≡ true → (q : Request) × (p q ≡ true) × ((x : Request → Bool) → x q ≡ true → some_of (λ r a. x (request r a)) gs ≡ true))
        → (q : Request) × (p q ≡ true) × ((x : Request → Bool) → x q ≡ true → (x g || some_of (λ r a. x (request r a)) gs) ≡ true)
    go true here e behind = (g, here, λ x is. ap (λ (b : Bool). b || some_of (λ r a. x (request r a)) gs) is)
    go false here e behind =
        let rest = behind e in
        (rest.0, rest.1, λ x is. ap (λ (b : Bool). x g || b) (rest.2 x is) ∙ or_true (x g))

-- where requests of two owners bar each other, what they hold doesn't go together at some resource
pub held_apart : (gs hs : List Request) → bar_each_other gs hs ≡ true → (r : Resource) × (asks.is_barred (join_of hs r) (join_of gs r) ≡ true)
held_apart gs hs e = (r, by (join_of hs r) (sym (held_bars hs q) ∙ some.1))
  where
    some : (q : Request) × (bars hs q ≡ true) × ((x : Request → Bool) → x q ≡ true → some_of (λ r a. x (request r a)) gs ≡ true)
    some = found (bars hs) gs e

    q : Request
    q = some.0

    r : Resource
    r = q.resource

    turned : (h : Ask) → not (asks.are_compatible q.ask h) ≡ true → not (are_compatible h q.ask) ≡ true
    turned h is = ap not (sym (same_modes h q.ask) ∙ compatible_turned h q.ask) ∙ is

    by : (o : Option Ask) → asks.is_barred_by q.ask o ≡ true → asks.is_barred o (join_of gs r) ≡ true
    by None is = absurd (true≢false (sym is))
    by (Some h) is = sym (held_bars gs (request r h)) ∙ some.2 (clash (request r h)) (and_both (same_resource r r) (not (are_compatible h q.ask)) (resource_itself r) (turned h is))
