-- What looks ask for covers no cell for writing.
use Rattle.std.proofs.Common.{◌≡◌, Bool, true, false, ◌&&◌, ◌||◌, List, [], ◌∷◌, ◌++◌, refl, ap}
use Rattle.std.specs.List.{AllByRecursion}
use Rattle.dewey_labels.specs.Labels.{Label}
use Rattle.dewey_labels.specs.Ancestors.{ancestors}
use Rattle.lock_modes.specs.declared.ask.Ask.{Ask}
use Rattle.lock_modes.specs.declared.ask.Ask.TheVariants as ask
use Rattle.lock_modes.specs.declared.mode.Mode.{Mode}
use Rattle.lock_modes.specs.declared.mode.Mode.TheVariants.{IR}
use Rattle.lock_resources.specs.declared.resource.Resource.{Resource}
use Rattle.lock_resources.specs.declared.resource.Resource.TheVariants.{Node, AttrRoot, Attr}
use Rattle.lock_resources.specs.declared.request.Request.{Request}
use Rattle.lock_resources.specs.Intentions.{on_each, with_intentions}
use Rattle.tree_model.specs.Names.{Name}
use Rattle.tree_cells.specs.Cells.{Cell, node_cell, attr_cell, edge_cell}
use Rattle.tree_cells.specs.Covers.{label_of, some_of, takes_attribute, changes_edge_at, changes_row, writes_from, writes_edge, writes}
use Rattle.tree_cells.specs.ModeParts.{is_exclusive}
use Rattle.tree_cells.specs.Places.{is_at, is_at_or_above, same_name}
use Rattle.path_model.specs.Programs.{Look, at_node, at_row, at_tree, at_attributes, at_attribute}
use Rattle.path_model.proofs.Members.{all_joined}
use Rattle.xpath_plans.specs.LookRequests.{resource_of, mode_of, requests_of}

not_both : (a b : Bool) → b ≡ false → (a && b) ≡ false
not_both true b e = e
not_both false b e = refl

neither : (a b : Bool) → a ≡ false → b ≡ false → (a || b) ≡ false
neither true b e h = e
neither false b e h = h

-- what no request does
module _ (p : Resource → Ask → Bool) where
  abbrev Not : Request → Type 0
  Not g = p g.resource g.ask ≡ false

  none_of : (gs : List Request) → AllByRecursion Not gs → some_of p gs ≡ false
  none_of [] h = refl
  none_of (g ∷ gs) h = neither (p g.resource g.ask) (some_of p gs) h.0 (none_of gs h.1)

  -- and what no mode that is no SX does, at a node or at an attribute
  module _ (nodes : (l : Label) (m : Mode) → is_exclusive (ask.Node m) ≡ false → p (Node l) (ask.Node m) ≡ false)
      (roots : (l : Label) (m : Mode) → p (AttrRoot l) (ask.Node m) ≡ false)
      (attributes : (l : Label) (n : Name) (m : Mode) → is_exclusive (ask.Node m) ≡ false → p (Attr l n) (ask.Node m) ≡ false) where
    way_down : (ls : List Label) → AllByRecursion Not (on_each IR IR ls)
    way_down [] = tt
    way_down (l ∷ []) = (nodes l IR refl, tt)
    way_down (l ∷ k ∷ ls) = (nodes l IR refl, way_down (k ∷ ls))

    to_node : (l : Label) (m : Mode) (gs : List Request) → is_exclusive (ask.Node m) ≡ false → AllByRecursion Not gs
        → AllByRecursion Not (on_each IR IR (ancestors l) ++ record { resource = Node l; ask = ask.Node m } ∷ gs)
    to_node l m gs e h = all_joined Not (on_each IR IR (ancestors l)) _ (way_down (ancestors l)) (nodes l m e, h)

    own : (o : Look) → AllByRecursion Not (with_intentions (resource_of o) (mode_of o))
    own (at_node l) = to_node l _ [] refl tt
    own (at_row l) = to_node l _ [] refl tt
    own (at_tree l) = to_node l _ [] refl tt
    own (at_attributes l) = all_joined Not (on_each IR IR (ancestors l) ++ record { resource = Node l; ask = ask.Node IR } ∷ []) _ (to_node l IR [] refl tt) (roots l _, tt)
    own (at_attribute l n) =
        all_joined Not (on_each IR IR (ancestors l) ++ record { resource = Node l; ask = ask.Node IR } ∷ record { resource = AttrRoot l; ask = ask.Node IR } ∷ []) _
        (to_node l IR _ refl (roots l IR, tt)) (attributes l n _ refl, tt)

    all_own : (os : List Look) → AllByRecursion Not (requests_of os)
    all_own [] = tt
    all_own (o ∷ os) = all_joined Not (with_intentions (resource_of o) (mode_of o)) (requests_of os) (own o) (all_own os)

    no_look : (os : List Look) → some_of p (requests_of os) ≡ false
    no_look os = none_of (requests_of os) (all_own os)

attribute_kept : (l : Label) (n : Name) (m : Mode) (x : Cell) → is_exclusive (ask.Node m) ≡ false → takes_attribute l n (ask.Node m) x ≡ false
attribute_kept l n m (node_cell k) e = refl
attribute_kept l n m (attr_cell k i) e = not_both (is_at l k && same_name n i) _ e
attribute_kept l n m (edge_cell k s) e = refl

edge_kept : (os : List Look) (x : Cell) → writes_edge (requests_of os) x ≡ false
edge_kept os (node_cell k) = refl
edge_kept os (attr_cell k i) = refl
edge_kept os (edge_cell k s) = ap (λ b. b && some_of (changes_row k s) (requests_of os)) (no_look (changes_edge_at k s) (λ l m e. refl) (λ l m. refl) (λ l n m e. refl) os)

pub looks_write_nothing : (os : List Look) (x : Cell) → writes (requests_of os) x ≡ false
looks_write_nothing os x =
    neither (some_of (λ r a. writes_from r a x) (requests_of os)) (writes_edge (requests_of os) x)
    (no_look (λ r a. writes_from r a x) (λ l m e. not_both (is_at_or_above l (label_of x)) _ e) (λ l m. refl) (λ l n m e. attribute_kept l n m x e) os)
    (edge_kept os x)
