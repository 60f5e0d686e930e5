-- Which requests two owners may not both hold (docs/PROFILE.md, "Resources and intentions").
use Rattle.std.specs.Prelude.{Bool, false, ◌&&◌, not, List}
use Rattle.lock_modes.specs.declared.ask.Ask.{Ask}
use Rattle.lock_modes.specs.declared.ask.Ask.TheVariants as ask
use Rattle.lock_modes.specs.Modes.{compatible}
use Rattle.lock_modes.specs.EdgeModes.{edge_compatible}
use Rattle.lock_resources.specs.declared.resource.Resource.{Resource}
use Rattle.lock_resources.specs.declared.resource.Resource.TheVariants.{Node, AttrRoot, Attr, Edge}
use Rattle.lock_resources.specs.declared.request.Request.{Request}
use Rattle.lock_resources.specs.Intentions.{request}
use Rattle.tree_cells.specs.Places.{is_at, same_name, same_side}
use Rattle.tree_cells.specs.Covers.{some_of}

-- two resources are one
abbrev pub same_resource : Resource → Resource → Bool
same_resource (Node a) (Node b) = is_at a b
same_resource (AttrRoot a) (AttrRoot b) = is_at a b
same_resource (Attr a n) (Attr b k) = is_at a b && same_name n k
same_resource (Edge a s) (Edge b r) = is_at a b && same_side s r
same_resource r s = false

-- whether two owners may hold these at one resource
abbrev pub are_compatible : Ask → Ask → Bool
are_compatible (ask.Node m) (ask.Node n) = compatible m n
are_compatible (ask.Edge m) (ask.Edge n) = edge_compatible m n
are_compatible a b = false

-- two requests clash: at one resource, with modes that don't go together
abbrev pub clash : Request → Request → Bool
clash g h = same_resource g.resource h.resource && not (are_compatible g.ask h.ask)

-- held requests bar one that is asked: one of them clashes with it
abbrev pub bars : List Request → Request → Bool
bars hs g = some_of (λ r a. clash g (request r a)) hs

-- one of these requests clashes with one of those
abbrev pub bar_each_other : List Request → List Request → Bool
bar_each_other gs hs = some_of (λ r a. bars hs (request r a)) gs
