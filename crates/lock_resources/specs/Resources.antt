-- Resources, and which modes fit them (docs/PROFILE.md, "Resources and intentions").
use Rattle.std.specs.Prelude.{Bool, true, false, IsTrue}
use Rattle.dewey_labels.specs.Labels.{Label}
use Rattle.lock_modes.specs.declared.ask.Ask.{Ask}
use Rattle.lock_modes.specs.declared.ask.Ask.TheVariants as ask
use Rattle.lock_resources.specs.declared.resource.Resource.{Resource}
use Rattle.lock_resources.specs.declared.resource.Resource.TheVariants.{Node, AttrRoot, Attr, Edge}
use Rattle.lock_resources.specs.declared.request.Request.{Request}

-- the label that a resource is named by
abbrev pub label_of : Resource → Label
label_of (Node l) = l
label_of (AttrRoot l) = l
label_of (Attr l name) = l
label_of (Edge l side) = l

-- whether a mode of nodes is asked
abbrev pub asks_node : Ask → Bool
asks_node (ask.Node m) = true
asks_node (ask.Edge m) = false

-- whether a mode of edges is asked
abbrev pub asks_edge : Ask → Bool
asks_edge (ask.Node m) = false
asks_edge (ask.Edge m) = true

-- whether the mode fits: an edge is asked a mode of edges, every other resource one of nodes
abbrev pub fits : Resource → Ask → Bool
fits (Node l) a = asks_node a
fits (AttrRoot l) a = asks_node a
fits (Attr l name) a = asks_node a
fits (Edge l side) a = asks_edge a

-- a request that fits
abbrev pub Fits : Request → Type 0
Fits r = IsTrue (fits r.resource r.ask)
