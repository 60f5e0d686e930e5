-- The intentions that a request owes above it (docs/PROFILE.md, "Resources and intentions").
use Rattle.std.specs.Prelude.{Bool, true, false, List, [], ◌∷◌, ◌++◌}
use Rattle.dewey_labels.specs.Labels.{Label}
use Rattle.lock_modes.specs.declared.ask.Ask.{Ask}
use Rattle.lock_modes.specs.declared.ask.Ask.TheVariants as ask
use Rattle.lock_modes.specs.declared.mode.Mode.{Mode}
use Rattle.lock_modes.specs.declared.mode.Mode.TheVariants.{IR, NR, LR, IX, CX, SX}
use Rattle.lock_modes.specs.Modes.{is_read_mode}
use Rattle.lock_resources.specs.declared.resource.Resource.{Resource}
use Rattle.lock_resources.specs.declared.resource.Resource.TheVariants.{Node, AttrRoot, Attr, Edge}
use Rattle.lock_resources.specs.declared.request.Request.{Request}
use Rattle.dewey_labels.specs.Ancestors.{ancestors}

-- whether the table has a row for this mode at this resource
abbrev pub has_row : Resource → Ask → Bool
has_row (Node l) (ask.Node SX) = true
has_row (Node l) (ask.Node m) = is_read_mode m
has_row (AttrRoot l) (ask.Node LR) = true
has_row (Attr l name) (ask.Node NR) = true
has_row (Attr l name) (ask.Node SX) = true
has_row (Edge l side) (ask.Edge m) = true
has_row r a = false

-- a request
abbrev pub request : Resource → Ask → Request
request r a = record { resource = r; ask = a }

-- a mode asked at a node
abbrev pub on_node : Label → Mode → Request
on_node l m = request (Node l) (ask.Node m)

-- a mode asked at the attributes of a node
abbrev pub on_attr_root : Label → Mode → Request
on_attr_root l m = request (AttrRoot l) (ask.Node m)

-- one mode on each node of a way down but the last, and one on the last
abbrev pub on_each : Mode → Mode → List Label → List Request
on_each above last [] = []
on_each above last (l ∷ []) = on_node l last ∷ []
on_each above last (l ∷ k ∷ ls) = on_node l above ∷ on_each above last (k ∷ ls)

-- one mode on each proper ancestor but the parent, and one on the parent, from the root down
abbrev pub on_ancestors : Mode → Mode → Label → List Request
on_ancestors above parent l = on_each above parent (ancestors l)

-- the intention that a mode owes directly above its resource
abbrev pub directly_above : Ask → Mode
directly_above (ask.Node SX) = CX
directly_above a = IR

-- the intention that it owes on all above that
abbrev pub further_above : Ask → Mode
further_above (ask.Node SX) = IX
further_above a = IR

-- what a request is preceded by, from the root down; the attributes of a node stand below it, and an attribute below these
abbrev pub intentions : Resource → Ask → List Request
intentions (Node l) a = on_ancestors (further_above a) (directly_above a) l
intentions (AttrRoot l) a = on_ancestors IR IR l ++ on_node l IR ∷ []
intentions (Attr l name) a = on_ancestors (further_above a) (further_above a) l ++ on_node l (further_above a) ∷ on_attr_root l (directly_above a) ∷ []
intentions (Edge l side) a = on_ancestors IR IR l ++ on_node l NR ∷ []

-- the intentions, and then the request itself
abbrev pub with_intentions : Resource → Ask → List Request
with_intentions r a = intentions r a ++ request r a ∷ []

-- the label before the others, where the resource is a node
abbrev pub with_node : Resource → List Label → List Label
with_node (Node l) ls = l ∷ ls
with_node (AttrRoot l) ls = ls
with_node (Attr l name) ls = ls
with_node (Edge l side) ls = ls

-- the labels of the nodes that requests name, in their order
abbrev pub nodes_of : List Request → List Label
nodes_of [] = []
nodes_of (r ∷ rs) = with_node r.resource (nodes_of rs)
