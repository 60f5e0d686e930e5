-- Laws of the requests that `with_intentions` adds: the nodes that they name, and that they fit.
use Rattle.std.proofs.Common.{◌≡◌, IsTrue, List, [], ◌∷◌, ◌++◌, refl, ap, ◌∙◌, append_assoc, arith}
use Rattle.std.specs.List.{AllByRecursion}
use Rattle.dewey_labels.specs.Labels.{Label}
use Rattle.lock_modes.specs.declared.ask.Ask.{Ask}
use Rattle.lock_modes.specs.declared.mode.Mode.{Mode}
use Rattle.lock_modes.specs.declared.mode.Mode.TheVariants.{IR, NR}
use Rattle.lock_resources.specs.declared.resource.Resource.{Resource}
use Rattle.lock_resources.specs.declared.resource.Resource.TheVariants.{Node, AttrRoot, Attr, Edge}
use Rattle.lock_resources.specs.declared.request.Request.{Request}
use Rattle.lock_resources.specs.Resources.{label_of, fits, Fits}
use Rattle.dewey_labels.specs.Ancestors.{ancestors}
use Rattle.lock_resources.specs.Intentions.{has_row, request, on_node, on_attr_root, on_each, on_ancestors, directly_above, further_above, intentions, with_intentions, with_node, nodes_of}

-- ---- the nodes

with_node-append : (r : Resource) (ls ks : List Label) → with_node r (ls ++ ks) ≡ with_node r ls ++ ks
with_node-append (Node l) ls ks = refl
with_node-append (AttrRoot l) ls ks = refl
with_node-append (Attr l name) ls ks = refl
with_node-append (Edge l side) ls ks = refl

nodes_of-append : (rs qs : List Request) → nodes_of (rs ++ qs) ≡ nodes_of rs ++ nodes_of qs
nodes_of-append [] qs = refl
nodes_of-append (r ∷ rs) qs = ap (with_node r.resource) (nodes_of-append rs qs) ∙ with_node-append r.resource (nodes_of rs) (nodes_of qs)

nodes_of-each : (above last : Mode) (ls : List Label) → nodes_of (on_each above last ls) ≡ ls
nodes_of-each above last [] = refl
nodes_of-each above last (l ∷ []) = refl
nodes_of-each above last (l ∷ k ∷ ls) = ap (λ v. l ∷ v) (nodes_of-each above last (k ∷ ls))

-- the nodes of the ancestors, and then those of further requests
further : (above parent : Mode) (l : Label) (qs : List Request) → nodes_of (on_ancestors above parent l ++ qs) ≡ ancestors l ++ nodes_of qs
further above parent l qs = nodes_of-append (on_ancestors above parent l) qs ∙ ap (λ v. v ++ nodes_of qs) (nodes_of-each above parent (ancestors l))

-- the same where the request itself comes last
further_and_last : (above parent : Mode) (l : Label) (qs : List Request) (r : Request) → nodes_of ((on_ancestors above parent l ++ qs) ++ r ∷ []) ≡ ancestors l ++ nodes_of (qs ++ r ∷ [])
further_and_last above parent l qs r = ap nodes_of (append_assoc (on_ancestors above parent l) qs (r ∷ [])) ∙ further above parent l (qs ++ r ∷ [])

-- the nodes are the ancestors in their order, and then the label's own
pub nodes_down : (r : Resource) (a : Ask) → nodes_of (with_intentions r a) ≡ ancestors (label_of r) ++ label_of r ∷ []
nodes_down (Node l) a = further (further_above a) (directly_above a) l (request (Node l) a ∷ [])
nodes_down (AttrRoot l) a = further_and_last IR IR l (on_node l IR ∷ []) (request (AttrRoot l) a)
nodes_down (Attr l name) a = further_and_last (further_above a) (further_above a) l (on_node l (further_above a) ∷ on_attr_root l (directly_above a) ∷ []) (request (Attr l name) a)
nodes_down (Edge l side) a = further_and_last IR IR l (on_node l NR ∷ []) (request (Edge l side) a)

-- ---- each request fits

all_append : (rs qs : List Request) → AllByRecursion Fits rs → AllByRecursion Fits qs → AllByRecursion Fits (rs ++ qs)
all_append [] qs h g = g
all_append (r ∷ rs) qs h g = (h.0, all_append rs qs h.1 g)

each_fits : (above last : Mode) (ls : List Label) → AllByRecursion Fits (on_each above last ls)
each_fits above last [] = tt
each_fits above last (l ∷ []) = (refl, tt)
each_fits above last (l ∷ k ∷ ls) = (refl, each_fits above last (k ∷ ls))

-- what stands in the table fits
row_fits : (r : Resource) (a : Ask) → IsTrue (has_row r a) → IsTrue (fits r a)
row_fits r a h = grind arith

intentions_fit : (r : Resource) (a : Ask) → AllByRecursion Fits (intentions r a)
intentions_fit (Node l) a = each_fits (further_above a) (directly_above a) (ancestors l)
intentions_fit (AttrRoot l) a = all_append (on_ancestors IR IR l) (on_node l IR ∷ []) (each_fits IR IR (ancestors l)) (refl, tt)
intentions_fit (Attr l name) a =
    let m = further_above a in
    all_append (on_ancestors m m l) (on_node l m ∷ on_attr_root l (directly_above a) ∷ []) (each_fits m m (ancestors l)) (refl, (refl, tt))
intentions_fit (Edge l side) a = all_append (on_ancestors IR IR l) (on_node l NR ∷ []) (each_fits IR IR (ancestors l)) (refl, tt)

pub all_fit : (r : Resource) (a : Ask) → IsTrue (has_row r a) → AllByRecursion Fits (with_intentions r a)
all_fit r a h = all_append (intentions r a) (request r a ∷ []) (intentions_fit r a) (row_fits r a h, tt)
