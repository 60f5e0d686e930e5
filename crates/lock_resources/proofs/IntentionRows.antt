-- Worked rows: the requests at a label of three levels behind an overflow division, and at the root.
use Rattle.std.proofs.Common.{◌≡◌, [], ◌∷◌, refl}
use Rattle.dewey_labels.specs.Labels.{Label, root}
use Rattle.lock_modes.specs.declared.ask.Ask.TheVariants as ask
use Rattle.lock_modes.specs.declared.mode.Mode.TheVariants.{IR, NR, LR, SR, IX, CX, SX}
use Rattle.lock_modes.specs.declared.edge_mode.EdgeMode.TheVariants.{EX}
use Rattle.lock_resources.specs.declared.resource.Resource.TheVariants.{Node, AttrRoot, Attr, Edge}
use Rattle.lock_resources.specs.declared.resource.Side.TheVariants.{First}
use Rattle.dewey_labels.specs.Ancestors.{ancestors}
use Rattle.lock_resources.specs.Intentions.{request, on_node, on_attr_root, with_intentions}

-- 1.1001, 1.1001.1001 and 1.1001.1001.2.1001
document : Label
document = 1 ∷ 1001 ∷ []

element : Label
element = 1 ∷ 1001 ∷ 1001 ∷ []

child : Label
child = 1 ∷ 1001 ∷ 1001 ∷ 2 ∷ 1001 ∷ []

ancestors_of_a_child : ancestors child ≡ root ∷ document ∷ element ∷ []
unfolding child document element
ancestors_of_a_child = refl

a_read_node : with_intentions (Node child) (ask.Node SR) ≡ on_node root IR ∷ on_node document IR ∷ on_node element IR ∷ on_node child SR ∷ []
unfolding child document element
a_read_node = refl

an_exclusive_node : with_intentions (Node child) (ask.Node SX) ≡ on_node root IX ∷ on_node document IX ∷ on_node element CX ∷ on_node child SX ∷ []
unfolding child document element
an_exclusive_node = refl

an_exclusive_root : with_intentions (Node root) (ask.Node SX) ≡ on_node root SX ∷ []
an_exclusive_root = refl

all_attributes : with_intentions (AttrRoot element) (ask.Node LR) ≡ on_node root IR ∷ on_node document IR ∷ on_node element IR ∷ on_attr_root element LR ∷ []
unfolding document element
all_attributes = refl

a_read_attribute : with_intentions (Attr element (107 ∷ [])) (ask.Node NR) ≡ on_node root IR ∷ on_node document IR ∷ on_node element IR ∷ on_attr_root element IR ∷ request (Attr element (107 ∷ [])) (ask.Node NR) ∷ []
unfolding document element
a_read_attribute = refl

a_changed_attribute : with_intentions (Attr element (107 ∷ [])) (ask.Node SX) ≡ on_node root IX ∷ on_node document IX ∷ on_node element IX ∷ on_attr_root element CX ∷ request (Attr element (107 ∷ [])) (ask.Node SX) ∷ []
unfolding document element
a_changed_attribute = refl

a_document_name : with_intentions (Attr root (120 ∷ [])) (ask.Node SX) ≡ on_node root IX ∷ on_attr_root root CX ∷ request (Attr root (120 ∷ [])) (ask.Node SX) ∷ []
a_document_name = refl

an_edge : with_intentions (Edge element First) (ask.Edge EX) ≡ on_node root IR ∷ on_node document IR ∷ on_node element NR ∷ request (Edge element First) (ask.Edge EX) ∷ []
unfolding document element
an_edge = refl
