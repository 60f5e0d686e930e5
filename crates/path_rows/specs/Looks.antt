-- What a step looks at along each axis, from an element, a text, an attribute and the document of the small document: rows by hand, after the table of docs/PROFILE.md, "Paths".
-- A row that looked at more would break no law of calls, so they alone say that no more is asked for than is needed.
use Rattle.std.specs.Prelude.{◌≡◌, true, false, List, [], ◌∷◌, map, codes}
use Rattle.dewey_labels.specs.Labels.{Label}
use Rattle.tree_model.specs.declared.record.Record.TheVariants.{Document, Element, Text}
use Rattle.path_model.specs.declared.path.Axis.{Axis}
use Rattle.path_model.specs.declared.path.Axis.TheVariants.{Child, Descendant, Parent, Ancestor, FollowingSibling, PrecedingSibling, Following, Preceding, SelfNode, DescendantOrSelf, AncestorOrSelf, Attribute}
use Rattle.path_model.specs.declared.path.NodeTest.TheVariants as test
use Rattle.path_model.specs.Evaluation.{find_from}
use Rattle.path_model.specs.Paths.{Steps, no_more, no_steps, step}
use Rattle.path_model.specs.Positions.{Position, a_node, an_attribute}
use Rattle.path_model.specs.Programs.{Look, at_node, at_row, at_tree, at_attributes, at_attribute, looked}
use Rattle.path_rows.specs.Document.{small, d, a, c, last_b, under}

-- a path of one step, and what is looked at by it, in order
pub record LookRow : Type 0 where
  pub steps : Steps
  pub looks : List Look

abbrev row : Steps → List Look → LookRow
row ss os = record { steps = ss; looks = os }

-- ---- where the paths begin

-- the last b of c, which has an attribute k and an e below it
abbrev pub an_element : Position
an_element = a_node last_b (Element (codes "b"))

abbrev e : Label
e = under last_b 1001

abbrev seven : Label
seven = under e 1001

-- the text in that e
abbrev pub a_text : Position
a_text = a_node seven (Text (codes "7"))

-- the attribute k of that b
abbrev pub attribute_k : Position
attribute_k = an_attribute last_b (codes "k") (codes "10")

-- the document itself
abbrev pub the_document : Position
the_document = a_node d Document

-- the steps: an axis with the test that every node passes, and the attribute k
abbrev along : Axis → Steps
along x = step x test.Node no_more no_steps

abbrev along_k : Steps
along_k = step Attribute (test.Name (codes "k")) no_more no_steps

-- ---- the rows

-- from the element: each ancestor by itself, siblings as the parent's children, what follows and precedes as all of the document
unfoldable pub from_element : List LookRow
from_element =
    -- self::node()
    row (along SelfNode) [] ∷
    -- child::node(), descendant::node(), descendant-or-self::node()
    row (along Child) (at_row last_b ∷ []) ∷
    row (along Descendant) (at_tree last_b ∷ []) ∷
    row (along DescendantOrSelf) (at_tree last_b ∷ []) ∷
    -- @k, and attribute::node()
    row along_k (at_attribute last_b (codes "k") ∷ []) ∷
    row (along Attribute) (at_attributes last_b ∷ []) ∷
    -- parent::node(), ancestor::node(), ancestor-or-self::node()
    row (along Parent) (at_node c ∷ []) ∷
    row (along Ancestor) (at_node c ∷ at_node a ∷ at_node d ∷ []) ∷
    row (along AncestorOrSelf) (at_node c ∷ at_node a ∷ at_node d ∷ []) ∷
    -- following-sibling::node(), preceding-sibling::node(), following::node(), preceding::node()
    row (along FollowingSibling) (at_row c ∷ []) ∷
    row (along PrecedingSibling) (at_row c ∷ []) ∷
    row (along Following) (at_tree d ∷ []) ∷
    row (along Preceding) (at_tree d ∷ []) ∷
    []

-- from the text: nothing is looked at for attributes
unfoldable pub from_text : List LookRow
from_text =
    row (along SelfNode) [] ∷
    row (along Child) (at_row seven ∷ []) ∷
    row (along Descendant) (at_tree seven ∷ []) ∷
    row (along DescendantOrSelf) (at_tree seven ∷ []) ∷
    row along_k [] ∷
    row (along Attribute) [] ∷
    row (along Parent) (at_node e ∷ []) ∷
    row (along Ancestor) (at_node e ∷ at_node last_b ∷ at_node c ∷ at_node a ∷ at_node d ∷ []) ∷
    row (along AncestorOrSelf) (at_node e ∷ at_node last_b ∷ at_node c ∷ at_node a ∷ at_node d ∷ []) ∷
    row (along FollowingSibling) (at_row e ∷ []) ∷
    row (along PrecedingSibling) (at_row e ∷ []) ∷
    row (along Following) (at_tree d ∷ []) ∷
    row (along Preceding) (at_tree d ∷ []) ∷
    []

-- from the attribute: its parent is its element, and it has nothing below, no siblings and no attributes
unfoldable pub from_attribute : List LookRow
from_attribute =
    row (along SelfNode) [] ∷
    row (along Child) [] ∷
    row (along Descendant) [] ∷
    row (along DescendantOrSelf) [] ∷
    row along_k [] ∷
    row (along Attribute) [] ∷
    row (along Parent) (at_node last_b ∷ []) ∷
    row (along Ancestor) (at_node last_b ∷ at_node c ∷ at_node a ∷ at_node d ∷ []) ∷
    row (along AncestorOrSelf) (at_node last_b ∷ at_node c ∷ at_node a ∷ at_node d ∷ []) ∷
    row (along FollowingSibling) [] ∷
    row (along PrecedingSibling) [] ∷
    row (along Following) (at_tree d ∷ []) ∷
    row (along Preceding) (at_tree d ∷ []) ∷
    []

-- from the document: it has no parent, no siblings and no attributes
unfoldable pub from_document : List LookRow
from_document =
    row (along SelfNode) [] ∷
    row (along Child) (at_row d ∷ []) ∷
    row (along Descendant) (at_tree d ∷ []) ∷
    row (along DescendantOrSelf) (at_tree d ∷ []) ∷
    row along_k [] ∷
    row (along Attribute) [] ∷
    row (along Parent) [] ∷
    row (along Ancestor) [] ∷
    row (along AncestorOrSelf) [] ∷
    row (along FollowingSibling) [] ∷
    row (along PrecedingSibling) [] ∷
    row (along Following) (at_tree d ∷ []) ∷
    row (along Preceding) (at_tree d ∷ []) ∷
    []

-- each row's path looks, from the position, at what stands there
abbrev pub AllLook : Position → List LookRow → Type 0
AllLook n rows = map (λ r. looked small (find_from false r.steps n)) rows ≡ map (λ r. r.looks) rows

-- `/` looks at the document, wherever it begins, and no more
abbrev pub LooksAtDocument : Position → Type 0
LooksAtDocument n = looked small (find_from true no_steps n) ≡ at_node d ∷ []
