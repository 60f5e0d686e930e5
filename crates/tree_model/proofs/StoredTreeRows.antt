-- Worked rows of the test of stored maps, each with the place of the first broken rule.
use Rattle.std.proofs.Common.{◌≡◌, ℕ, zero, suc, ◌++◌, [], ◌∷◌, Some, None, refl}
use Rattle.std.specs.Prelude.{codes}
use Rattle.std.specs.Str.{chars, is_utf8}
use Rattle.std.specs.Fmt.{digits}
use lib.Utf8.{encode}
use Rattle.dewey_labels.specs.Labels.{Label, root}
use Rattle.tree_model.specs.declared.key.Key.{Key}
use Rattle.tree_model.specs.declared.record.Record.{Record}
use Rattle.tree_model.specs.declared.record.Record.TheVariants.{Document, Element, Text, Attr}
use Rattle.tree_model.specs.Names.{is_name, is_start_char, is_name_char}
use Rattle.tree_model.specs.Keys.{key_at, node_key}
use Rattle.tree_model.specs.Entries.{Entries}
use Rattle.tree_model.specs.StoredTree.{broken_at}

-- the labels 1.1001, 1.1001.1001 and 1.1001.1003
abbrev D : Label
D = 1 ∷ 1001 ∷ []

abbrev E : Label
E = 1 ∷ 1001 ∷ 1001 ∷ []

abbrev F : Label
F = 1 ∷ 1001 ∷ 1003 ∷ []

-- two children of E
abbrev G : Label
G = 1 ∷ 1001 ∷ 1001 ∷ 1001 ∷ []

abbrev H : Label
H = 1 ∷ 1001 ∷ 1001 ∷ 1003 ∷ []

-- the label of a second document
abbrev K : Label
K = 1 ∷ 1003 ∷ []

-- the entry of document x, its record and that of its element `a`
abbrev x_is_D : Key × Record
x_is_D = (key_at root (codes "x"), Attr (codes "1.1001"))

abbrev document : Key × Record
document = (node_key D, Document)

abbrev element : Key × Record
element = (node_key E, Element (codes "a"))

abbrev y_is : Key × Record
y_is = (key_at root (codes "y"), Attr (codes "1.1003"))

abbrev one_document : Entries
one_document = x_is_D ∷ document ∷ element ∷ []

no_record : broken_at [] ≡ None
no_record = refl

a_document_and_its_element : broken_at one_document ≡ None
unfolding is_name is_utf8 chars encode is_start_char is_name_char digits
a_document_and_its_element = refl

-- a second document, an attribute, and an element and a text in its element
two_documents : broken_at (x_is_D ∷ y_is ∷ document ∷ element ∷ (key_at E (codes "k"), Attr []) ∷ (node_key G, Element (codes "b")) ∷ (node_key H, Text (codes "t")) ∷ (node_key K, Document) ∷ []) ≡ None
unfolding is_name is_utf8 chars encode is_start_char is_name_char digits
two_documents = refl

-- ---- parents and kinds

an_element_alone : broken_at (element ∷ []) ≡ Some 0
unfolding is_name is_utf8 chars encode is_start_char is_name_char digits
an_element_alone = refl

a_parent_that_is_not_there : broken_at (one_document ++ ((node_key (1 ∷ 1001 ∷ 1003 ∷ 1001 ∷ []), Element (codes "b")) ∷ [])) ≡ Some 3
unfolding is_name is_utf8 chars encode is_start_char is_name_char digits
a_parent_that_is_not_there = refl

an_element_as_a_document : broken_at (x_is_D ∷ (node_key D, Element (codes "a")) ∷ []) ≡ Some 1
unfolding is_name is_utf8 chars encode is_start_char is_name_char digits
an_element_as_a_document = refl

a_text_below_a_document : broken_at (x_is_D ∷ document ∷ (node_key E, Text (codes "t")) ∷ []) ≡ Some 2
unfolding is_name is_utf8 chars encode is_start_char is_name_char digits
a_text_below_a_document = refl

a_second_child_of_a_document : broken_at (one_document ++ ((node_key F, Element (codes "b")) ∷ [])) ≡ Some 3
unfolding is_name is_utf8 chars encode is_start_char is_name_char digits
a_second_child_of_a_document = refl

an_element_below_a_text : broken_at (one_document ++ ((node_key G, Text (codes "t")) ∷ (node_key (1 ∷ 1001 ∷ 1001 ∷ 1001 ∷ 1001 ∷ []), Element (codes "b")) ∷ [])) ≡ Some 4
unfolding is_name is_utf8 chars encode is_start_char is_name_char digits
an_element_below_a_text = refl

-- ---- names, values and levels

an_element_with_no_name : broken_at (x_is_D ∷ document ∷ (node_key E, Element (codes "1a")) ∷ []) ≡ Some 2
unfolding is_name is_utf8 chars encode is_start_char is_name_char digits
an_element_with_no_name = refl

an_attribute_with_no_name : broken_at (one_document ++ ((key_at E (codes "1a"), Attr []) ∷ [])) ≡ Some 3
unfolding is_name is_utf8 chars encode is_start_char is_name_char digits
an_attribute_with_no_name = refl

an_attribute_that_holds_no_value : broken_at (one_document ++ ((key_at E (codes "k"), Text []) ∷ [])) ≡ Some 3
unfolding is_name is_utf8 chars encode is_start_char is_name_char digits
an_attribute_that_holds_no_value = refl

an_attribute_of_a_text : broken_at (one_document ++ ((node_key G, Text (codes "t")) ∷ (key_at G (codes "k"), Attr []) ∷ [])) ≡ Some 4
unfolding is_name is_utf8 chars encode is_start_char is_name_char digits
an_attribute_of_a_text = refl

-- C3 begins a character of two bytes
a_text_that_is_no_utf8 : broken_at (one_document ++ ((node_key G, Text (0xC3 ∷ [])) ∷ [])) ≡ Some 3
unfolding is_name is_utf8 chars encode is_start_char is_name_char digits
a_text_that_is_no_utf8 = refl

a_value_that_is_no_utf8 : broken_at (one_document ++ ((key_at E (codes "k"), Attr (0x61 ∷ 0xC3 ∷ [])) ∷ [])) ≡ Some 3
unfolding is_name is_utf8 chars encode is_start_char is_name_char digits
a_value_that_is_no_utf8 = refl

-- n elements, each below the one before it
abbrev chain : ℕ → Label → Entries
chain zero l = []
chain (suc n) l = (node_key l, Element (codes "a")) ∷ chain n (l ++ (1001 ∷ []))

the_deepest_level : broken_at (x_is_D ∷ document ∷ chain 100 E) ≡ None
unfolding is_name is_utf8 chars encode is_start_char is_name_char digits
the_deepest_level = refl

one_level_too_deep : broken_at (x_is_D ∷ document ∷ chain 101 E) ≡ Some 102
unfolding is_name is_utf8 chars encode is_start_char is_name_char digits
one_level_too_deep = refl

-- ---- the root and the catalogue

a_record_at_the_root : broken_at ((node_key root, Document) ∷ []) ≡ Some 0
a_record_at_the_root = refl

a_document_without_a_name : broken_at (document ∷ element ∷ []) ≡ Some 0
a_document_without_a_name = refl

a_document_with_two_names : broken_at (x_is_D ∷ (key_at root (codes "y"), Attr (codes "1.1001")) ∷ document ∷ element ∷ []) ≡ Some 2
unfolding is_name is_utf8 chars encode is_start_char is_name_char digits
a_document_with_two_names = refl

a_name_without_its_document : broken_at (x_is_D ∷ []) ≡ Some 1
unfolding is_name is_utf8 chars encode is_start_char is_name_char digits
a_name_without_its_document = refl

a_name_for_an_element : broken_at (x_is_D ∷ (key_at root (codes "y"), Attr (codes "1.1001.1001")) ∷ document ∷ element ∷ []) ≡ Some 4
unfolding is_name is_utf8 chars encode is_start_char is_name_char digits
a_name_for_an_element = refl

a_name_for_no_label : broken_at (x_is_D ∷ (key_at root (codes "y"), Attr (codes "1.1")) ∷ document ∷ element ∷ []) ≡ Some 4
unfolding is_name is_utf8 chars encode is_start_char is_name_char digits
a_name_for_no_label = refl

no_attribute_at_a_name : broken_at (x_is_D ∷ (key_at root (codes "y"), Document) ∷ document ∷ element ∷ []) ≡ Some 4
unfolding is_name is_utf8 chars encode is_start_char is_name_char digits
no_attribute_at_a_name = refl

a_document_with_no_name : broken_at ((key_at root (codes "1x"), Attr (codes "1.1001")) ∷ document ∷ element ∷ []) ≡ Some 3
unfolding is_name is_utf8 chars encode is_start_char is_name_char digits
a_document_with_no_name = refl
