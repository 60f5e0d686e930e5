-- Worked rows: what the definitions compute, by hand.
use Rattle.std.proofs.Common.{◌≡◌, ℕ, zero, suc, ◌++◌, List, [], ◌∷◌, Some, None, refl, ap}
use Rattle.std.specs.Prelude.{codes}
use Rattle.std.specs.Str.{chars, is_utf8}
use Rattle.std.specs.Fmt.{digits}
use lib.Utf8.{encode}
use Rattle.dewey_labels.specs.Labels.{Label}
use Rattle.tree_model.specs.declared.dom_call.DomCall.TheVariants as call
use Rattle.tree_model.specs.declared.fragment.Fragment.{Fragment}
use Rattle.tree_model.specs.declared.fragment.Fragment.TheVariants as fragment
use Rattle.tree_model.specs.declared.reply.Reply.TheVariants.{Nothing, Number, Place, Places, Tree as ATree, Refused}
use Rattle.tree_model.specs.declared.refusal.Refusal.TheVariants.{Dom, DocumentExists, TooDeep}
use Rattle.tree_model.specs.declared.record.Record.TheVariants.{Document, Element, Text, Attr}
use Rattle.tree_model.specs.Keys.{key_at, node_key}
use Rattle.tree_model.specs.Names.{Name, is_name, is_start_char, is_name_char}
use Rattle.tree_model.specs.Tree.{Tree, Forest, none, node, empty_tree, map_of}
use Rattle.tree_model.specs.Documents.{create}
use Rattle.tree_model.specs.Placing.{append, insert}
use Rattle.tree_model.specs.Texts.{set_text_of}
use Rattle.tree_model.specs.DomCalls.{dom}
use Rattle.tree_model.proofs.PlainFragments.{plain-Element, plain-Text}

abbrev a : Name
a = codes "a"

abbrev b : Name
b = codes "b"

abbrev x : Name
x = codes "x"

-- `["a"]` and so on
abbrev empty_element : Name → Fragment
empty_element n = fragment.Element n [] []

-- the labels 1.1001 and 1.1001.1001
abbrev D : Label
D = 1 ∷ 1001 ∷ []

abbrev E : Label
E = 1 ∷ 1001 ∷ 1001 ∷ []

-- ---- one document

-- the tree with `["a"]` as document x
abbrev with_a : Tree
with_a = record { catalogue = (x, D) ∷ []; documents = node D Document [] (node E (Element a) [] none none) none }

created : dom (call.Create x (Some (empty_element a))) empty_tree ≡ (Place (Some D), with_a)
unfolding is_name is_utf8 chars encode is_start_char is_name_char
created = ap (λ f. create x f empty_tree) (plain-Element a [] [])

map_with_a : map_of with_a ≡ (key_at (1 ∷ []) x, Attr (codes "1.1001")) ∷ (node_key D, Document) ∷ (node_key E, Element a) ∷ []
unfolding digits
map_with_a = refl

first_of_the_document : dom (call.First D) with_a ≡ (Place (Some E), with_a)
first_of_the_document = refl

first_of_the_element : dom (call.First E) with_a ≡ (Place None, with_a)
first_of_the_element = refl

first_of_no_node : dom (call.First (1 ∷ 1003 ∷ [])) with_a ≡ (Refused (Dom 8), with_a)
first_of_no_node = refl

first_of_the_root : dom (call.First (1 ∷ [])) with_a ≡ (Refused (Dom 8), with_a)
first_of_the_root = refl

created_again : dom (call.Create x (Some (empty_element b))) with_a ≡ (Refused DocumentExists, with_a)
unfolding is_name is_utf8 chars encode is_start_char is_name_char
created_again = ap (λ f. create x f with_a) (plain-Element b [] [])

created_with_no_name : dom (call.Create (codes "1a") None) with_a ≡ (Refused (Dom 5), with_a)
unfolding is_name is_utf8 chars encode is_start_char is_name_char
created_with_no_name = refl

created_with_a_text : dom (call.Create b (Some (fragment.Text a))) with_a ≡ (Refused (Dom 3), with_a)
unfolding is_name is_utf8 chars encode is_start_char is_name_char
created_with_a_text = ap (λ f. create b f with_a) (plain-Text a)

document_x : dom (call.Doc x) with_a ≡ (Place (Some D), with_a)
document_x = refl

dumped_x : dom (call.Dump D) with_a ≡ (ATree (Some (empty_element a)), with_a)
dumped_x = refl

dropped_x : dom (call.Drop x) with_a ≡ (Nothing, empty_tree)
dropped_x = refl

-- a document has one element and no text
text_at_a_document : dom (call.Append D (fragment.Text a)) with_a ≡ (Refused (Dom 3), with_a)
text_at_a_document = ap (λ f. append D f with_a) (plain-Text a)

second_element_at_a_document : dom (call.Append D (empty_element b)) with_a ≡ (Refused (Dom 3), with_a)
second_element_at_a_document = ap (λ f. append D f with_a) (plain-Element b [] [])

-- ---- four children, each in its gap

abbrev child : List ℕ → Forest → Forest
child code nx = node (E ++ code) (Element b) [] none nx

abbrev with_children : Forest → Tree
with_children ch = record { catalogue = (x, D) ∷ []; documents = node D Document [] (node E (Element a) [] ch none) none }

abbrev one : Tree
one = with_children (child (1001 ∷ []) none)

abbrev two : Tree
two = with_children (child (1001 ∷ []) (child (1003 ∷ []) none))

abbrev three : Tree
three = with_children (child (1001 ∷ []) (child (1002 ∷ 1001 ∷ []) (child (1003 ∷ []) none)))

abbrev four : Tree
four = with_children (child (1001 ∷ []) (child (1002 ∷ 999 ∷ []) (child (1002 ∷ 1001 ∷ []) (child (1003 ∷ []) none))))

appended : dom (call.Append E (empty_element b)) with_a ≡ (Place (Some (E ++ 1001 ∷ [])), one)
appended = ap (λ f. append E f with_a) (plain-Element b [] [])

appended_behind : dom (call.Append E (empty_element b)) one ≡ (Place (Some (E ++ 1003 ∷ [])), two)
appended_behind = ap (λ f. append E f one) (plain-Element b [] [])

inserted : dom (call.Insert E (Some (E ++ 1003 ∷ [])) (empty_element b)) two ≡ (Place (Some (E ++ 1002 ∷ 1001 ∷ [])), three)
inserted = ap (λ f. insert E (Some (E ++ 1003 ∷ [])) f two) (plain-Element b [] [])

inserted_before : dom (call.Insert E (Some (E ++ 1002 ∷ 1001 ∷ [])) (empty_element b)) three ≡ (Place (Some (E ++ 1002 ∷ 999 ∷ [])), four)
inserted_before = ap (λ f. insert E (Some (E ++ 1002 ∷ 1001 ∷ [])) f three) (plain-Element b [] [])

children_in_order : dom (call.Children E) four ≡ (Places ((E ++ 1001 ∷ []) ∷ (E ++ 1002 ∷ 999 ∷ []) ∷ (E ++ 1002 ∷ 1001 ∷ []) ∷ (E ++ 1003 ∷ []) ∷ []), four)
children_in_order = refl

removed : dom (call.Remove E (E ++ 1002 ∷ 999 ∷ [])) four ≡ (ATree (Some (empty_element b)), three)
removed = refl

-- not a child of the document
removed_from_elsewhere : dom (call.Remove D (E ++ 1003 ∷ [])) four ≡ (Refused (Dom 8), four)
removed_from_elsewhere = refl

-- ---- a text split and joined again

abbrev with_texts : Forest → Tree
with_texts = with_children

abbrev text_node : List ℕ → List ℕ → Forest → Forest
text_node code data_of nx = node (E ++ code) (Text data_of) [] none nx

abbrev with_ab : Tree
with_ab = with_texts (text_node (1001 ∷ []) (codes "ab") none)

abbrev with_ab_and_nothing : Tree
with_ab_and_nothing = with_texts (text_node (1001 ∷ []) (codes "ab") (text_node (1003 ∷ []) [] none))

split_past_the_end : dom (call.SplitText (E ++ 1001 ∷ []) 3) with_ab ≡ (Refused (Dom 1), with_ab)
unfolding chars
split_past_the_end = refl

split_at_the_end : dom (call.SplitText (E ++ 1001 ∷ []) 2) with_ab ≡ (Place (Some (E ++ 1003 ∷ [])), with_ab_and_nothing)
unfolding chars encode
split_at_the_end = refl

dumped_split : dom (call.Dump E) with_ab_and_nothing ≡ (ATree (Some (fragment.Element a [] (fragment.Text (codes "ab") ∷ fragment.Text [] ∷ []))), with_ab_and_nothing)
dumped_split = refl

normalized : dom (call.Normalize E) with_ab_and_nothing ≡ (Nothing, with_ab)
normalized = refl

-- U+E9 and U+1F600 in UTF-8
abbrev two_characters : List ℕ
two_characters = 0xC3 ∷ 0xA9 ∷ 0xF0 ∷ 0x9F ∷ 0x98 ∷ 0x80 ∷ []

length_in_characters : dom (call.Length (E ++ 1001 ∷ [])) (with_texts (text_node (1001 ∷ []) two_characters none)) ≡ (Number 2, with_texts (text_node (1001 ∷ []) two_characters none))
unfolding chars
length_in_characters = refl

-- ---- attributes and texts that are set

abbrev with_attribute : List ℕ → Tree
with_attribute n = record { catalogue = (x, D) ∷ []; documents = node D Document [] (node E (Element a) ((n, []) ∷ []) none none) none }

attribute_removed : dom (call.RemoveAttr E b) (with_attribute b) ≡ (Nothing, with_a)
unfolding is_name is_utf8 chars encode is_start_char is_name_char
attribute_removed = refl

-- what is no Name is no attribute
no_name_removed : dom (call.RemoveAttr E (codes "1a")) (with_attribute (codes "1a")) ≡ (Nothing, with_attribute (codes "1a"))
unfolding is_name is_utf8 chars encode is_start_char is_name_char
no_name_removed = refl

-- an element n levels below E
abbrev deep_label : ℕ → Label
deep_label zero = E
deep_label (suc n) = deep_label n ++ (1001 ∷ [])

-- without data nothing is placed, so nothing lies too deep
set_to_nothing : set_text_of (deep_label 100) [] with_a (node (deep_label 100) (Element a) [] none none) ≡ (Nothing, with_a)
set_to_nothing = refl

set_too_deep : set_text_of (deep_label 100) a with_a (node (deep_label 100) (Element a) [] none none) ≡ (Refused TooDeep, with_a)
set_too_deep = refl
