-- Which kind of node was found in a tree (DOM Level 3 Core, interface Node: `nodeType`).
use Rattle.std.specs.Prelude.{Bool, Option, Some, false, true}
use Rattle.tree_model.specs.Tree.{Forest, node}
use Rattle.tree_model.specs.declared.record.Record.{Record}
use Rattle.tree_model.specs.declared.record.Record.TheVariants.{Document, Element, Text}

-- the found node is a document
abbrev pub is_document : Forest → Bool
is_document (node l Document ats ch nx) = true
is_document found = false

-- the found node is an element
abbrev pub is_element : Forest → Bool
is_element (node l (Element n) ats ch nx) = true
is_element found = false

-- the found node is a text
abbrev pub is_text_node : Forest → Bool
is_text_node (node l (Text d) ats ch nx) = true
is_text_node found = false

-- a text's record
abbrev pub is_text_record : Option Record → Bool
is_text_record (Some (Text d)) = true
is_text_record r = false
