-- The cells that a look reads (docs/PROFILE.md, "Cells").
use Rattle.std.specs.Prelude.{◌≡◌, Bool, true, false, ◌&&◌, List}
use Rattle.std.specs.List.{list_any}
use Rattle.tree_model.specs.Tree.{Tree}
use Rattle.tree_cells.specs.Cells.{Cell, node_cell, attr_cell, value_at}
use Rattle.tree_cells.specs.Places.{is_at, is_at_or_above, is_parent, same_name}
use Rattle.path_model.specs.Programs.{Look, at_node, at_row, at_tree, at_attributes, at_attribute}

-- a node, the nodes under it, all from it down, its attributes, one of them
abbrev pub looks_into : Look → Cell → Bool
looks_into (at_node l) (node_cell m) = is_at l m
looks_into (at_row l) (node_cell m) = is_parent l m
looks_into (at_tree l) (node_cell m) = is_at_or_above l m
looks_into (at_tree l) (attr_cell m n) = is_at_or_above l m
looks_into (at_attributes l) (attr_cell m n) = is_at l m
looks_into (at_attribute l k) (attr_cell m n) = is_at l m && same_name k n
looks_into o x = false

-- one of the looks does
abbrev pub some_look_into : List Look → Cell → Bool
some_look_into os x = list_any (λ o. looks_into o x) os

-- two trees have the same in each cell that the look reads
abbrev pub ShowTheSame : Look → Tree → Tree → Type 0
ShowTheSame o t u = (x : Cell) → looks_into o x ≡ true → value_at t x ≡ value_at u x
