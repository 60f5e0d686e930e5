-- Each look once, where it was made first: what was noted adds nothing when it is looked at again (docs/PROFILE.md, "Requests of calls").
use Rattle.std.specs.Prelude.{Bool, false, ◌&&◌, if◌then◌else◌, List, [], ◌∷◌, ◌++◌}
use Rattle.std.specs.List.{list_any}
use Rattle.tree_cells.specs.Places.{is_at, same_name}
use Rattle.path_model.specs.Programs.{Look, at_node, at_row, at_tree, at_attributes, at_attribute}

-- whether it is the same look, at the same place
abbrev pub same_look : Look → Look → Bool
same_look (at_node l) (at_node m) = is_at l m
same_look (at_row l) (at_row m) = is_at l m
same_look (at_tree l) (at_tree m) = is_at l m
same_look (at_attributes l) (at_attributes m) = is_at l m
same_look (at_attribute l n) (at_attribute m k) = is_at l m && same_name n k
same_look o p = false

-- whether a look was noted before
abbrev pub is_noted : Look → List Look → Bool
is_noted o before = list_any (λ p. same_look p o) before

-- of looks those that weren't noted before, each once
abbrev pub once : List Look → List Look → List Look
once before [] = []
once before (o ∷ os) = if is_noted o before then once before os else o ∷ once (before ++ o ∷ []) os
