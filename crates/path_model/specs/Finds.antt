-- The call `find`, by the label of a node and a path: what it answers on a tree, and the program that answers it (docs/PROFILE.md, "Paths").
use Rattle.std.specs.Prelude.{List, [], ◌∷◌, map, None, Some}
use Rattle.dewey_labels.specs.Labels.{Label}
use Rattle.tree_model.specs.declared.refusal.Refusal.TheVariants.{Dom}
use Rattle.tree_model.specs.declared.reply.Hit.{Hit}
use Rattle.tree_model.specs.declared.reply.Reply.{Reply}
use Rattle.tree_model.specs.declared.reply.Reply.TheVariants.{Found, Refused}
use Rattle.tree_model.specs.Outcomes.{not_found_err}
use Rattle.tree_model.specs.Tree.{Forest, none, node, Tree, at}
use Rattle.path_model.specs.Evaluation.{find_from}
use Rattle.path_model.specs.Meaning.{found_from}
use Rattle.path_model.specs.Paths.{Path}
use Rattle.path_model.specs.Positions.{Position, a_node, an_attribute}
use Rattle.path_model.specs.Programs.{at_node, Program, ends, looks, and_then}

-- a position as it is answered: a node by its label, an attribute by that of its element and its name
abbrev pub hit_of : Position → Hit
hit_of (a_node l r) = record { label = l; attr = None }
hit_of (an_attribute l n v) = record { label = l; attr = Some n }

abbrev pub hits : List Position → Reply
hits ns = Found (map hit_of ns)

-- the set that the path means from the node that was looked for: `NOT_FOUND_ERR` where there is none
abbrev pub found_below : Path → Tree → Forest → Reply
found_below p t none = Refused (Dom not_found_err)
found_below p t (node l r ats ch nx) = hits (found_from t p.is_absolute p.steps (a_node l r))

abbrev pub found_at : Label → Path → Tree → Reply
found_at l p t = found_below p t (at l t.documents)

-- the node is looked at first, and the path is evaluated from it where one was seen
abbrev pub found_by : Path → List Position → Program Reply
found_by p [] = ends (Refused (Dom not_found_err))
found_by p (n ∷ ns) = and_then (find_from p.is_absolute p.steps n) (λ ms. ends (hits ms))

abbrev pub find : Label → Path → Program Reply
find l p = looks (at_node l) (λ seen. found_by p seen)
