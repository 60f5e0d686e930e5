-- The call `find` as the machine of locks takes it: what it asks for, what it is answered, and the tree after it, which is the tree before (docs/PROFILE.md, "Paths").
use Rattle.std.specs.Prelude.{ℕ, List, take}
use Rattle.dewey_labels.specs.Labels.{Label, IsLabel}
use Rattle.lock_resources.specs.declared.request.Request.{Request}
use Rattle.tree_model.specs.Tree.{Tree}
use Rattle.tree_model.specs.ValidTrees.{IsValidTree}
use Rattle.tree_cells.specs.Covers.{Agree}
use Rattle.call_contract.specs.Calls.{CallMeaning}
use Rattle.path_model.specs.Finds.{find, found_at}
use Rattle.path_model.specs.Paths.{Path}
use Rattle.xpath_plans.specs.LookRequests.{requests_once}

-- a path from the node with a label
pub record Find : Type 0 where
  pub at : Label
  pub path : Path

-- what it asks for: a look that was made before adds nothing
abbrev pub find_requests : Label → Path → Tree → List Request
find_requests l p t = requests_once t (find l p)

-- the first so many of these
abbrev pub requested : ℕ → Label → Path → Tree → List Request
requested k l p t = take k (find_requests l p t)

-- this holds of valid trees that agree on what the requests of a call from this label cover for reading
abbrev pub OnAgreement : Label → List Request → Tree → Tree → Type 0 → Type 0
OnAgreement l gs t u holds = IsLabel l → IsValidTree t → IsValidTree u → Agree gs t u → holds

abbrev pub find_meaning : CallMeaning Find
find_meaning = record { requests = λ f t. find_requests f.at f.path t; reply = λ f t. found_at f.at f.path t; after = λ f t. t }

-- the path may be any
abbrev pub IsValidFind : Find → Type 0
IsValidFind f = IsLabel f.at
