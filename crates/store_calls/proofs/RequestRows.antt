-- The requests of a valid call are rows of the table of resources: those of each kind are.
use Rattle.tree_cells.specs.Forms.{AreRows}
use Rattle.tree_model.specs.Tree.{Tree}
use Rattle.tree_model.specs.ValidTrees.{IsValidTree}
use Rattle.path_model.specs.PlainPaths.{plain_path}
use Rattle.xpath_plans.proofs.FindLaws.{find_rows}
use Rattle.session_driver.specs.Asking.{BookCall}
use Rattle.command_lines.specs.declared.command.StoreCall.TheVariants.{Dom, Find}
use Rattle.dom_laws.proofs.Meets.{requests_rows}
use Rattle.store_calls.specs.StoreCalls.{store_meaning, IsValidStoreCall}

pub store_rows : (c : BookCall) (t : Tree) → IsValidStoreCall c → IsValidTree t → AreRows (store_meaning.requests c t)
store_rows (Dom call) t i w = requests_rows call t i w
store_rows (Find at path) t i w = find_rows at (plain_path path) t i.label w
