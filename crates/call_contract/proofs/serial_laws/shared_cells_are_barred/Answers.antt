use Rattle.tree_cells.proofs.Conflict.{conflict}
use Rattle.call_contract.proofs.Held.{held_apart}
use Rattle.call_contract.proofs.serial_laws.shared_cells_are_barred.Goals as goal

pub returns : goal.returns
returns c = λ gs hs x one other reads writes. held_apart gs hs (conflict gs hs one other x reads writes)
