-- Worked rows of joins.
use Rattle.std.proofs.Common.{◌≡◌, refl}
use Rattle.lock_modes.specs.declared.mode.Mode.TheVariants.{NR, LR, SR, IX, LRIX, SRIX, CX, LRCX, SRCX, SX}
use Rattle.lock_modes.specs.declared.edge_mode.EdgeMode.TheVariants.{ER, EX}
use Rattle.lock_modes.specs.Modes.{join}
use Rattle.lock_modes.specs.EdgeModes.{edge_join}

level_read_and_intention : join LR IX ≡ LRIX
level_read_and_intention = refl

level_read_and_change_of_a_child : join LR CX ≡ LRCX
level_read_and_change_of_a_child = refl

subtree_read_and_intention : join SR IX ≡ SRIX
subtree_read_and_intention = refl

subtree_read_and_change_of_a_child : join SR CX ≡ SRCX
subtree_read_and_change_of_a_child = refl

node_read_and_change_of_a_child : join NR CX ≡ CX
node_read_and_change_of_a_child = refl

exclusive_and_subtree_read : join SX SR ≡ SX
exclusive_and_subtree_read = refl

edge_read_and_exclusive : edge_join ER EX ≡ EX
edge_read_and_exclusive = refl
