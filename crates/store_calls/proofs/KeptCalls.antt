-- What is sure of a call that was read is what it keeps, and so it is valid.
use Rattle.std.specs.Prelude.{refl}
use Rattle.command_lines.specs.ValidCommands.{IsValidWhat}
use Rattle.command_lines.specs.declared.command.StoreCall.{StoreCall}
use Rattle.command_lines.specs.declared.command.StoreCall.TheVariants.{Dom, Find}
use Rattle.command_lines.specs.declared.command.What.TheVariants.{Call}
use Rattle.store_calls.specs.StoreCalls.{KeepsItself}
use Rattle.store_calls.proofs.Fragments.{brought_is_valid}

pub keeps_itself : (c : StoreCall) → IsValidWhat (Call c) → KeepsItself c
keeps_itself (Dom call) valid = (brought_is_valid call valid, refl)
keeps_itself (Find at path) valid = (tt, valid)
