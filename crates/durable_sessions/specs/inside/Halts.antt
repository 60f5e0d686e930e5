-- Why sessions can't go on after a call over a core that isn't answered, by what the base counted in it.
use Rattle.std.specs.Prelude.{ℕ, ◌==◌, cond}
use Rattle.tx_core.specs.declared.errors.CallError.{CallError}
use Rattle.tx_core.specs.declared.errors.CallError.TheVariants as call_error
use Rattle.durable_sessions.specs.declared.halt.Halt.{Halt}
use Rattle.durable_sessions.specs.declared.halt.Halt.TheVariants.{DiskFault, NoMemory}

-- a fault of the base is one whatever error hides it; else memory was wanting
abbrev pub halt_of : CallError → ℕ → ℕ → Halt
halt_of call_error.DiskFault before now = DiskFault
halt_of error before now = cond (before == now) NoMemory DiskFault
