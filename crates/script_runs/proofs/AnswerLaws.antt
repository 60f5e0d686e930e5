-- What the answer of a step tells.
use Rattle.std.proofs.Common.{◌≡◌, ap}
use Rattle.std.specs.Prelude.{Result, Ok, Err, IsErrAnd, OnErr}
use Rattle.script_runs.specs.declared.feeding.Stop.{Stop}
use Rattle.script_runs.specs.declared.feeding.Stop.TheVariants.{LineTooLong, WriteFault, Halted}
use Rattle.script_runs.specs.declared.halt.Halt.TheVariants.{DiskFault}

-- a stop, as a step's answer
abbrev pub as_stop : Stop → Result (Unit {0}) Stop
as_stop e = Err e

-- a step that went on, as its answer
abbrev pub went_on : Result (Unit {0}) Stop
went_on = Ok tt

pub step_is_no_stop : (e : Stop) → went_on ≡ as_stop e → ⊥
step_is_no_stop e it = cc

-- the answer of a step that stopped
pub stopped_at : {T : Type 0} (r : Result T Stop) (e : Stop) → IsErrAnd r (λ x. x ≡ e) → r ≡ Err e
stopped_at (Ok done) e is = absurd is
stopped_at (Err x) e is = ap (λ (y : Stop). Err y) is

-- where only writing fails
pub unwritten_no_disk : (r : Result (Unit {0}) Stop) → OnErr r (r ≡ Err WriteFault) → r ≡ Err (Halted DiskFault) → ⊥
unwritten_no_disk (Ok done) is it = cc
unwritten_no_disk (Err e) is it = cc

pub unwritten_not_long : (r : Result (Unit {0}) Stop) → OnErr r (r ≡ Err WriteFault) → r ≡ Err LineTooLong → ⊥
unwritten_not_long (Ok done) is it = cc
unwritten_not_long (Err e) is it = cc
