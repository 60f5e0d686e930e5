-- How an attempt's answer ends its call.
use Rattle.std.specs.Prelude.{Option, Some, None, Result, Ok, Err}
use Rattle.call_contract.specs.declared.events.Answer.{Answer}
use Rattle.call_contract.specs.declared.events.Answer.TheVariants as answer
use Rattle.shared_store.specs.declared.ended.Ended.{Ended}
use Rattle.shared_store.specs.declared.ended.Ended.TheVariants as ended
use Rattle.shared_store.specs.declared.errors.StoreError.{StoreError}

-- none where the call has to wait
abbrev pub end_by : Answer → Option Ended
end_by (answer.Answered r) = Some (ended.Answered r)
end_by (answer.Waits r a holders) = None
end_by (answer.Deadlock cycle) = Some (ended.Deadlock cycle)

abbrev pub as_end : {E : Type 0} → Option Ended → Option (Result Ended E)
as_end None = None
as_end (Some e) = Some (Ok e)

-- of a first attempt
abbrev pub first_by : Result Answer StoreError → Option (Result Ended StoreError)
first_by (Ok a) = as_end (end_by a)
first_by (Err why) = Some (Err why)

-- of a retry of a call that waits
abbrev pub later_by : Result (Option Answer) StoreError → Option (Result Ended StoreError)
later_by (Ok None) = None
later_by (Ok (Some a)) = as_end (end_by a)
later_by (Err why) = Some (Err why)
