-- Why a call of the core is refused, in the order of the tests, as the book tells it. Want of memory comes only behind these tests.
use Rattle.std.specs.Prelude.{ℕ, ◌+◌, ◌==◌, cond, is_some, Option, Some, None, Result, Ok, Err}
use Rattle.call_contract.specs.States.{Live}
use Rattle.call_contract.specs.Sessions.{live_in, begins}
use Rattle.tx_core.specs.Cores.{CoreView}
use Rattle.tx_core.specs.declared.errors.CallError.{CallError}
use Rattle.tx_core.specs.declared.errors.CallError.TheVariants as call_error
use Rattle.tx_core.specs.declared.errors.SessionError.{SessionError}
use Rattle.tx_core.specs.declared.errors.SessionError.TheVariants.{IsWaiting, InTransaction, NoTransaction, TxLimit, CommitLimit, NoMemory}

-- ---- by the session's live transaction, if it has one

abbrev pub refused_begin : {C : Type 0} → ℕ → ℕ → Option (Live C) → Option SessionError
refused_begin come limit None = cond (come == limit) (Some TxLimit) None
refused_begin come limit (Some t) = Some (cond (is_some t.waits) IsWaiting InTransaction)

abbrev pub refused_call : {C : Type 0} → Option (Live C) → Option SessionError
refused_call None = Some NoTransaction
refused_call (Some t) = cond (is_some t.waits) (Some IsWaiting) None

abbrev pub refused_abort : {C : Type 0} → Option (Live C) → Option SessionError
refused_abort None = Some NoTransaction
refused_abort (Some t) = None

-- ---- of a session

abbrev pub begin_refused : {C B : Type 0} → CoreView C B → ℕ → Option SessionError
begin_refused v s = refused_begin (v.number + begins v.book) v.limit (live_in v.book s)

-- an attempt, or a commit before what it has changed is looked at
abbrev pub call_refused : {C B : Type 0} → CoreView C B → ℕ → Option SessionError
call_refused v s = refused_call (live_in v.book s)

abbrev pub abort_refused : {C B : Type 0} → CoreView C B → ℕ → Option SessionError
abort_refused v s = refused_abort (live_in v.book s)

-- ---- what answers show

-- the refusal that an error is, if it is one
abbrev pub shown_error : SessionError → Option SessionError
shown_error NoMemory = None
shown_error why = Some why

abbrev pub shown_refusal : {T : Type 0} → Result T SessionError → Option SessionError
shown_refusal (Ok x) = None
shown_refusal (Err why) = shown_error why

-- a prepared commit's, but for changes past the limit
abbrev pub shown_prepare_error : SessionError → Option SessionError
shown_prepare_error NoMemory = None
shown_prepare_error CommitLimit = None
shown_prepare_error why = Some why

abbrev pub shown_prepare_refusal : {T : Type 0} → Result T SessionError → Option SessionError
shown_prepare_refusal (Ok x) = None
shown_prepare_refusal (Err why) = shown_prepare_error why

abbrev pub refusal_in : CallError → Option SessionError
refusal_in (call_error.Session why) = Some why
refusal_in e = None

abbrev pub shown_call_refusal : {T : Type 0} → Result T CallError → Option SessionError
shown_call_refusal (Ok x) = None
shown_call_refusal (Err e) = refusal_in e
