-- Why a session is refused a line, in the order of the tests (docs/PROFILE.md, "Lines of sessions"). A refused line changes nothing.
use Rattle.std.specs.Prelude.{ℕ, ◌+◌, ◌==◌, cond, is_some, Option, None, Some}
use Rattle.call_contract.specs.Calls.{CallMeaning}
use Rattle.call_contract.specs.States.{Live, State, of_session}
use Rattle.command_lines.specs.declared.line_reply.SessionRefusal.{SessionRefusal}
use Rattle.command_lines.specs.declared.line_reply.SessionRefusal.TheVariants.{IsWaiting, InTransaction, NoTransaction, TxLimit, CommitLimit}
use Rattle.tx_core.specs.Commits.{is_past_limit}
use Rattle.session_driver.specs.declared.doing.Doing.{Doing}
use Rattle.session_driver.specs.declared.doing.Doing.TheVariants.{Begin, Commit, Abort, Call}

-- a waiting session is asked for nothing but to abort
abbrev pub unless_waiting : {C : Type 0} → Live C → Option SessionRefusal → Option SessionRefusal
unless_waiting t why = cond (is_some t.waits) (Some IsWaiting) why

-- by the session's live transaction, if it has one
abbrev pub refusal_of : {C : Type 0} → CallMeaning C → State C → Option (Live C) → Doing C → Option SessionRefusal
refusal_of m st None Begin = cond (st.opening + st.begun == st.limit) (Some TxLimit) None
refusal_of m st None Commit = Some NoTransaction
refusal_of m st None Abort = Some NoTransaction
refusal_of m st None (Call c) = Some NoTransaction
refusal_of m st (Some t) Begin = unless_waiting t (Some InTransaction)
refusal_of m st (Some t) Commit = unless_waiting t (cond (is_past_limit m st t) (Some CommitLimit) None)
refusal_of m st (Some t) Abort = None
refusal_of m st (Some t) (Call c) = unless_waiting t None

abbrev pub refusal : {C : Type 0} → CallMeaning C → State C → ℕ → Doing C → Option SessionRefusal
refusal m st s doing = refusal_of m st (of_session s st.live) doing
