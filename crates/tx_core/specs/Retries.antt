-- Retries: which of them are entries of the book (docs/PROFILE.md, "The lock machine").
use Rattle.std.specs.Prelude.{◌≡◌, ℕ, Bool, true, false, not, ◌&&◌, ◌||◌, List, Option, None, Some}
use Rattle.std.specs.List.{list_any}
use Rattle.std.specs.Str.{bytes_eq}
use Rattle.tree_model.specs.Entries.{Entries}
use Rattle.call_contract.specs.Books.{entry}
use Rattle.call_contract.specs.Calls.{CallMeaning}
use Rattle.call_contract.specs.Attempts.{is_barred}
use Rattle.call_contract.specs.States.{Live, Waiting, State, of_session, others}
use Rattle.call_contract.specs.Steps.{Outcome, step}
use Rattle.call_contract.specs.declared.events.Answer.{Answer}
use Rattle.call_contract.specs.declared.events.Answer.TheVariants as answer
use Rattle.call_contract.specs.declared.events.Event.TheVariants as event
use Rattle.call_contract.specs.declared.events.EventAnswer.TheVariants as said
use Rattle.lock_modes.specs.ModeNames.{ask_name}
use Rattle.lock_modes.specs.declared.ask.Ask.{Ask}
use Rattle.lock_resources.specs.declared.request.Request.{Request}
use Rattle.lock_table.specs.Asks.{join_with}
use Rattle.lock_table.specs.Grants.{join_of}
use Rattle.lock_table.specs.Resources.{same_resource}
use Rattle.tx_core.specs.Cores.{CoreView, with_entry, over, InState}

abbrev pub same_ask : Ask → Ask → Bool
same_ask a b = bytes_eq (ask_name a) (ask_name b)

-- what is held has the mode already
abbrev pub has_mode : Option Ask → Ask → Bool
has_mode None a = false
has_mode (Some held) a = same_ask (join_with a (Some held)) held

-- one of the grants asks for more than these hold
abbrev pub hold_more : List Request → List Request → Bool
hold_more grants more = list_any (λ g. not (has_mode (join_of grants g.resource) g.ask)) more

abbrev pub same_request : Request → Request → Bool
same_request g h = same_resource g.resource h.resource && same_ask g.ask h.ask

-- they wait for one request
abbrev pub wait_alike : {C : Type 0} → Option (Waiting C) → Option (Waiting C) → Bool
wait_alike (Some w) (Some v) = same_request w.request v.request
wait_alike w v = false

-- the transaction holds more than before, or waits for something else
abbrev pub has_changed : {C : Type 0} → Option (Live C) → Option (Live C) → Bool
has_changed (Some t) (Some u) = hold_more t.grants u.grants || not (wait_alike t.waits u.waits)
has_changed t u = true

-- in this state others still bar the request with which the session's transaction waits
pub record IsStillBarred {C : Type 0} (st : State C) (s : ℕ) : Type 0 where
  pub transaction : Live C
  pub live : of_session s st.live ≡ Some transaction
  pub waiting : Waiting C
  pub waits : transaction.waits ≡ Some waiting
  pub barred : is_barred waiting.request (others s st.live) ≡ true

-- the retry of a session in a state is answered so, and the transaction then holds more or waits for something else, or it doesn't
pub record IsRetried {C : Type 0} (m : CallMeaning C) (st : State C) (s : ℕ) (a : Answer) (noted : Bool) : Type 0 where
  pub after : Outcome C
  pub step : step m st s event.Retry ≡ Some after
  pub answer : after.answer ≡ said.Call a
  pub changed : has_changed (of_session s st.live) (of_session s after.state.live) ≡ noted

-- a retry that waits again, as an entry or as none; any other is an entry
abbrev pub IsNotedRetry : Answer → Bool → Type 0
IsNotedRetry (answer.Waits r a holders) noted = Unit {0}
IsNotedRetry a noted = noted ≡ true

abbrev pub with_retry : {C B : Type 0} → CoreView C B → ℕ → Answer → Bool → CoreView C B
with_retry v s a true = with_entry v (entry s event.Retry (said.Call a))
with_retry v s a false = v

-- the core after a retry with this answer: the book has it, or nothing changed that a book tells
pub record HasRetried {C B : Type 0} (m : CallMeaning C) (told : B → Option Entries) (v : CoreView C B) (s : ℕ) (a : Answer) (w : CoreView C B) : Type 0 where
  pub noted : Bool
  pub may_be : IsNotedRetry a noted
  pub view : w ≡ over (with_retry v s a noted) w.base
  pub step : InState m told v (λ st. IsRetried m st s a noted)
