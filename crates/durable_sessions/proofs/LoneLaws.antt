-- A call of a transaction that is alone is answered.
use Rattle.std.proofs.Common.{◌≡◌, ℕ, ◌==◌, Bool, true, cond, List, [], ◌∷◌, ◌++◌, Option, Some, None, refl, ap, ◌∙◌}
use Rattle.std.proofs.lemmas.Bool.{eq-eqb}
use Rattle.std.specs.Prelude.{is_some, if◌then◌else◌, nat_lt}
use Rattle.lock_resources.specs.declared.request.Request.{Request}
use Rattle.call_contract.specs.Attempts.{asked, answered, barred, granted}
use Rattle.call_contract.specs.Calls.{CallMeaning}
use Rattle.call_contract.specs.States.{Live, State, Waiting, of_session, others, put}
use Rattle.call_contract.specs.Steps.{Outcome, attempt, settled, step, step_of}
use Rattle.call_contract.specs.declared.events.Answer.TheVariants as answer
use Rattle.call_contract.specs.declared.events.Event.TheVariants as event
use Rattle.call_contract.specs.declared.events.EventAnswer.TheVariants as said
use Rattle.command_lines.specs.declared.line_reply.SessionRefusal.{SessionRefusal}
use Rattle.command_lines.specs.declared.line_reply.SessionRefusal.TheVariants.{IsWaiting}
use Rattle.session_driver.specs.Lines.{after_line, stepped, unless_refused}
use Rattle.session_driver.specs.Refusals.{refusal, refusal_of}
use Rattle.session_driver.specs.declared.doing.Doing.TheVariants.{Call}
use Rattle.durable_sessions.specs.Lone.{IsAlone, IsAloneAfter, answered_alone, lone_reply}

-- nobody is in the way
none_barred : (C : Type 0) (gs : List Request) → barred {C = C} gs [] ≡ None
none_barred C [] = refl
none_barred C (g ∷ gs) = none_barred C gs

module _ {C : Type 0} (m : CallMeaning C) (st : State C) (t : Live C) (c : C) (alone : IsAlone st t) where
  own : (t.session == t.session) ≡ true
  own = eq-eqb t.session t.session refl

  found : of_session t.session st.live ≡ Some t
  found = ap (of_session t.session) alone.only ∙ ap (λ (b : Bool). if b then Some t else None) own

  no_others : others t.session st.live ≡ []
  no_others = ap (others t.session) alone.only ∙ ap (λ (b : Bool). if b then [] else t ∷ []) own

  abbrev outcome : Outcome C
  outcome = record { state = answered m st t c; answer = said.Call (answer.Answered (lone_reply m st t c)) }

  attempted : attempt m st t c ≡ outcome
  attempted = ap (settled m st t c) (ap (barred (asked m st t c)) no_others ∙ none_barred C (asked m st t c))

  lone_step : step m st t.session (event.Call c) ≡ Some outcome
  lone_step =
      ap (λ (o : Option (Live C)). step_of m st t.session o (event.Call c)) found
      ∙ ap (λ (w : Option (Waiting C)). if is_some w then None else Some (attempt m st t c)) alone.ready
      ∙ ap Some attempted

  allowed : refusal m st t.session (Call c) ≡ None
  allowed =
      ap (λ (o : Option (Live C)). refusal_of m st o (Call c)) found
      ∙ ap (λ (w : Option (Waiting C)). cond (is_some w) (Some IsWaiting) None) alone.ready

  pub lone_line : after_line m st (record { session = t.session; doing = Call c }) ≡ answered_alone m st t c
  lone_line =
      ap (λ (why : Option SessionRefusal). unless_refused m st t.session (Call c) why) allowed
      ∙ ap (λ (o : Option (Outcome C)). stepped m st t.session (Call c) o) lone_step

  -- the transaction with the call answered
  abbrev goes_on : Live C
  goes_on = record t {
    calls = t.calls ++ record { call = c; reply = lone_reply m st t c } ∷ [];
    grants = t.grants ++ granted m st t c;
    waits = None;
  }

  pub lone_after : IsAloneAfter t (answered_alone m st t c).state
  lone_after = record {
    transaction = goes_on;
    same = refl;
    alone = record { only = ap (put goes_on) alone.only ∙ ap (λ (b : Bool). if b then goes_on ∷ [] else if nat_lt t.session t.session then goes_on ∷ t ∷ [] else t ∷ goes_on ∷ []) own; ready = refl };
  }
