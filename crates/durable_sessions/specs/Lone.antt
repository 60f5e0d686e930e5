-- A transaction that is alone: nobody holds what its calls ask for, so each is answered (docs/PROFILE.md, "The lock machine").
use Rattle.std.specs.Prelude.{◌≡◌, ℕ, false, [], ◌∷◌, None}
use Rattle.call_contract.specs.Attempts.{answered}
use Rattle.call_contract.specs.Books.{entry}
use Rattle.call_contract.specs.Calls.{CallMeaning}
use Rattle.call_contract.specs.States.{Live, State, view}
use Rattle.call_contract.specs.declared.events.Answer.TheVariants as answer
use Rattle.call_contract.specs.declared.events.Event.TheVariants as event
use Rattle.call_contract.specs.declared.events.EventAnswer.TheVariants as said
use Rattle.command_lines.specs.declared.line_reply.LineAnswer.TheVariants as line_answer
use Rattle.command_lines.specs.declared.line_reply.LineReply.TheVariants.{Said}
use Rattle.session_driver.specs.Progress.{Progress}
use Rattle.tree_model.specs.declared.reply.Reply.{Reply}

-- this transaction is the only one that is live, and doesn't wait
pub record IsAlone {C : Type 0} (st : State C) (t : Live C) : Type 0 where
  pub only : st.live ≡ t ∷ []
  pub ready : t.waits ≡ None

-- the session's transaction goes on alone
pub record IsAloneAfter {C : Type 0} (t : Live C) (st : State C) : Type 0 where
  pub transaction : Live C
  pub same : transaction.session ≡ t.session
  pub alone : IsAlone st transaction

-- what its call is answered: the reply on what it sees
abbrev pub lone_reply : {C : Type 0} → CallMeaning C → State C → Live C → C → Reply
lone_reply m st t c = m.reply c (view m t.calls st.tree)

-- the transaction with its call answered, in one entry and one line
abbrev pub answered_alone : {C : Type 0} → CallMeaning C → State C → Live C → C → Progress C
answered_alone m st t c = record {
  state = answered m st t c;
  book = entry t.session (event.Call c) (said.Call (answer.Answered (lone_reply m st t c))) ∷ [];
  lines = Said t.session false (line_answer.Reply (lone_reply m st t c)) ∷ [];
}
