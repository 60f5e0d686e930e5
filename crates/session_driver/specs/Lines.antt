-- What a line does, and lines one after another (docs/PROFILE.md, "Lines of sessions").
use Rattle.std.specs.Prelude.{◌≡◌, ℕ, false, List, [], ◌∷◌, Option, None, Some}
use Rattle.std.specs.List.{AllByRecursion}
use Rattle.call_contract.specs.Books.{entry}
use Rattle.call_contract.specs.Calls.{CallMeaning}
use Rattle.call_contract.specs.States.{State}
use Rattle.call_contract.specs.Steps.{Outcome, step}
use Rattle.call_contract.specs.declared.events.Answer.TheVariants as answer
use Rattle.call_contract.specs.declared.events.Event.{Event}
use Rattle.call_contract.specs.declared.events.Event.TheVariants as event
use Rattle.call_contract.specs.declared.events.EventAnswer.{EventAnswer}
use Rattle.call_contract.specs.declared.events.EventAnswer.TheVariants as said
use Rattle.command_lines.specs.declared.line_reply.LineAnswer.TheVariants.{Session}
use Rattle.command_lines.specs.declared.line_reply.LineReply.TheVariants.{Said}
use Rattle.command_lines.specs.declared.line_reply.SessionRefusal.{SessionRefusal}
use Rattle.session_driver.specs.Progress.{Progress, stays, noted, and_then, line_of}
use Rattle.session_driver.specs.Refusals.{refusal}
use Rattle.session_driver.specs.Retries.{retries}
use Rattle.session_driver.specs.declared.doing.Doing.{Doing}
use Rattle.session_driver.specs.declared.doing.Doing.TheVariants.{Begin, Commit, Abort, Call}
use Rattle.tree_model.specs.Tree.{Tree}
use Rattle.tree_model.specs.ValidTrees.{IsValidTree}

-- a line as a session is asked it
pub record Asked (C : Type 0) : Type 0 where
  pub session : ℕ
  pub doing : Doing C

-- the line that asks this of a session
abbrev pub asking : {C : Type 0} → ℕ → Doing C → Asked C
asking session doing = record { session = session; doing = doing }

-- a call that is asked is valid
abbrev pub IsValidDoing : {C : Type 0} → (C → Type 0) → Doing C → Type 0
IsValidDoing is_valid (Call c) = is_valid c
IsValidDoing is_valid doing = Unit {0}

abbrev pub AreValid : {C : Type 0} → (C → Type 0) → List (Asked C) → Type 0
AreValid is_valid lines = AllByRecursion (λ line. IsValidDoing is_valid line.doing) lines

-- this holds of lines with such calls, from every valid tree, with every number and limit
abbrev pub OfValidLines : {C : Type 0} → (C → Type 0) → (Tree → ℕ → ℕ → List (Asked C) → Type 0) → Type 0
OfValidLines {C} is_valid Q = (t : Tree) (n limit : ℕ) (lines : List (Asked C)) → IsValidTree t → AreValid is_valid lines → Q t n limit lines

-- this is why a line is refused
abbrev pub IsRefusedFor : {C : Type 0} → CallMeaning C → State C → Asked C → SessionRefusal → Type 0
IsRefusedFor m st line why = refusal m st line.session line.doing ≡ Some why

-- what is asked, as an event of the machine
abbrev pub event_of : {C : Type 0} → Doing C → Event C
event_of Begin = event.Begin
event_of Commit = event.Commit
event_of Abort = event.Abort
event_of (Call c) = event.Call c

-- retries follow where a transaction has ended: by a commit, an abort or a deadlock
abbrev pub then_retries : {C : Type 0} → CallMeaning C → Doing C → EventAnswer → State C → Progress C
then_retries m Commit a st = retries m st
then_retries m Abort a st = retries m st
then_retries m (Call c) (said.Call (answer.Deadlock cycle)) st = retries m st
then_retries m doing a st = stays st

-- a line that is refused, or does its step
abbrev pub stepped : {C : Type 0} → CallMeaning C → State C → ℕ → Doing C → Option (Outcome C) → Progress C
stepped m st s doing None = stays st
stepped m st s doing (Some o) = noted (entry s (event_of doing) o.answer) (line_of s false o.answer) (then_retries m doing o.answer o.state)

abbrev pub unless_refused : {C : Type 0} → CallMeaning C → State C → ℕ → Doing C → Option SessionRefusal → Progress C
unless_refused m st s doing (Some why) = record { state = st; book = []; lines = Said s false (Session why) ∷ [] }
unless_refused m st s doing None = stepped m st s doing (step m st s (event_of doing))

abbrev pub after_line : {C : Type 0} → CallMeaning C → State C → Asked C → Progress C
after_line m st line = unless_refused m st line.session line.doing (refusal m st line.session line.doing)

abbrev pub after_lines : {C : Type 0} → CallMeaning C → State C → List (Asked C) → Progress C
after_lines m st [] = stays st
after_lines m st (line ∷ lines) = and_then (after_line m st line) (after_lines m (after_line m st line).state lines)
