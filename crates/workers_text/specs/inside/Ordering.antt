-- What the order line has to know of a book as it goes through it: of each session its live transaction's ordinal, and whether a call of it waits.
use Rattle.std.specs.Prelude.{◌≡◌, ◌<◌, ℕ, true, false, is_some, if◌then◌else◌, List, [], ◌∷◌, map, take, Option, Some, None}
use Rattle.std.specs.List.{slice_index_or}
use Rattle.call_contract.specs.Books.{Book, commits, number_in}
use Rattle.call_contract.specs.SerialRuns.{Committed}
use Rattle.call_contract.specs.Sessions.{live_after}
use Rattle.call_contract.specs.States.{Live, of_session}
use Rattle.call_contract.specs.declared.events.Answer.TheVariants as answer
use Rattle.call_contract.specs.declared.events.Event.{Event}
use Rattle.call_contract.specs.declared.events.Event.TheVariants.{Begin, Call, Retry, Fail, Commit, Abort}
use Rattle.call_contract.specs.declared.events.EventAnswer.{EventAnswer}
use Rattle.call_contract.specs.declared.events.EventAnswer.TheVariants as said
use Rattle.workers_text.specs.declared.order.Begun.{Begun}

-- a transaction's ordinal, and whether a call of it waits
abbrev pub begun_of : {C : Type 0} → Option (Live C) → Option Begun
begun_of None = None
begun_of (Some t) = Some (record { ordinal = t.ordinal; waits = is_some t.waits })

-- after a call, or a retry of one that waits, with this answer
abbrev pub after_call : Begun → EventAnswer → Option Begun
after_call b (said.Call (answer.Answered r)) = Some (record { ordinal = b.ordinal; waits = false })
after_call b (said.Call (answer.Waits r a holders)) = Some (record { ordinal = b.ordinal; waits = true })
after_call b (said.Call (answer.Deadlock cycle)) = None
after_call b said.Nothing = Some b
after_call b (said.Number k) = Some b

-- after an entry of its session
abbrev pub after_entry : {C : Type 0} → Option Begun → Event C → EventAnswer → Option Begun
after_entry None Begin given = Some (record { ordinal = number_in given; waits = false })
after_entry None (Call c) given = None
after_entry None Retry given = None
after_entry None (Fail c k f) given = None
after_entry None Commit given = None
after_entry None Abort given = None
after_entry (Some b) Begin given = Some b
after_entry (Some b) (Call c) given = after_call b given
after_entry (Some b) Retry given = if b.waits then after_call b given else Some b
after_entry (Some b) (Fail c k f) given = Some (record { ordinal = b.ordinal; waits = false })
after_entry (Some b) Commit given = None
after_entry (Some b) Abort given = None

-- session and ordinal of the transaction that an entry commits
abbrev pub committed_by : {C : Type 0} → ℕ → Event C → Option Begun → Option (ℕ × ℕ)
committed_by s Begin b = None
committed_by s (Call c) b = None
committed_by s Retry b = None
committed_by s (Fail c k f) b = None
committed_by s Abort b = None
committed_by s Commit None = None
committed_by s Commit (Some b) = Some (s, b.ordinal)

abbrev pub listed : {A : Type 0} → Option A → List A
listed None = []
listed (Some a) = a ∷ []

-- session and ordinal
abbrev pub pair_of : {C : Type 0} → Committed C → ℕ × ℕ
pair_of t = (t.session, t.ordinal)

-- the entries before the one of this index were gone through
pub record OrderedSoFar {C : Type 0} (book : Book C) (i : ℕ) (live : List (Option Begun)) (told : List (ℕ × ℕ)) : Type 0 where
  pub begun : (s : ℕ) → s < 65 → slice_index_or live s None ≡ begun_of (of_session s (live_after [] (take i book)))
  pub order : told ≡ map pair_of (commits (take i book))
