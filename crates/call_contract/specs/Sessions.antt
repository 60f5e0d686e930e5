-- What a book tells of its sessions, whatever its tree is: who is live, who waits and in which order, and how many transactions were begun and committed.
use Rattle.std.specs.Prelude.{ℕ, ◌&&◌, ◌==◌, Bool, true, false, List, [], ◌∷◌, ◌++◌, filter, length, Option}
use Rattle.call_contract.specs.Books.{Book, open_after}
use Rattle.call_contract.specs.States.{Live, of_session, without}
use Rattle.call_contract.specs.declared.events.Answer.TheVariants.{Waits}
use Rattle.call_contract.specs.declared.events.Event.{Event}
use Rattle.call_contract.specs.declared.events.Event.TheVariants.{Begin, Call, Retry, Fail, Commit, Abort}
use Rattle.call_contract.specs.declared.events.EventAnswer.{EventAnswer}
use Rattle.call_contract.specs.declared.events.EventAnswer.TheVariants as said

-- the transactions that are live after a book, by those before it; what they hold stands in no entry
abbrev pub live_after : {C : Type 0} → List (Live C) → Book C → List (Live C)
live_after ts [] = ts
live_after ts (n ∷ ns) = live_after (open_after ts n) ns

-- that of a session
abbrev pub live_in : {C : Type 0} → Book C → ℕ → Option (Live C)
live_in book s = of_session s (live_after [] book)

-- a transaction as its entries show it: all but what it holds
abbrev pub without_grants : {C : Type 0} → Live C → Live C
without_grants t = record t { grants = [] }

-- the queue of those that wait: one that begins to wait stands last, one that waits again keeps its place
abbrev pub queued_by : {C : Type 0} → ℕ → Event C → EventAnswer → List ℕ → List ℕ
queued_by s Begin given ss = ss
queued_by s (Call c) (said.Call (Waits r a holders)) ss = ss ++ s ∷ []
queued_by s Retry (said.Call (Waits r a holders)) ss = ss
queued_by s e given ss = without s ss

abbrev pub queue_after : {C : Type 0} → List ℕ → Book C → List ℕ
queue_after ss [] = ss
queue_after ss (n ∷ ns) = queue_after (queued_by n.session n.event n.answer ss) ns

abbrev pub is_begin : {C : Type 0} → Event C → Bool
is_begin Begin = true
is_begin e = false

abbrev pub is_commit : {C : Type 0} → Event C → Bool
is_commit Commit = true
is_commit e = false

-- how many transactions were begun, by all sessions and by one, and how many were committed
abbrev pub begins : {C : Type 0} → Book C → ℕ
begins book = length (filter (λ n. is_begin n.event) book)

abbrev pub begins_of : {C : Type 0} → Book C → ℕ → ℕ
begins_of book s = length (filter (λ n. (n.session == s) && is_begin n.event) book)

abbrev pub commits_in : {C : Type 0} → Book C → ℕ
commits_in book = length (filter (λ n. is_commit n.event) book)
