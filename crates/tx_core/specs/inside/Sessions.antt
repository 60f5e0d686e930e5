-- What a core's parts keep of its sessions, as the book tells of them.
use Rattle.std.specs.Prelude.{◌≡◌, ◌≤◌, ◌<◌, ℕ, ◌+◌, [], Option, Some, None, length, slice_get, vec_capacity, if◌then◌else◌}
use Rattle.std.specs.Ordering.{nat_cmp}
use Rattle.std.specs.BTreeMap.{get}
use Rattle.call_contract.specs.Books.{Book}
use Rattle.call_contract.specs.States.{Live, Waiting}
use Rattle.call_contract.specs.Sessions.{live_after, live_in, queue_after, begins, begins_of, commits_in}
use Rattle.call_contract.specs.declared.events.Event.TheVariants as event
use Rattle.call_contract.specs.declared.events.Noted.{Noted}
use Rattle.tx_core.specs.Cores.{waits_in}
use Rattle.tx_core.specs.Queues.{times}
use Rattle.tx_core.specs.inside.Committing.{KeepsPrepared}
use Rattle.node_seq.specs.declared.node_read.SeqError.{SeqError}
use Rattle.node_seq.specs.declared.node_read.SeqError.TheVariants.{DiskFault, NoMemory}
use Rattle.tx_core.specs.declared.errors.CallError.{CallError}
use Rattle.tx_core.specs.declared.errors.CallError.TheVariants as call_error
use Rattle.tx_core.specs.declared.parts.Parts.{Parts}
use Rattle.tx_core.specs.declared.parts.Place.{Place}
use Rattle.tx_core.specs.declared.parts.Seat.{Seat}
use Rattle.tx_core.specs.inside.Standing.{seat_in, ordinal_in}

-- whether there is a live transaction, and the entry of the book that has the call with which it waits, if it does
abbrev pub wait_of : Option Seat → Option (Option ℕ)
wait_of None = None
wait_of (Some seat) = Some seat.waiting

abbrev pub wait_in : Option Place → Option (Option ℕ)
wait_in p = wait_of (seat_in p)

-- the book has the call at this entry
pub record HasCallAt {C : Type 0} (book : Book C) (i : ℕ) (c : C) : Type 0 where
  pub entry : Noted C
  pub there : slice_get book i ≡ Some entry
  pub call : entry.event ≡ event.Call c

abbrev pub IsWait : {C : Type 0} → Book C → Option ℕ → Option (Waiting C) → Type 0
IsWait book None None = Unit {0}
IsWait book None (Some w) = ⊥
IsWait book (Some i) None = ⊥
IsWait book (Some i) (Some w) = HasCallAt book i w.call

-- a session has a live transaction where the book tells of one, and it waits with the call with which the book tells that it waits
abbrev pub IsToldSeat : {C : Type 0} → Book C → Option (Option ℕ) → Option (Live C) → Type 0
IsToldSeat book None None = Unit {0}
IsToldSeat book None (Some t) = ⊥
IsToldSeat book (Some w) None = ⊥
IsToldSeat book (Some w) (Some t) = IsWait book w t.waits

-- there is room in the book for an entry more of each live and of each waiting transaction, and for so many others
abbrev pub HasRoom : {C B : Type 0} → ℕ → Parts C B → Type 0
HasRoom more p = length p.book.items + p.live + length p.waiting.items + more ≤ vec_capacity p.book

-- the parts have of the sessions what the book tells, whatever the base is
pub record IsSeated {C B : Type 0} (p : Parts C B) : Type 0 where
  pub seats : (s : ℕ) → IsToldSeat p.book.items (wait_in (get nat_cmp p.places s)) (live_in p.book.items s)
  pub ordinals : (s : ℕ) → ordinal_in (get nat_cmp p.places s) ≡ begins_of p.book.items s
  pub queue : p.waiting.items ≡ queue_after [] p.book.items
  pub waits : (s : ℕ) → times s p.waiting.items ≡ (if waits_in (live_in p.book.items s) then 1 else 0)
  pub begun : p.begun ≡ begins p.book.items
  pub number : p.number ≡ p.opened + commits_in p.book.items
  pub live : p.live ≡ length (live_after [] p.book.items)
  pub limited : p.opened + p.begun ≤ p.limit
  pub fits : p.limit < 4294967296
  pub numbered : p.number + p.live ≤ p.opened + p.begun
  pub room : HasRoom 0 p
  pub prepared : KeepsPrepared p

-- so it is of q, with the opening's numbers of p
pub record IsSeatedFor {C B : Type 0} (p q : Parts C B) : Type 0 where
  pub seated : IsSeated q
  pub opened : q.opened ≡ p.opened
  pub limit : q.limit ≡ p.limit

-- and with its layers
pub record IsSeatedAs {C B : Type 0} (p q : Parts C B) : Type 0 where
  pub seated : IsSeated q
  pub opened : q.opened ≡ p.opened
  pub limit : q.limit ≡ p.limit
  pub layers : q.layers ≡ p.layers

-- the error of an attempt whose reading ended in one
abbrev pub call_error_of : SeqError → CallError
call_error_of DiskFault = call_error.DiskFault
call_error_of NoMemory = call_error.NoMemory
