-- Replies are taken from their workers, the last line's first.
use Rattle.std.specs.Prelude.{◌≡◌, ◌==◌, ◌≤◌, ◌<◌, ℕ, Bool, true, false, List, [], ◌∷◌, ◌++◌, map, filter, length, take, drop, reverse, vec_capacity, MatchOption, Option, if◌then◌else◌}
use Rattle.std.specs.List.{AllByRecursion, AllZip, slice_index_or}
use Rattle.command_lines.specs.declared.command.Command.{Command}
use Rattle.command_lines.specs.declared.line_reply.LineReply.{LineReply}
use Rattle.worker_run.specs.declared.worker.Worker.{Worker}
use Rattle.worker_run.specs.Ports.{Ports}
use Rattle.worker_run.specs.Workers.{own_lines}
use Rattle.worker_run.specs.inside.Working.{HasServed}

-- ---- workers

abbrev pub ports_in : {P : Type 0} → List (Worker P) → List P
ports_in ws = map (λ w. w.port) ws

-- a worker keeps nothing yet, and has room for the replies of its session's lines
abbrev pub IsSeated : {P : Type 0} → Ports P → List Command → Worker P → Type 0
IsSeated m lines w = (w.replies.items ≡ []) × (length (own_lines (m.told w.port).session lines) ≤ vec_capacity w.replies)

-- at each index of the first list this holds of what stands there in the two
abbrev pub AtEachIndex : {A : Type 0} → List A → List A → (A → A → Type 0) → Type 0
AtEachIndex {A = A} old new holds = (i : ℕ) (d : A) → i < length old → holds (slice_index_or old i d) (slice_index_or new i d)

-- a worker has done its part, and keeps its replies behind those that it had
abbrev pub WorkerHasServed : {P : Type 0} → Ports P → List Command → Worker P → Worker P → Type 0
WorkerHasServed m lines v w = HasServed m lines v.port w.port v.replies.items w.replies.items

-- each worker has done its part
abbrev pub AllServed : {P : Type 0} → Ports P → List Command → List (Worker P) → List (Worker P) → Type 0
AllServed m lines old new = AllZip (WorkerHasServed m lines) old new

-- ---- seats: a session and the replies that are kept for it

abbrev pub Seat : Type 0
Seat = ℕ × List LineReply

abbrev pub seats : {P : Type 0} → Ports P → List (Worker P) → List Seat
seats m ws = map (λ w. ((m.told w.port).session, w.replies.items)) ws

abbrev pub seats_of : ℕ → List Seat → List Seat
seats_of s seats = filter (λ (x : Seat). x.0 == s) seats

-- the session of each line has exactly one seat
abbrev pub HaveOneSeat : List Seat → List Command → Type 0
HaveOneSeat seats lines = AllByRecursion (λ (c : Command). length (seats_of c.session seats) ≡ 1) lines

-- the seat of the session, here or further on, gave its last reply
abbrev pub GaveHere : ℕ → LineReply → Seat → Seat → List Seat → List Seat → Type 0 → Bool → Type 0
GaveHere s r x y xs ys further true = (x.1 ≡ y.1 ++ r ∷ []) × (ys ≡ xs)
GaveHere s r x y xs ys further false = (y.1 ≡ x.1) × further

abbrev pub Gave : ℕ → LineReply → List Seat → List Seat → Type 0
Gave s r [] new = ⊥
Gave s r (x ∷ xs) [] = ⊥
Gave s r (x ∷ xs) (y ∷ ys) = (y.0 ≡ x.0) × GaveHere s r x y xs ys (Gave s r xs ys) (x.0 == s)

-- the session has no seat, or no reply there
abbrev pub LacksHere : Seat → Type 0 → Bool → Type 0
LacksHere x further true = x.1 ≡ []
LacksHere x further false = further

abbrev pub Lacks : ℕ → List Seat → Type 0
Lacks s [] = Unit {0}
Lacks s (x ∷ xs) = LacksHere x (Lacks s xs) (x.0 == s)

-- the last reply was taken from the seat of the session, or there was none
abbrev pub TookLast : ℕ → List Seat → List Seat → Option LineReply → Type 0
TookLast s old new taken = MatchOption taken (Lacks s old) (λ r. Gave s r old new)

-- ---- merging

-- of replies that stand beside lines, those of a session
abbrev pub own_replies : ℕ → List Command → List LineReply → List LineReply
own_replies s [] rs = []
own_replies s (c ∷ cs) [] = []
own_replies s (c ∷ cs) (r ∷ rs) = if c.session == s then r ∷ own_replies s cs rs else own_replies s cs rs

-- what a seat had, and has while the lines from `left` on have their replies
pub record Merging (lines : List Command) (left : ℕ) (out : List LineReply) (x y : Seat) : Type 0 where
  pub same : y.0 ≡ x.0
  pub kept : x.1 ≡ y.1 ++ own_replies x.0 (drop left lines) (reverse out)
  pub rest : length y.1 ≡ length (own_lines x.0 (take left lines))

abbrev pub AllMerging : List Command → ℕ → List LineReply → List Seat → List Seat → Type 0
AllMerging lines left out xs ys = AllZip (Merging lines left out) xs ys

-- each seat has a reply for each of its lines
abbrev pub AreFull : List Command → List Seat → Type 0
AreFull lines seats = AllByRecursion (λ (x : Seat). length x.1 ≡ length (own_lines x.0 lines)) seats

-- each seat's replies stand beside its lines
abbrev pub AreMerged : List Command → List LineReply → List Seat → Type 0
AreMerged lines out seats = AllByRecursion (λ (x : Seat). own_replies x.0 lines out ≡ x.1) seats
