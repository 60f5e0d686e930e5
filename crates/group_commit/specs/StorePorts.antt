-- Sessions of a store as the ports of workers: what each adds to the store's list, and what its lines are among that (docs/PROFILE.md, "Workers").
use Rattle.std.specs.Prelude.{◌≡◌, ◌≢◌, ◌⊎◌, ◌<◌, ℕ, Bool, true, false, List, ◌++◌, map, Option, Some, None, is_some}
use Rattle.std.specs.List.{AllByRecursion}
use Rattle.tree_model.specs.Entries.{Entries}
use Rattle.tree_model.specs.Tree.{Tree}
use Rattle.call_contract.specs.Books.{IsRun, last}
use Rattle.call_contract.specs.Calls.{CallMeaning}
use Rattle.call_contract.specs.Sessions.{live_in}
use Rattle.call_contract.specs.States.{start}
use Rattle.command_lines.specs.declared.command.Command.{Command}
use Rattle.command_lines.specs.declared.command.StoreCall.{StoreCall}
use Rattle.turn_lock.specs.Turns.{has_number, is_own}
use Rattle.shared_store.specs.Lists.{OpensFrom, book_of, is_opened, limit_in, number_in, number_of}
use Rattle.shared_store.specs.Sessions.{SessionView, having_seen}
use Rattle.shared_store.specs.declared.desk.Entry.{Entry}
use Rattle.group_commit.specs.Marks.{opening_in}
use Rattle.group_commit.specs.Members.{GroupView, MarksPass, MemberView}
use Rattle.worker_run.specs.Ports.{Ports}
use Rattle.worker_run.specs.declared.port.PortFault.{PortFault}
use Rattle.session_driver.specs.declared.doing.Doing.{Doing}
use Rattle.session_driver.specs.Asking.{doing_of}
use Rattle.group_commit.specs.OwnLines.{printed}
use Rattle.session_driver.specs.Sessions.{Breaks, Ends, Part, Printed}

-- the number of a session
abbrev pub IsSessionNumber : ℕ → Type 0
IsSessionNumber s = (0 < s) × (s < 65)

abbrev pub HaveSessions : List Command → Type 0
HaveSessions lines = AllByRecursion (λ (c : Command). IsSessionNumber c.session) lines

-- a session of a store with its pass of the journal's turn, and the fault that one of its lines has met
pub record PortView (C B : Type 0) : Type 0 where
  pub session : SessionView C B
  pub pass : MarksPass C B
  pub fault : Option PortFault

module _ {C B : Type 0} where
  -- an entry of one of these numbers is the session's
  abbrev pub IsOnlyOf : List Bool → ℕ → Entry C B → Type 0
  IsOnlyOf has s e = (is_own has (number_of e) ≡ false) ⊎ (number_of e ≡ Some s)

  -- the list goes on, and of these numbers the session alone has added entries
  pub record GrewFor (has : List Bool) (s : ℕ) (from to : List (Entry C B)) : Type 0 where
    pub added : List (Entry C B)
    pub list : to ≡ from ++ added
    pub only : AllByRecursion (IsOnlyOf has s) added

  -- so it does, and what was added has of this line of the session what it came to
  pub record HasBroken (has : List Bool) (s : ℕ) (d : Doing C) (from to : List (Entry C B)) : Type 0 where
    pub grew : GrewFor has s from to
    pub breaks : Breaks s d false (book_of grew.added)

  -- a list is opened over this tree, with this number as the last commit's and this limit
  pub record IsOpenedOver (told : B → Option Entries) (es : List (Entry C B)) (t : Tree) (n l : ℕ) : Type 0 where
    pub opened : is_opened es ≡ true
    pub tree : OpensFrom told es t
    pub number : number_in es ≡ n
    pub limit : limit_in es ≡ l

  -- the member is of the group commit; its session has the number that it works under, and that is one of sessions; its pass has seen the opening
  pub record IsPort (group : GroupView) (p : MemberView C B) : Type 0 where
    pub store : p.session.lock ≡ group.store
    pub journal : p.pass.lock ≡ group.lock
    pub session : p.session.under ≢ 0
    pub small : p.session.under < 65
    pub own : has_number p.session.has p.session.under ≡ true
    pub opened : is_some (opening_in p.pass.seen) ≡ true

  -- the same pass of the journal's turn, which has seen the same opening
  pub record IsSamePass (p q : MarksPass C B) : Type 0 where
    pub lock : q.lock ≡ p.lock
    pub has : q.has ≡ p.has
    pub opening : opening_in q.seen ≡ opening_in p.seen

module _ {C B : Type 0} (told : B → Option Entries) (m : CallMeaning C) (has : List Bool) (s : ℕ) (from to : List (Entry C B)) where
  -- what was added has these lines of the session, where the book is a run
  pub record HasPart (lines : List (Printed C)) : Type 0 where
    pub grew : GrewFor has s from to
    pub part : (t : Tree) (n l : ℕ) → IsOpenedOver told from t n l → IsRun m (start t n l) (book_of to) → Part m s (last m (start t n l) (book_of from)) (book_of grew.added) None lines

  -- what was added has of the session perhaps the abort of its transaction, and none is live behind
  pub record HasEnd : Type 0 where
    pub grew : GrewFor has s from to
    pub ends : (t : Tree) (n l : ℕ) → IsOpenedOver told from t n l → IsRun m (start t n l) (book_of to) → Ends m s (last m (start t n l) (book_of from)) (book_of grew.added)

module _ {C B : Type 0} (told : B → Option Entries) (m : CallMeaning C) (made : StoreCall → C) where
  -- ports over members of one group commit
  abbrev pub store_ports : Ports (PortView C B)
  store_ports = record {
    told = λ p. record { session = p.session.under; fault = p.fault; live = is_some (live_in (book_of p.session.seen) p.session.under) };
    did = λ p xs q. (q.session ≡ having_seen q.session.seen p.session) × HasPart told m p.session.has p.session.under p.session.seen q.session.seen (map (printed made) xs) × IsSamePass p.pass q.pass;
    met = λ p c fault q. (q.session ≡ having_seen q.session.seen p.session) × HasBroken p.session.has p.session.under (doing_of made c.what) p.session.seen q.session.seen × IsSamePass p.pass q.pass;
    ended = λ p q. (q.session ≡ having_seen q.session.seen p.session) × HasEnd told m p.session.has p.session.under p.session.seen q.session.seen × IsSamePass p.pass q.pass;
  }
