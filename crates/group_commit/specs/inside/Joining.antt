-- How ports are split off a member, and joined to it again.
use Rattle.std.specs.Prelude.{◌≡◌, ◌⊎◌, ◌<◌, ℕ, Bool, true, false, cond, is_some, List, [], ◌++◌, length, take, Some, None}
use Rattle.std.specs.List.{AllByRecursion}
use Rattle.call_contract.specs.Sessions.{live_in}
use Rattle.command_lines.specs.declared.command.Command.{Command}
use Rattle.journal.specs.Views.{JournalView}
use Rattle.turn_lock.specs.Turns.{GoesOn, has_number, only_number}
use Rattle.shared_store.specs.Lists.{book_of, is_opened, number_of}
use Rattle.shared_store.specs.Sessions.{SessionView, having_seen}
use Rattle.shared_store.specs.declared.desk.Entry.{Entry}
use Rattle.group_commit.specs.Marks.{opening_in}
use Rattle.group_commit.specs.Members.{GroupView, IsOf, Marks, MemberView, only_with}
use Rattle.worker_run.specs.Ports.{Ports}
use Rattle.worker_run.specs.Workers.{ports_of}
use Rattle.group_commit.specs.StorePorts.{IsSamePass, IsSessionNumber, PortView}

module _ {C B : Type 0} where
  -- the first member of a group commit over a store with an empty book: its session has every number but 0, and its pass has 0 too
  pub record IsFirst (group : GroupView) (main : MemberView C B) : Type 0 where
    pub group_is : IsOf group main
    pub numbers : (k : ℕ) → 0 < k → k < 65 → has_number main.session.has k ≡ true
    pub zero : has_number main.pass.has 0 ≡ true
    pub number : IsSessionNumber main.session.under
    pub empty : book_of main.session.seen ≡ []
    -- with what the group commit was made
    pub session : SessionView C B
    pub journal : JournalView
    pub opening : opening_in main.pass.seen ≡ Some (session, journal)
    pub seen : session.seen ≡ main.session.seen

  -- the member of a port
  abbrev pub member_of : PortView C B → MemberView C B
  member_of p = record { session = p.session; pass = p.pass }

  -- the second has the numbers of the first, and what it has seen goes on from what the first has seen
  pub record GoesFrom (a b : MemberView C B) : Type 0 where
    pub has : (k : ℕ) → has_number a.session.has k ≡ true → has_number b.session.has k ≡ true
    pub goes_on : GoesOn number_of a.session.has a.session.seen b.session.seen
    pub zero : has_number a.pass.has 0 ≡ true → has_number b.pass.has 0 ≡ true
    pub marks : (added : Marks C B) × (b.pass.seen ≡ a.pass.seen ++ added)

  -- a port was joined to this member
  abbrev pub IsJoinedTo : MemberView C B → PortView C B → Type 0
  IsJoinedTo z p = GoesFrom (member_of p) z

  -- a port may be joined: it has no transaction
  pub record MayJoin (group : GroupView) (p : PortView C B) : Type 0 where
    pub group_is : IsOf group (member_of p)
    pub ended : live_in (book_of p.session.seen) p.session.under ≡ None

  -- a port that was split off this member
  pub record IsFresh (first : MemberView C B) (p : PortView C B) : Type 0 where
    pub session : p.session ≡ record { lock = first.session.lock; seen = first.session.seen; has = only_number p.session.under; under = p.session.under }
    pub pass : (p.pass.lock ≡ first.pass.lock) × (p.pass.seen ≡ first.pass.seen)
    pub number : IsSessionNumber p.session.under
    pub fault : p.fault ≡ None

  -- there is a port for each session's number that the session gave away, and none for another
  abbrev pub HaveGivenOnes : Ports (PortView C B) → SessionView C B → List (PortView C B) → Type 0
  HaveGivenOnes m main ports = (k : ℕ) → 0 < k → k < 65 → length (ports_of m k ports) ≡ cond (has_number main.has k) 0 1

  -- the line's session is the one that is left, or was given away
  abbrev pub IsServed : SessionView C B → Command → Type 0
  IsServed main c = (c.session ≡ main.under) ⊎ (has_number main.has c.session ≡ false)

  -- with these numbers
  abbrev pub having_numbers : List Bool → SessionView C B → SessionView C B
  having_numbers has p = record { lock = p.lock; seen = p.seen; has = has; under = p.under }

  -- it has given numbers of sessions away, and else is as it was
  pub record HasGivenAway (first now : MemberView C B) : Type 0 where
    pub session : now.session ≡ having_numbers now.session.has first.session
    pub lock : now.pass.lock ≡ first.pass.lock
    pub seen : now.pass.seen ≡ first.pass.seen
    pub zero : has_number now.pass.has 0 ≡ true

  -- a port that was split off under this number, and the one of the member that is left
  abbrev pub fresh_port : MemberView C B → ℕ → PortView C B
  fresh_port main k = record { session = (only_with k main).session; pass = (only_with k main).pass; fault = None }

  abbrev pub left_port : MemberView C B → PortView C B
  left_port main = record { session = main.session; pass = main.pass; fault = None }

  -- ports were split off for the sessions of the lines up to the one of this index
  pub record SplitSoFar (m : Ports (PortView C B)) (lines : List Command) (i : ℕ) (first now : MemberView C B) (ports : List (PortView C B)) : Type 0 where
    pub same : HasGivenAway first now
    pub own : has_number now.session.has now.session.under ≡ true
    pub fresh : AllByRecursion (IsFresh first) ports
    pub given : HaveGivenOnes m now.session ports
    pub served : AllByRecursion (IsServed now.session) (take i lines)

  -- a port that came back: it is over the same session, which has seen what it had and perhaps more, and has no transaction
  pub record CameBack (p q : PortView C B) : Type 0 where
    pub same : q.session ≡ having_seen q.session.seen p.session
    pub pass : IsSamePass p.pass q.pass
    pub goes_on : (added : List (Entry C B)) × (q.session.seen ≡ p.session.seen ++ added)
    pub live : is_some (live_in (book_of q.session.seen) q.session.under) ≡ false

  -- All others were joined to this member after a run that began with the first one: it has every number again, and has seen more.
  pub record HasAllBack (group : GroupView) (first back : MemberView C B) : Type 0 where
    pub group_is : IsOf group back
    pub numbers : (k : ℕ) → 0 < k → k < 65 → has_number back.session.has k ≡ true
    pub zero : has_number back.pass.has 0 ≡ true
    pub opened : is_opened first.session.seen ≡ true
    pub seen : (added : List (Entry C B)) × (back.session.seen ≡ first.session.seen ++ added)
    pub opening : opening_in back.pass.seen ≡ opening_in first.pass.seen
