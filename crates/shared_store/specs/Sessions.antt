-- A session as contracts see it, and what its calls leave.
use Rattle.std.specs.Prelude.{◌≡◌, ℕ, Bool, false, slice_set, List, Some, IfSome}
use Rattle.atomic_table.specs.Seated.{TableId}
use Rattle.turn_lock.specs.Turns.{GoesOn, longer, merged}
use Rattle.tx_core.specs.Cores.{CoreView}
use Rattle.shared_store.specs.Lists.{base_in, limit_in, number_in, number_of, opening_in}
use Rattle.shared_store.specs.declared.desk.Entry.{Entry}

-- its store, what it has seen of the list, the numbers that it has, and the one that it works under
pub record SessionView (C B : Type 0) : Type 0 where
  pub lock : TableId
  pub seen : List (Entry C B)
  pub has : List Bool
  pub under : ℕ

module _ {C B : Type 0} where
  -- with this seen
  abbrev pub having_seen : List (Entry C B) → SessionView C B → SessionView C B
  having_seen seen p = record { lock = p.lock; seen = seen; has = p.has; under = p.under }

  -- with this number given away
  abbrev pub session_without : ℕ → SessionView C B → SessionView C B
  session_without n p = record { lock = p.lock; seen = p.seen; has = slice_set p.has n false; under = p.under }

  -- with what it or another has seen, and the numbers of both
  abbrev pub joined_session : SessionView C B → SessionView C B → SessionView C B
  joined_session p q = record { lock = p.lock; seen = longer p.seen q.seen; has = merged p.has q.has; under = p.under }

  -- The call found some list, which goes on from what the session had seen with no entry of its numbers, did this to it, and the session has seen what came of it.
  pub record HasDone (p q : SessionView C B) (does : List (Entry C B) → List (Entry C B) → Type 0) : Type 0 where
    pub same : q ≡ having_seen q.seen p
    pub before : List (Entry C B)
    pub goes_on : GoesOn number_of p.has p.seen before
    pub did : does before q.seen

  -- the core is opened as the list tells, over a base that goes on from the one told
  pub record IsOpenedAs (unchanged : B → B → Type 0) (seen : List (Entry C B)) (core : CoreView C B) : Type 0 where
    pub opening : opening_in seen ≡ Some core.opening
    pub number : number_in seen ≡ core.number
    pub limit : limit_in seen ≡ core.limit
    pub base : IfSome (base_in seen) (λ b. unchanged b core.base)
