use Rattle.std.proofs.Common.{◌≡◌, ℕ, true}
use Rattle.call_contract.specs.Sessions.{live_in}
use Rattle.tx_core.specs.Cores.{waits_in}
use Rattle.shared_store.specs.Lists.{book_of}
use Rattle.shared_store.specs.Sessions.{having_seen}
use Rattle.shared_store.specs.Waits.{HaveWaited}
use Rattle.shared_store.proofs.session.Session.try_until_ended.Given as goal

-- so many retries had to wait
abbrev pub invariant-loop : goal.invariant-loop
invariant-loop g l =
    (goal.iterator-loop g).can_next l.iterator' × (goal.iterator-loop g).is_finite l.iterator' × (l.self ≡ having_seen l.self.seen l.initial.self)
    × (waits_in (live_in (book_of l.self.seen) l.initial.self.under) ≡ true)
    × ((n : ℕ) × HaveWaited g.B.NodeRead.count g.B.NodeRead.contents g.C.TreeCall.meaning l.initial.self.has l.initial.self.seen l.initial.self.under n l.self.seen)
