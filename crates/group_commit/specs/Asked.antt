-- What a group commit asks of the store, the session and the journal that it is made of (docs/DECISIONS.md, "What shared syncs are asked").
use Rattle.std.specs.Prelude.{◌≡◌, ◌≢◌, ◌+◌, List, None, IsTrue}
use Rattle.atomic_table.specs.Seated.{TableId}
use Rattle.call_contract.specs.Sessions.{live_in}
use Rattle.journal.specs.Groups.{is_next}
use Rattle.journal.specs.Views.{JournalView, TakesGroups}
use Rattle.turn_lock.specs.Turns.{HasAll}
use Rattle.shared_store.specs.Lists.{book_of, drained_in}
use Rattle.shared_store.specs.Sessions.{SessionView}
use Rattle.shared_store.specs.declared.desk.Entry.{Entry}
use Rattle.group_commit.specs.Marks.{last_commit}

-- the session is this store's, has every number, and works under one above 0
pub record IsWholeSession {C B : Type 0} (store : TableId) (session : SessionView C B) : Type 0 where
  pub lock : session.lock ≡ store
  pub all : HasAll session.has
  pub number : session.under ≢ 0

-- a store's list tells no commit that waits to be drained, and no transaction under the number 0
pub record IsDrained {C B : Type 0} (seen : List (Entry C B)) : Type 0 where
  pub drained : drained_in seen ≡ last_commit seen
  pub idle : live_in (book_of seen) 0 ≡ None

-- the journal takes the commit after the last one that a store's list tells
pub record TakesNextOf {C B : Type 0} (seen : List (Entry C B)) (journal : JournalView) : Type 0 where
  pub usable : TakesGroups journal
  pub next : IsTrue (is_next journal.last (last_commit seen + 1))
