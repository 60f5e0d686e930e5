-- What contracts say: a call and its laws, then the lock machine from its states to its books, in the order in which one builds on the other.
pub mod Calls
pub mod CallsOfCalls
pub mod States
pub mod Attempts
pub mod Waits
pub mod Steps
pub mod SerialRuns
pub mod Books
pub mod CallChanges
pub mod Sessions
-- Words of laws about a run: what one transaction's commit leaves of another's calls, what becomes of a call that waits, what an abort or a deadlock leaves, and what a deadlock shows.
pub mod Replays
pub mod Lives
pub mod Waiters
pub mod Ends
pub mod Deadlocks
-- Words that only the proofs use.
pub mod inside
