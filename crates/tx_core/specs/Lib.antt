-- words of public clauses
pub mod Drains
pub mod Cores
pub mod Queues
pub mod Refusals
pub mod Retries
pub mod Commits
pub mod Holding
pub mod Truths
-- words that only private functions and the proof use
pub mod inside
