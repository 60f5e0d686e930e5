-- words of contracts
pub mod Refusals
pub mod Progress
pub mod Retries
pub mod Lines
pub mod Waiters
pub mod Committed
pub mod Driving
pub mod Asking
pub mod Sessions
-- words that only private functions and the proof use
pub mod inside
