-- words of public clauses
pub mod Directions
pub mod Layered
pub mod Steps
pub mod Stretches
pub mod Views
pub mod ViewReads
-- words that only private functions and the proof use
pub mod inside
