-- words of public clauses
pub mod Kept
pub mod LookReads
pub mod Looks
pub mod Positions
pub mod Runs
pub mod Steps
pub mod Wholes
-- words that only private clauses use
pub mod inside
