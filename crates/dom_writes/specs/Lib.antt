-- words of public clauses
pub mod Changing
pub mod ReadCounts
-- words that only private clauses use
pub mod inside
