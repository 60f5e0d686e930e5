-- words of public clauses
pub mod Values
-- words that only private clauses use
pub mod inside
