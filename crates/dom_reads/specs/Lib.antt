-- words of public clauses
pub mod FoundNodes
pub mod ReadCounts
pub mod Reading
pub mod SubtreeWalks
pub mod TextCuts
-- words that only private clauses use
pub mod inside
