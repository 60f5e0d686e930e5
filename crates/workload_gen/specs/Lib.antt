pub mod LineTexts
pub mod Scripts
pub mod Summaries
-- words that private functions alone use
pub mod inside
