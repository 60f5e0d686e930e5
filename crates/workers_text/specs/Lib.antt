pub mod WorkersText
pub mod Entries
pub mod Limits
pub mod Shown
-- words that private functions alone use
pub mod inside
