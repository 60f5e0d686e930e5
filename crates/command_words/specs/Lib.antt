pub mod Arguments
pub mod Commands
pub mod Found
pub mod Numbers
-- words that private functions alone use
pub mod inside
