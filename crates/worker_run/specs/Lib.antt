pub mod Ports
pub mod Workers
-- words that private functions alone use
pub mod inside
