-- words of public clauses
pub mod Resources
pub mod Intentions
pub mod ResourceText
pub mod Hashed
-- words that only the proof uses
pub mod inside
