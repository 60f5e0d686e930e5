pub mod Bases
pub mod Checkpoints
pub mod NewPages
pub mod Renewals
pub mod inside
