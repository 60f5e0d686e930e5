pub mod Least
pub mod Pigeons
pub mod Shown
pub mod Simple
pub mod Turned
pub mod Unique
