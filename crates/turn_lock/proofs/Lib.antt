mod Entries
pub mod Numbers
mod Passes
mod StepsKept
mod PassesKept
pub mod Sent
