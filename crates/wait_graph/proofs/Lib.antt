mod Answered
mod Closed
mod Gathered
pub mod Kept
mod Layers
mod Searching
