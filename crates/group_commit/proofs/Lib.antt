pub mod Lists
pub mod MarkLaws
pub mod Gathered
pub mod Batches
pub mod Scribing
pub mod Belonging
pub mod Ending
pub mod Telling
pub mod Committing
pub mod Grouping
pub mod Closed
pub mod Sent
pub mod Bodied
mod Passes
mod Lines
mod Broken
mod Calls
mod Waits
mod Ends
mod Answered
mod Splits
mod Joins
mod Came
mod Runs
mod Started
mod Opened
mod Handed
mod Over
mod Finish
mod Told
