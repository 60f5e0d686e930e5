-- Words of private functions and of the proof.
pub mod CommandRuns
pub mod Stores
pub mod Asking
pub mod Showing
pub mod Counting
pub mod Working
pub mod Renewing
pub mod Generating
pub mod Texts
