pub mod Marks
pub mod Written
pub mod Members
pub mod Asked
pub mod Closings
pub mod OwnLines
pub mod StorePorts
pub mod Cores
pub mod Journals
-- words that only private functions and the proof use
pub mod inside
