pub mod Lists
pub mod Calls
pub mod Bodies
pub mod Sessions
-- words that only private functions and the proof use
pub mod inside
pub mod Waits
