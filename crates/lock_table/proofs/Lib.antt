mod Again
pub mod Granted
pub mod GroupModes
mod Holders
pub mod Lifted
pub mod Listing
pub mod Maps
mod Shown
pub mod Together
