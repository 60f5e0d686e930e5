pub mod Weaves
pub mod Bodies
pub mod Desks
pub mod Done
pub mod Sent
pub mod Waiting
