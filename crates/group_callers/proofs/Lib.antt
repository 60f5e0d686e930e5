pub mod Members
pub mod Joined
mod Sent
