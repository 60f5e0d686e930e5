pub mod Members
pub mod Sent
