pub mod Members
pub mod Kept
