-- Values
pub mod PlainValues
pub mod Places
