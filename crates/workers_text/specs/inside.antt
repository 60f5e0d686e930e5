-- words of what was read, of places, and of the order line
pub mod Ordering
pub mod Inputs
pub mod Places
