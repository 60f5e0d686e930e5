-- Words of private functions and of the proof: no public clause has them.
pub mod Barring
pub mod Buckets
pub mod GroupModes
pub mod Rows
