-- Words of the proofs alone.
pub mod FoundNodes
pub mod Seeks
pub mod Taking
