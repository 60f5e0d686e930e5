-- Words of the proofs alone.
pub mod Cursor
pub mod Nests
