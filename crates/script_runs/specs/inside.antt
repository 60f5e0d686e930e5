-- What only the proofs of this crate say: how a script stands between two of its bytes, and what taking an input leaves.
pub mod Feeding
pub mod Inputs
