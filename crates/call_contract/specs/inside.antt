-- Words that only the proofs use.
pub mod Soundness
