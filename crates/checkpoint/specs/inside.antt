-- Words that only private functions and the proofs use.
pub mod Gathered
pub mod Phases
pub mod Renewing
