-- Words that only private functions and the proofs use.
pub mod Installing
