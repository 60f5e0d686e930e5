-- Words of public clauses.
pub mod Testing
-- Words that only private functions and the proofs use.
pub mod inside
