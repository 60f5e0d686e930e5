-- What contracts say.
pub mod Causes
pub mod Openings
-- Words that only private functions and the proofs use.
pub mod inside
