-- What contracts say.
pub mod DiskFaults
pub mod Appends
pub mod Asked
pub mod Batches
pub mod Bodies
pub mod Groups
pub mod Heads
pub mod ImageAppends
pub mod Journals
pub mod Openings
pub mod PageImages
pub mod Refusals
pub mod Resets
pub mod Steps
pub mod Views
-- Words that only private functions and the proofs use.
pub mod inside
