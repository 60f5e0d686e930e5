-- Words that only private functions and the proofs use.
pub mod Behind
pub mod Counts
pub mod Finishing
pub mod Firsts
pub mod Fronts
pub mod Merging
pub mod Nets
pub mod Over
pub mod Syncs
pub mod Walking
