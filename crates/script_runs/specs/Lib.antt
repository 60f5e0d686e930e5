-- What the contracts of public calls say.
pub mod Counts
pub mod Lines
pub mod Machine
pub mod Reads
pub mod Runs
pub mod Texts
pub mod Whole
-- Words of the proof alone.
pub mod inside
