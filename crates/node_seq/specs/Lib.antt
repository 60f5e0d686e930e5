-- words of public clauses
pub mod ChangeLists
pub mod Counting
pub mod Reads
pub mod Trees
pub mod WalkSteps
-- words that only the proof uses
pub mod inside
