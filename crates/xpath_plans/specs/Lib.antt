-- which request a look makes, and those of a program
pub mod LookRequests
-- each look once
pub mod OnceNoted
-- what a look reads of a tree
pub mod LookCells
-- the call `find` to the machine of locks
pub mod Finds
-- words that only private functions use
pub mod inside
