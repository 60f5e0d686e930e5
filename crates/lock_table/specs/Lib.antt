-- words of public clauses: modes with their joins, the same resource, the table, and what a list of grants comes to
pub mod Asks
pub mod Resources
pub mod Tables
pub mod Grants
-- words that only the proof uses
pub mod inside
