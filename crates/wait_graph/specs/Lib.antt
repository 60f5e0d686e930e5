-- words of public clauses: who waits with which request, and so for whom
pub mod Graphs
-- words that only the proof uses
pub mod inside
