-- What contracts say: who waits for whom along a list, and the cycle that is shown.
pub mod Cycles
pub mod Walks
