pub mod Bounds
pub mod CallCounts
pub mod MemoryDisks
pub mod Memory
pub mod StopImages
