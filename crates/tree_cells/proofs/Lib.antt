pub mod Agreement
pub mod Conflict
pub mod Coverage
pub mod Edges
pub mod FormedRows
pub mod Insertions
pub mod KeyChanges
pub mod RowChanges
pub mod Rows
pub mod SameTrees
pub mod Seen
pub mod Symmetry
mod CoverRows
