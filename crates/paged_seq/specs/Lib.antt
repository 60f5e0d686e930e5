pub mod PagedMaps
pub mod PagedFiles
-- words that only the proof uses
pub mod Places
pub mod Sizes
