-- The grammar of docs/FILE_FORMAT.md, "Groups and bodies": what is written of a value (`key_bytes`, `record_bytes`, `change_bytes`), what is read at the start of bytes (`key_in`, `record_in`, `change_in`, `changes_of`), and which values are read again.
pub mod Reads
pub mod Divisions
pub mod Labels
pub mod Keys
pub mod Records
pub mod Changes
pub mod Pending
pub mod Entries
