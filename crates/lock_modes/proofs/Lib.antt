pub mod Joins
mod ModeRows
