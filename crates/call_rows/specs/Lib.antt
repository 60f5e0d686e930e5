-- The toys, worked books, and definitions that are wrong.
pub mod Toys
pub mod MadeToys
pub mod Rows
pub mod Wrong
