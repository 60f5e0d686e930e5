-- A small document, what paths find in it, and what they look at.
pub mod Document
pub mod Answers
pub mod Looks
