-- What DOM calls mean to the machine of locks.
pub mod Agreement
pub mod Meaning
