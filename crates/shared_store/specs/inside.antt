-- Words of private functions and of the proof.
pub mod Desks
pub mod Ends
