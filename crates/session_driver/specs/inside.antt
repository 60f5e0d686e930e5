-- Words of private functions and of the proof.
pub mod Steps
pub mod SessionLaws
