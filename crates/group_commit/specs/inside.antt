-- Words of private functions and of the proof.
pub mod Scribes
pub mod Answering
pub mod Joining
pub mod Handing
pub mod PortLaws
pub mod Running
