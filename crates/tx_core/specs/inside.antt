-- Words of private functions and of the proof.
pub mod Asking
pub mod Committing
pub mod Goes
pub mod Kept
pub mod Known
pub mod Passed
pub mod Retrying
pub mod Standing
pub mod Sessions
