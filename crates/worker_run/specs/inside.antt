-- words of how workers are run, put together and seated
pub mod Working
pub mod Merging
pub mod Seating
pub mod Running
