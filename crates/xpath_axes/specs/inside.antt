-- Words of private functions.
pub mod Ahead
pub mod Behind
pub mod Beside
pub mod Walks
