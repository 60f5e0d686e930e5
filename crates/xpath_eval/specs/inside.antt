-- Words of private functions.
pub mod Contexts
pub mod Chains
pub mod Memos
pub mod Operations
pub mod Orders
pub mod Places
pub mod Steps
pub mod Texts
pub mod Walks
