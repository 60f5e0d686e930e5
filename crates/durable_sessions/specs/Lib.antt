pub mod Durable
pub mod Standing
pub mod Asked
pub mod Reasons
pub mod InTurn
pub mod Lone
pub mod WrittenBooks
-- words of private functions and of the proof
pub mod inside
