pub mod ScriptLine
pub mod ReadLines
pub mod Book
pub mod StoreMachine
pub mod Statuses
pub mod Checkpoints
pub mod Outside
pub mod TopCall
pub mod Promises
pub mod Commands
pub mod Generated
pub mod Documents
pub mod DocumentsOnTree
-- words of private functions and of the proof
pub mod inside
