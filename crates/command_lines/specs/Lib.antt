pub mod Calls
pub mod KeyValues
pub mod Lines
pub mod Reasons
pub mod Replies
pub mod ReplyValues
pub mod Taking
pub mod ValidCommands
pub mod Words
-- words that private functions alone use
pub mod inside
