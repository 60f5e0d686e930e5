-- Which calls are valid, which changes of a key are any, and what a call changes.
pub mod ValidCalls
pub mod KeyChanges
pub mod SubtreeEntries
pub mod CallChanges
