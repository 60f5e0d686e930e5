pub mod AnswerLaws
pub mod EndLaws
pub mod FeedingLaws
pub mod InputLaws
pub mod LineEnds
pub mod LogLaws
pub mod RunLaws
