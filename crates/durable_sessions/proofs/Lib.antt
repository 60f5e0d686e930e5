pub mod CommitLaws
pub mod StandingLaws
pub mod AnswerLaws
pub mod HaltLaws
pub mod InTurnLists
pub mod InTurnLaws
pub mod LoneLaws
mod BookBodies
mod Standing
mod ValidCommits
mod ValidEntries
mod WrittenChanges
