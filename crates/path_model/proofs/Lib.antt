pub mod ProgramAnswers
pub mod Members
pub mod OrderLaws
pub mod SubtreeLaws
pub mod DescendantLaws
pub mod Filters
pub mod Standing
pub mod NodeLooks
pub mod Ways
pub mod OneMore
pub mod AnswerLaws
pub mod AxisLooks
pub mod PathLaws
pub mod StepLaws
pub mod PartLaws
pub mod LawfulParts
mod Rows
mod AxisRows
mod ComparisonRows
mod FunctionRows
mod LawfulRows
