mod AttributeWalks
mod FoundLabels
mod RowWalks
mod RowsBehind
mod TreeWalks
mod NodeWalks
mod SingleLooks
mod ReadCounts
mod RowLimits
mod TreeLooks
pub mod Running
mod LabelWays
pub mod RowsAhead
