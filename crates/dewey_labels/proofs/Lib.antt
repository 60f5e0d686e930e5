pub mod Ancestors
pub mod Codes
pub mod Decimals
pub mod Fill
mod Filled
pub mod LabelOf
mod LabelRows
pub mod LabelTexts
pub mod Labels
pub mod Limits
pub mod NewCodes
mod NewLabelCalls
mod NewLabelRows
pub mod NewLabels
pub mod Reading
pub mod Sides
pub mod Toward
