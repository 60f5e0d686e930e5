pub mod Again
pub mod Escapes
pub mod Levels
pub mod Outcomes
mod TokenLaws
pub mod Valid
pub mod Values
