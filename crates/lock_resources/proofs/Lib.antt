mod IntentionRows
pub mod Laws
pub mod Same
pub mod Texts
pub mod Ways
