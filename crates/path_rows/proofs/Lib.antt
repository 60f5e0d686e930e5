pub mod LookRows
pub mod PathRows
