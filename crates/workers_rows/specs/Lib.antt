-- the worked text
pub mod Rows
