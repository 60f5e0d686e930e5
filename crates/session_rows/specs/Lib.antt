-- the worked scripts
pub mod Scripts
