-- Words of private functions and of the proof: no public clause has them.
pub mod Bytes
pub mod Codes
pub mod Divisions
pub mod LabelReader
pub mod MadeLabels
