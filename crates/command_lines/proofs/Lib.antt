pub mod Floats
pub mod SaidTexts
pub mod Sent
pub mod Taken
