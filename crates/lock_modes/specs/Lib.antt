-- the parts of a mode, the modes, the tables that they are proved to agree with, and their names
pub mod Parts
pub mod Modes
pub mod EdgeModes
pub mod PrintedTables
pub mod ModeNames
