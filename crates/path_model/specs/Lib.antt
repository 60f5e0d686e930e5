-- Paths
pub mod Paths
pub mod PlainPaths
pub mod Lawful
-- Positions and axes
pub mod Positions
pub mod Sets
pub mod Axes
-- Values
pub mod Numbers
pub mod Values
pub mod Texts
pub mod Functions
-- What a path means
pub mod Meaning
-- How it is evaluated
pub mod Programs
pub mod AxisPrograms
pub mod Evaluation
-- The call
pub mod Finds
