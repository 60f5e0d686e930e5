-- What contracts say, in this order: what a cell is worth, what a request covers of it, the form of a list of requests, and which requests clash.
pub mod Cells
pub mod Covers
pub mod Forms
pub mod Clashes
-- The words that those are made of: what a mode lets its owner do, and where a request stands to a cell.
pub mod ModeParts
pub mod Places
