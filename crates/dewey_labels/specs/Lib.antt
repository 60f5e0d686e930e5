-- words of public clauses: what a label is, its ancestors, its sides, its text, and the label of a new node
pub mod Labels
pub mod Ancestors
pub mod Sides
pub mod LabelText
pub mod NewLabels
pub mod LabelLimits
pub mod Lists
-- words that only the proof uses
pub mod inside
-- how a type may hold a list of itself
pub mod formers
