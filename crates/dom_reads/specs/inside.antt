-- Words of private functions.
pub mod AttributeWalks
pub mod Catalogues
pub mod Counts
pub mod FragmentBuilders
pub mod Gathered
pub mod InSubtrees
pub mod Steps
pub mod Substrings
