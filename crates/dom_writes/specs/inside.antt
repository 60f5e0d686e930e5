-- Words of private functions.
pub mod Above
pub mod EntriesBelow
pub mod Merges
pub mod NewDocuments
pub mod NewPlaces
pub mod NormalTexts
pub mod Outcomes
pub mod Records
pub mod Splits
pub mod TextsSet
