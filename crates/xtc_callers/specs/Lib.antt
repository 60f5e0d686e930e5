pub mod InPages
pub mod NewDocuments
pub mod NewStores
pub mod NewWorkers
pub mod NewGenerated
pub mod Queries
