pub mod Contents
pub mod Laws
pub mod MadePages
pub mod StoredTrees
