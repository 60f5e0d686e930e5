pub mod InPagesLaws
pub mod NewDocumentLaws
pub mod NewStoreLaws
pub mod NewWorkersLaws
pub mod NewGeneratedLaws
pub mod QueriesLaws
