pub mod CommitLaws
pub mod ContentsLaws
pub mod ContentsRows
pub mod HiddenLaws
pub mod ImagesLaws
pub mod TreeLaws
pub mod WholePages
