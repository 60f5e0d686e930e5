pub mod CutLaws
pub mod NewPagesLaws
pub mod PhaseLaws
pub mod RefusedLaws
pub mod RenewAnswers
pub mod RenewLaws
pub mod WriteLaws
