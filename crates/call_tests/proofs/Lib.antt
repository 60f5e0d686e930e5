pub mod Changes
pub mod MadeToys
